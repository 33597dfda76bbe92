-- What is left is an end of what was left.
use Rattle.std.proofs.Common.{◌≡◌, ◌≤◌, ◌+◌, ◌-◌, inl, inr, min, ℕ, List, [], ◌++◌, length, drop, Option, Some, None, refl, sym, ap, subst, ◌∙◌, arith, length-append, length-drop}
use Rattle.std.proofs.lemmas.List.{drop-append-le, drop-drop, drop_all, drop_at}
use Rattle.http_wire.specs.Reading.{IsEndOf}
use Rattle.http_wire.specs.Reading.{unread}
use Rattle.http_wire.proofs.BodyLemmas.{all_or, none_some, some_none, unread_none, value_is}

pub end_same : (old new : Option (List ℕ)) → new ≡ old → IsEndOf old new
end_same None new is = tt
end_same (Some bytes) new is = (0, omega arith, is)

drop_behind : (front l : List ℕ) (k : ℕ) → drop (length front + k) (front ++ l) ≡ drop k l
drop_behind front l k = sym (drop-drop k (length front) (front ++ l)) ∙ ap (drop k) (drop_at front l (length front) refl)

-- where the front grew, the rest is an end
pub rest_end : (now front : List ℕ) (first left : Option (List ℕ)) → unread now left ≡ unread front first → length front ≤ length now → IsEndOf first left
rest_end now front None left told longer = tt
rest_end now front (Some l) None told longer = none_some _ told
rest_end now front (Some l) (Some m) told longer =
    let same : now ++ m ≡ front ++ l = value_is _ _ told in
    let lengths : length now + length m ≡ length front + length l = sym (length-append now m) ∙ ap length same ∙ length-append front l in
    let k : ℕ = length now - length front in
    let more : length now ≡ length front + (length now - length front) = omega (arith, longer) in (
      length now - length front,
      omega (arith, lengths, longer),
      ap Some (sym (drop_at now m (length now) refl) ∙ ap (drop (length now)) same ∙ ap (λ (n : ℕ). drop n (front ++ l)) more ∙ drop_behind front l (length now - length front)),
    )

-- where the front is as long as it was, the rest is the same
pub rest_same : (now front : List ℕ) (first left : Option (List ℕ)) → unread now left ≡ unread front first → length now ≡ length front → left ≡ first
rest_same now front None None told same = refl
rest_same now front None (Some m) told same = some_none _ told
rest_same now front (Some l) None told same = none_some _ told
rest_same now front (Some l) (Some m) told same =
    ap Some (sym (drop_at now m (length now) refl) ∙ ap (drop (length now)) (value_is _ _ told) ∙ ap (λ (n : ℕ). drop n (front ++ l)) same ∙ drop_at front l (length front) refl)

end_at_hand : (carried : List ℕ) (left : Option (List ℕ)) (n : ℕ) → n ≤ length carried → IsEndOf (unread carried left) (unread (drop n carried) left)
end_at_hand carried None n within = tt
end_at_hand carried (Some l) n within = (n, omega (arith, within, length-append carried l), ap Some (sym (drop-append-le n carried l within)))

end_on_link : (carried : List ℕ) (left after : Option (List ℕ)) → IsEndOf left after → IsEndOf (unread carried left) after
end_on_link carried None after h = tt
end_on_link carried (Some l) after h = (length carried + h.0, omega (arith, h.1, length-append carried l), h.2 ∙ ap Some (sym (drop_behind carried l h.0)))

-- what filling a room leaves
pub room_rest : (carried rest : List ℕ) (left after : Option (List ℕ)) (n size : ℕ) → n ≡ min size (length carried) → rest ≡ drop n carried → IsEndOf left after → (n ≡ size → after ≡ left) → IsEndOf (unread carried left) (unread rest after)
room_rest carried rest left after n size count is end idle = elim (all_or size (length carried)) [
  | inl within ↦
      let same : after ≡ left = idle (omega (arith, count, within)) in
      subst (λ (o : Option (List ℕ)). IsEndOf (unread carried left) o) (sym (ap (λ (xs : List ℕ). unread xs after) is ∙ ap (unread (drop n carried)) same)) (end_at_hand carried left n (omega (arith, count)))
  | inr over ↦
      let none : rest ≡ [] = is ∙ drop_all n carried (omega (arith, count, over)) in
      subst (λ (o : Option (List ℕ)). IsEndOf (unread carried left) o) (sym (ap (λ (xs : List ℕ). unread xs after) none ∙ unread_none after)) (end_on_link carried left after end)
]

-- an end of what stands behind the first bytes
pub end_behind : (carried : List ℕ) (left before after : Option (List ℕ)) (end : ℕ) → unread carried left ≡ before → end ≤ length carried → IsEndOf (unread (drop end carried) left) after → IsEndOf before after
end_behind carried left before after end told within h = subst (λ (o : Option (List ℕ)). IsEndOf o after) told (go left h) where
  go : (o : Option (List ℕ)) → IsEndOf (unread (drop end carried) o) after → IsEndOf (unread carried o) after
  go None h = tt
  go (Some l) h =
      let same : drop end carried ++ l ≡ drop end (carried ++ l) = sym (drop-append-le end carried l within) in (
        end + h.0,
        omega (arith, h.1, ap length same, length-drop end (carried ++ l), length-append carried l, within),
        h.2 ∙ ap Some (ap (drop h.0) same ∙ drop-drop h.0 end (carried ++ l)),
      )
