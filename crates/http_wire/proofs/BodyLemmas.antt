-- A body that is taken of the bytes at hand and of the link.
use Rattle.std.proofs.Common.{◌≡◌, ◌<◌, ◌≤◌, ◌+◌, ◌⊎◌, inl, inr, min, ℕ, List, [], ◌++◌, length, take, drop, Option, Some, None, IfSome, refl, sym, ap, ◌∙◌, arith, append_assoc, length-append}
use Rattle.std.proofs.lemmas.List.{take_all, drop_all, take_at, drop_at, take-append-drop, length-take-le}
use Rattle.http_wire.specs.Reading.{unread}

abbrev value_or : List ℕ → Option (List ℕ) → List ℕ
value_or d None = d
value_or d (Some z) = z

pub value_is : (x y : List ℕ) → Some x ≡ Some y → x ≡ y
value_is x y h = ap (value_or x) h

pub none_some : {A B : Type 0} (x : A) → None ≡ Some x → B
none_some x h = grind (arith, h)

pub some_none : {A B : Type 0} (x : A) → Some x ≡ None → B
some_none x h = grind (arith, h)

-- the link ended before the body was whole
pub ends_short : (now front : List ℕ) (first left : Option (List ℕ)) (from at size : ℕ) → unread now left ≡ unread front first → IfSome left (λ l. l ≡ []) → length now ≡ at → length front ≡ from → at < size → IfSome first (λ l. from + length l < size)
ends_short now front None left from at size told ended n f less = tt
ends_short now front (Some l) None from at size told ended n f less = none_some _ told
ends_short now front (Some l) (Some m) from at size told ended n f less =
    let same : length now + length m ≡ length front + length l = sym (length-append now m) ∙ ap length (value_is _ _ told) ∙ length-append front l in
    let none : length m ≡ 0 = ap length ended in
    omega (arith, same, none, n, f, less)

pub all_or : (m n : ℕ) → (m ≤ n) ⊎ (n < m)
all_or m n = grind arith

pub unread_none : (left : Option (List ℕ)) → unread [] left ≡ left
unread_none None = refl
unread_none (Some l) = refl

-- the body is the front of the bytes at hand, and the link is as it was
whole_at_hand : (carried body : List ℕ) (left after : Option (List ℕ)) (n : ℕ) → length body ≡ n → n ≤ length carried → unread body after ≡ unread (take n carried) left → unread body (unread (drop n carried) after) ≡ unread carried left
whole_at_hand carried body None None n size within told = refl
whole_at_hand carried body None (Some m) n size within told = some_none _ told
whole_at_hand carried body (Some l) None n size within told = none_some _ told
whole_at_hand carried body (Some l) (Some m) n size within told =
    let same : body ++ m ≡ take n carried ++ l = value_is _ _ told in
    let long : length (take n carried) ≡ n = length-take-le n carried within in
    let front : body ≡ take n carried = sym (take_at body m n size) ∙ ap (take n) same ∙ take_at (take n carried) l n long in
    let rest : m ≡ l = sym (drop_at body m n size) ∙ ap (drop n) same ∙ drop_at (take n carried) l n long in
    ap (λ (xs : List ℕ). Some (xs ++ (drop n carried ++ m))) front
    ∙ ap (λ (xs : List ℕ). Some (take n carried ++ (drop n carried ++ xs))) rest
    ∙ ap Some (sym (append_assoc (take n carried) (drop n carried) l))
    ∙ ap (λ (xs : List ℕ). Some (xs ++ l)) (take-append-drop n carried)

pub whole_body : (carried body rest : List ℕ) (left after : Option (List ℕ)) (n size : ℕ) → n ≡ min size (length carried) → length body ≡ size → rest ≡ drop n carried → unread body after ≡ unread (take n carried) left → unread body (unread rest after) ≡ unread carried left
whole_body carried body rest left after n size count long is told = elim (all_or size (length carried)) [
  | inl within ↦ ap (λ (xs : List ℕ). unread body (unread xs after)) is ∙ whole_at_hand carried body left after n (omega (arith, count, long, within)) (omega (arith, count)) told
  | inr over ↦
      let none : rest ≡ [] = is ∙ drop_all n carried (omega (arith, count, over)) in
      let all : take n carried ≡ carried = take_all n carried (omega (arith, count, over)) in
      ap (λ (xs : List ℕ). unread body (unread xs after)) none ∙ ap (unread body) (unread_none after) ∙ told ∙ ap (λ (xs : List ℕ). unread xs left) all
]

-- the bytes at hand and on the link are fewer than the body
pub short_body : (carried : List ℕ) (left : Option (List ℕ)) (n size : ℕ) → n ≡ min size (length carried) → IfSome left (λ l. n + length l < size) → IfSome (unread carried left) (λ bytes. length bytes < size)
short_body carried None n size count short = tt
short_body carried (Some l) n size count short = omega (arith, count, short, length-append carried l)
