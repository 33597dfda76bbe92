-- What was taken of a source that tells what it has left.
use Rattle.std.proofs.Common.{◌≡◌, ◌≤◌, ◌<◌, ◌+◌, ℕ, List, [], ◌++◌, length, take, drop, Option, Some, IfSome, option_map, refl, sym, ◌∙◌, ap, arith, length-drop}
use Rattle.std.proofs.Math.Seq.{take-add}
use Rattle.std.proofs.lemmas.List.{take_all, drop_all, drop-drop}
use Rattle.feed_base.specs.Source.{Gives, TakesUpTo}
use Rattle.feed_base.proofs.Options.{intro, at_some, weaker}

-- the first n bytes are taken, and the rest is left
pub record Taken (now : Option (List ℕ)) (n : ℕ) (taken bytes : List ℕ) : Type 0 where
  pub within : n ≤ length bytes
  pub first : taken ≡ take n bytes
  pub left : now ≡ Some (drop n bytes)

pub taken_none : (first : Option (List ℕ)) → IfSome first (Taken first 0 [])
taken_none first = intro first _ (λ bytes is. record { within = omega arith; first = refl; left = is })

module _ (first mid new : Option (List ℕ)) (n k : ℕ) (taken buffer : List ℕ) (so_far : IfSome first (Taken mid n taken)) (reads : (new ≡ option_map (drop k) mid) × IfSome mid (Gives buffer k)) where
  given : (bytes : List ℕ) → Taken mid n taken bytes → Gives buffer k (drop n bytes)
  given bytes was = at_some mid (Gives buffer k) (drop n bytes) was.left reads.1

  pub taken_more : IfSome first (Taken new (n + k) (taken ++ take k buffer))
  taken_more = weaker first (Taken mid n taken) _ (λ bytes was.
      let gives = given bytes was in
      record {
        within = omega (arith, gives.within, length-drop n bytes, was.within);
        first = (λ i. was.first i ++ gives.next i) ∙ sym (take-add n k bytes);
        left = reads.0 ∙ ap (option_map (drop k)) was.left ∙ ap Some (drop-drop k n bytes);
      }) so_far

  -- a source that gives nothing has nothing left
  pub taken_all : k ≡ 0 → IfSome first (λ bytes. taken ≡ bytes)
  taken_all none = weaker first (Taken mid n taken) _ (λ bytes was.
      let gives = given bytes was in
      let ended : length (drop n bytes) ≡ 0 = grind (arith, none, gives.goes) in
      was.first ∙ take_all n bytes (omega (arith, ended, length-drop n bytes))) so_far

  pub taken_end : k ≡ 0 → IfSome first (λ bytes. new ≡ Some [])
  taken_end none = weaker first (Taken mid n taken) _ (λ bytes was.
      let gives = given bytes was in
      let ended : length (drop n bytes) ≡ 0 = grind (arith, none, gives.goes) in
      reads.0 ∙ ap (option_map (drop k)) was.left ∙ ap Some (drop_all k (drop n bytes) (omega (arith, ended)))) so_far

  pub taken_above : (limit : ℕ) → n + k ≡ limit + 1 → IfSome first (λ bytes. (limit < length bytes) × (new ≡ Some (drop (limit + 1) bytes)))
  taken_above limit is = weaker first (Taken new (n + k) (taken ++ take k buffer)) _ (λ bytes now. (omega (arith, now.within, is), now.left ∙ ap (λ (m : ℕ). Some (drop m bytes)) is)) taken_more

pub taken_rest : (first new : Option (List ℕ)) (n limit : ℕ) (taken : List ℕ) → n ≤ limit → IfSome first (Taken new n taken) → TakesUpTo limit first new
taken_rest first new n limit taken few h = weaker first (Taken new n taken) _ (λ bytes now. (n, few, now.within, now.left)) h
