-- Values whose data are those of some elements, one by one.
use Rattle.std.proofs.Common.{◌≡◌, ◌<◌, ℕ, zero, suc, List, [], ◌∷◌, length, map, get_or, drop, refl, ◌∙◌, ap, arith}
use Rattle.serde_json.specs.Data.{Data}
use Rattle.serde_json.specs.View.{view}
use Rattle.serde_json.specs.declared.value.Value.{Value}

module _ {X : Type 0} (f : X → Data) where
  -- the element that a value is the data of
  pub record IsNth (v : Value) (i : ℕ) (xs : List X) : Type 0 where
    pub it : X
    pub seen : view v ≡ f it
    pub left : drop i xs ≡ it ∷ drop (suc i) xs

  pub nth_of : (vs : List Value) (v : Value) (i : ℕ) (xs : List X) → map view vs ≡ map f xs → i < length vs → v ≡ get_or vs i v → IsNth v i xs
  nth_of [] v i xs same lt is = absurd (omega arith)
  nth_of (x ∷ vs) v i [] same lt is = absurd (let no_way : ⊥ = cc in no_way)
  nth_of (x ∷ vs) v zero (y ∷ xs) same lt is =
      let own : view x ≡ f y = cc in
      record { it = y; seen = ap view is ∙ own; left = refl }
  nth_of (x ∷ vs) v (suc i) (y ∷ xs) same lt is =
      let others : map view vs ≡ map f xs = cc in
      let found = nth_of vs v i xs others (omega arith) is in
      record { it = found.it; seen = found.seen; left = found.left }

  pub length-mapped : (vs : List Value) (xs : List X) → map view vs ≡ map f xs → length xs ≡ length vs
  length-mapped [] [] e = refl
  length-mapped [] (x ∷ xs) e = absurd (let no_way : ⊥ = cc in no_way)
  length-mapped (v ∷ vs) [] e = absurd (let no_way : ⊥ = cc in no_way)
  length-mapped (v ∷ vs) (x ∷ xs) e = ap suc (length-mapped vs xs (let others : map view vs ≡ map f xs = cc in others))
