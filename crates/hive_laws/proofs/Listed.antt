-- What a list contains, element by element.
use Rattle.std.proofs.Common.{get_or, ◌≡◌, ◌⊎◌, inl, inr, ◌<◌, ℕ, zero, suc, List, [], ◌∷◌, length, refl, sym, arith}
use Rattle.std.specs.Prelude.{Contains}

pub first : {X : Type 0} (x : X) (xs : List X) → Contains (x ∷ xs) x
first x xs = (0, omega arith, refl)

pub later : {X : Type 0} (y x : X) (xs : List X) → Contains xs x → Contains (y ∷ xs) x
later y x xs is = (suc is.0, (let l : is.0 < length xs = is.1 in omega arith), is.2)

split_at : {X : Type 0} (y x : X) (xs : List X) (k : ℕ) → k < suc (length xs) → get_or (y ∷ xs) k x ≡ x → (x ≡ y) ⊎ Contains xs x
split_at y x xs zero l e = inl (sym e)
split_at y x xs (suc k) l e = inr (k, omega arith, e)

pub split : {X : Type 0} (y x : X) (xs : List X) → Contains (y ∷ xs) x → (x ≡ y) ⊎ Contains xs x
split y x xs is = split_at y x xs is.0 is.1 is.2

pub nothing_in : {X : Type 0} (x : X) → Contains [] x → ⊥
nothing_in x is = let no_ : is.0 < 0 = is.1 in omega arith
