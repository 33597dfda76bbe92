-- What lists that are filtered or mapped contain.
use Rattle.std.proofs.Common.{◌≡◌, ◌⊎◌, inl, inr, List, [], ◌∷◌, map, Bool, true, false, cond, refl, ◌∙◌, ap, subst}
use Rattle.std.specs.List.{Contains, filter}
use Rattle.hive_laws.proofs.Listed.{first, later, nothing_in, split}

module _ {X : Type 0} (p : X → Bool) where
  kept_here : (x : X) (l : List X) (b : Bool) → b ≡ true → Contains (cond b (x ∷ l) l) x
  kept_here x l true e = first x l
  kept_here x l false e = absurd (let no : ⊥ = cc in no)

  kept_later : (x y : X) (l : List X) (b : Bool) → Contains l x → Contains (cond b (y ∷ l) l) x
  kept_later x y l true is = later y x l is
  kept_later x y l false is = is

  kept_by : (x y : X) (xs : List X) → p x ≡ true → (Contains xs x → Contains (filter p xs) x) → (x ≡ y) ⊎ Contains xs x → Contains (filter p (y ∷ xs)) x
  kept_by x y xs passes rest (inl same) = subst (λ (z : X). Contains (cond (p z) (z ∷ filter p xs) (filter p xs)) x) same (kept_here x (filter p xs) (p x) passes)
  kept_by x y xs passes rest (inr within) = kept_later x y (filter p xs) (p y) (rest within)

  -- an element that passes stays
  pub kept : (xs : List X) (x : X) → Contains xs x → p x ≡ true → Contains (filter p xs) x
  kept [] x is passes = absurd (nothing_in x is)
  kept (y ∷ xs) x is passes = kept_by x y xs passes (λ within. kept xs x within passes) (split y x xs is)

  was_here : (x y : X) (xs : List X) → p y ≡ true → (Contains (filter p xs) x → Contains xs x × (p x ≡ true)) → (x ≡ y) ⊎ Contains (filter p xs) x → Contains (y ∷ xs) x × (p x ≡ true)
  was_here x y xs is rest (inl same) = (subst (λ (z : X). Contains (z ∷ xs) x) same (first x xs), ap p same ∙ is)
  was_here x y xs is rest (inr within) = let r = rest within in (later y x xs r.0, r.1)

  was_in : (x y : X) (xs : List X) (b : Bool) → p y ≡ b → (Contains (filter p xs) x → Contains xs x × (p x ≡ true)) → Contains (cond b (y ∷ filter p xs) (filter p xs)) x
      → Contains (y ∷ xs) x × (p x ≡ true)
  was_in x y xs true is rest here = was_here x y xs is rest (split y x (filter p xs) here)
  was_in x y xs false is rest here = let r = rest here in (later y x xs r.0, r.1)

  -- one that is left was there, and passes
  pub was : (xs : List X) (x : X) → Contains (filter p xs) x → Contains xs x × (p x ≡ true)
  was [] x is = absurd (nothing_in x is)
  was (y ∷ xs) x is = was_in x y xs (p y) refl (was xs x) is

module _ {X Y : Type 0} (f : X → Y) where
  mapped_by : (x y : X) (xs : List X) → (Contains xs x → Contains (map f xs) (f x)) → (x ≡ y) ⊎ Contains xs x → Contains (map f (y ∷ xs)) (f x)
  mapped_by x y xs rest (inl same) = subst (λ (z : X). Contains (f z ∷ map f xs) (f x)) same (first (f x) (map f xs))
  mapped_by x y xs rest (inr within) = later (f y) (f x) (map f xs) (rest within)

  pub mapped : (xs : List X) (x : X) → Contains xs x → Contains (map f xs) (f x)
  mapped [] x is = absurd (nothing_in x is)
  mapped (y ∷ xs) x is = mapped_by x y xs (mapped xs x) (split y x xs is)

  source_by : (y : Y) (x : X) (xs : List X) → (Contains (map f xs) y → (z : X) × Contains xs z × (y ≡ f z)) → (y ≡ f x) ⊎ Contains (map f xs) y
      → (z : X) × Contains (x ∷ xs) z × (y ≡ f z)
  source_by y x xs rest (inl same) = (x, first x xs, same)
  source_by y x xs rest (inr within) = let r = rest within in (r.0, later x r.0 xs r.1, r.2)

  -- what is mapped comes from an element
  pub source : (xs : List X) (y : Y) → Contains (map f xs) y → (z : X) × Contains xs z × (y ≡ f z)
  source [] y is = absurd (nothing_in y is)
  source (x ∷ xs) y is = source_by y x xs (source xs y) (split (f x) y (map f xs) is)
