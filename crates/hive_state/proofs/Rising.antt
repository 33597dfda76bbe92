-- A test of neighbours in a total order tells whether a list strictly rises.
use Rattle.std.proofs.Common.{◌≡◌, ◌+◌, List, [], ◌∷◌, map, Bool, true, false, refl, arith}
use Rattle.std.specs.Prelude.{IsTrue}
use Rattle.std.specs.Cmp.{IsTotalOrder}
use Rattle.std.specs.List.{AllByRecursion, IsAllAdjacentAnswer}
use Rattle.std.specs.List.Sorted.{IsStrictlySortedBy}
use Rattle.std.specs.Ordering.{is_lt}
use Rattle.std.specs.declared.cmp.Ordering.{Ordering}
use Rattle.std.specs.declared.cmp.Ordering.TheVariants.{Less, Equal, Greater}
use Rattle.std.proofs.lemmas.Map.Keys.{Less-from_sorted, sorted_from_all_adjacent}

less_if : (r : Ordering) → true ≡ is_lt r → r ≡ Less
less_if Less e = refl
less_if Equal e = cc
less_if Greater e = cc

never : (r : Ordering) → r ≡ Less → false ≡ is_lt r → ⊥
never r less fails = cc

module _ {K : Type 0} (R : K → K → Ordering) (o : IsTotalOrder R) where
  -- what the test says is whether the list rises
  pub tells : (xs : List K) (r : Bool) → IsAllAdjacentAnswer (λ x y b. b ≡ is_lt (R x y)) xs r
      → (IsTrue r → IsStrictlySortedBy R xs) × (IsStrictlySortedBy R xs → IsTrue r)
  unfolding IsStrictlySortedBy
  tells [] true all = (λ yes. tt, λ rises. refl)
  tells (x ∷ xs) true all = (λ yes. sorted_from_all_adjacent o (x ∷ xs) x (λ k lt. less_if _ (all k x lt)), λ rises. refl)
  tells [] false some = absurd (let lt = some.1 in omega (arith, lt))
  tells (x ∷ xs) false some = (
    λ yes. cc,
    λ rises. let lt = some.1 in absurd (never _ (Less-from_sorted R (x ∷ xs) some.0 (some.0 + 1) x rises (omega arith) lt) (some.2 x)),
  )

module _ {X K : Type 0} (R : K → K → Ordering) (key : X → K) where
  all_mapped : (k : X) (xs : List X) → AllByRecursion (λ y. R (key k) (key y) ≡ Less) xs → AllByRecursion (λ y. R (key k) y ≡ Less) (map key xs)
  all_mapped k [] all = tt
  all_mapped k (x ∷ xs) all = (all.0, all_mapped k xs all.1)

  all_back : (k : X) (xs : List X) → AllByRecursion (λ y. R (key k) y ≡ Less) (map key xs) → AllByRecursion (λ y. R (key k) (key y) ≡ Less) xs
  all_back k [] all = tt
  all_back k (x ∷ xs) all = (all.0, all_back k xs all.1)

  mapped : (xs : List X) → IsStrictlySortedBy (λ x y. R (key x) (key y)) xs → IsStrictlySortedBy R (map key xs)
  unfolding IsStrictlySortedBy
  mapped [] rises = tt
  mapped (x ∷ xs) rises = (all_mapped x xs rises.0, mapped xs rises.1)

  back : (xs : List X) → IsStrictlySortedBy R (map key xs) → IsStrictlySortedBy (λ x y. R (key x) (key y)) xs
  unfolding IsStrictlySortedBy
  back [] rises = tt
  back (x ∷ xs) rises = (all_back x xs rises.0, back xs rises.1)

  by_key : IsTotalOrder R → IsTotalOrder (λ (x y : X). R (key x) (key y))
  by_key o = record {
    antisymm = λ x y. o.antisymm (key x) (key y);
    trans = λ x y z. o.trans (key x) (key y) (key z);
    congr = λ x y z. o.congr (key x) (key y) (key z);
  }

  -- the same of a test of the elements' keys
  pub tells_keys : (o : IsTotalOrder R) (xs : List X) (r : Bool) → IsAllAdjacentAnswer (λ x y b. b ≡ is_lt (R (key x) (key y))) xs r
      → (IsTrue r → IsStrictlySortedBy R (map key xs)) × (IsStrictlySortedBy R (map key xs) → IsTrue r)
  tells_keys o xs r answer =
      let told = tells (λ (x y : X). R (key x) (key y)) (by_key o) xs r answer in
      (λ yes. mapped xs (told.0 yes), λ rises. told.1 (back xs rises))
