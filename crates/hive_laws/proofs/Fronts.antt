-- The first commits of a lawful catalog are lawful, and what they make isn't changed by later ones.
use Rattle.std.proofs.Common.{◌≡◌, ◌≤◌, ◌+◌, ℕ, zero, suc, [], ◌∷◌, ◌++◌, length, take, arith}
use Rattle.std.proofs.lemmas.List.{length-append}
use Rattle.pkg_meta.specs.Catalog.{Catalog}
use Rattle.pkg_meta.specs.Lawful.{IsLawful, MayFollow, all_placed, placed_of}

fronts_follow : (before cs : Catalog) (k : ℕ) → MayFollow before cs → MayFollow before (take k cs)
fronts_follow before cs zero follow = tt
fronts_follow before [] (suc k) follow = tt
fronts_follow before (c ∷ cs) (suc k) follow = (follow.0, fronts_follow (before ++ c ∷ []) cs k follow.1)

fewer_placed : (cs : Catalog) (k : ℕ) → length (all_placed (take k cs)) ≤ length (all_placed cs)
fewer_placed cs zero = omega arith
fewer_placed [] (suc k) = omega arith
fewer_placed (c ∷ cs) (suc k) =
    let a : length (placed_of c ++ all_placed (take k cs)) ≡ length (placed_of c) + length (all_placed (take k cs)) = length-append (placed_of c) (all_placed (take k cs)) in
    let b : length (placed_of c ++ all_placed cs) ≡ length (placed_of c) + length (all_placed cs) = length-append (placed_of c) (all_placed cs) in
    omega (arith, a, b, fewer_placed cs k)

pub fronts_lawful : (cs : Catalog) (k : ℕ) → IsLawful cs → IsLawful (take k cs)
fronts_lawful cs k lawful = record { commits = fronts_follow [] cs k lawful.commits; items = omega (arith, fewer_placed cs k, lawful.items) }
