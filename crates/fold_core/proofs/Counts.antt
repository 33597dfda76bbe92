-- The number of the last commit with an item of an id, one commit more.
use Rattle.std.proofs.Common.{◌≡◌, ◌<◌, ◌+◌, ℕ, suc, List, [], ◌∷◌, ◌++◌, length, take, get_or, Bool, true, false, sym, ap, ◌∙◌, arith}
use Rattle.std.proofs.lemmas.List.{length-take-le, take_more}
use Rattle.pkg_meta.specs.declared.commit.Commit.{Commit}
use Rattle.fold_core.specs.Items.{counted, has_item, touched}

behind_here : (cs : List Commit) (c : Commit) (key : List ℕ) → has_item c key ≡ true → touched (cs ++ c ∷ []) key ≡ suc (length cs)
behind_here [] c key has = ap (λ (b : Bool). counted b 0) has
behind_here (d ∷ cs) c key has = ap (counted (has_item d key)) (behind_here cs c key has)

behind_not : (cs : List Commit) (c : Commit) (key : List ℕ) → has_item c key ≡ false → touched (cs ++ c ∷ []) key ≡ touched cs key
behind_not [] c key has = ap (λ (b : Bool). counted b 0) has
behind_not (d ∷ cs) c key has = ap (counted (has_item d key)) (behind_not cs c key has)

next : (cs : List Commit) (i : ℕ) (c : Commit) → i < length cs → c ≡ get_or cs i c → take (i + 1) cs ≡ take i cs ++ c ∷ []
next cs i c within is = take_more cs i c within ∙ ap (λ (x : Commit). take i cs ++ x ∷ []) (sym is)

pub touched_here : (cs : List Commit) (i : ℕ) (c : Commit) (key : List ℕ) → i < length cs → c ≡ get_or cs i c → has_item c key ≡ true
    → i + 1 ≡ touched (take (i + 1) cs) key
touched_here cs i c key within is has =
    let long : length (take i cs) ≡ i = length-take-le i cs (omega arith) in
    let last : touched (take (i + 1) cs) key ≡ suc (length (take i cs)) = ap (λ (l : List Commit). touched l key) (next cs i c within is) ∙ behind_here (take i cs) c key has in
    omega (arith, long, last)

pub touched_not : (cs : List Commit) (i : ℕ) (c : Commit) (key : List ℕ) → i < length cs → c ≡ get_or cs i c → has_item c key ≡ false
    → touched (take i cs) key ≡ touched (take (i + 1) cs) key
touched_not cs i c key within is has = sym (ap (λ (l : List Commit). touched l key) (next cs i c within is) ∙ behind_not (take i cs) c key has)
