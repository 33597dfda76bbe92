-- Arrays that are made of lists.
use Rattle.std.proofs.Common.{◌≤◌, ℕ, List, [], ◌∷◌, arith}
use Rattle.serde_json.specs.Data.{Data, depth, items_depth}
use Rattle.serde_json.specs.View.{items_of}
use Rattle.json_law.specs.Fits.{Fits, ItemsFit, IsText, ItemsAreText}

-- each of a list, by cases
abbrev pub Each : {X : Type 0} → (X → Type 0) → List X → Type 0
Each P [] = Unit {0}
Each P (x ∷ xs) = P x × Each P xs

pub ItemsFit-items_of : (ds : List Data) → Each Fits ds → ItemsFit (items_of ds)
ItemsFit-items_of [] each = tt
ItemsFit-items_of (d ∷ ds) each = (each.0, ItemsFit-items_of ds each.1)

pub ItemsAreText-items_of : (ds : List Data) → Each IsText ds → ItemsAreText (items_of ds)
ItemsAreText-items_of [] each = tt
ItemsAreText-items_of (d ∷ ds) each = (each.0, ItemsAreText-items_of ds each.1)

pub items_depth-items_of : (ds : List Data) (n : ℕ) → Each (λ d. depth d ≤ n) ds → items_depth (items_of ds) ≤ n
items_depth-items_of [] n each = omega arith
items_depth-items_of (d ∷ ds) n each = let others = items_depth-items_of ds n each.1 in omega (arith, each.0)
