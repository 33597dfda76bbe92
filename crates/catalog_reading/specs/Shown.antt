-- Data that says details.
use Rattle.std.specs.Prelude.{◌≡◌, Bool, ℕ, List, [], ◌∷◌, Option, option_and_then, codes, if◌then◌else◌, ⊤}
use Rattle.serde_json.specs.Data.{Data}
use Rattle.serde_json.specs.Find.{as_number, as_u64, get}
use Rattle.pkg_meta.specs.Members.{Slot}
use Rattle.pkg_meta.specs.Trees.{details_table}
use Rattle.pkg_meta.specs.declared.item.Details.{Details}

-- its members at the keys of these slots are the slots' values
abbrev pub AreShown : Data → List Slot → Type 0
AreShown leaf [] = ⊤
AreShown leaf (s ∷ slots) = (get s.key leaf ≡ s.value) × AreShown leaf slots

-- its members of the names that details have are those of the details
abbrev pub ShowsDetails : Details → Data → Type 0
ShowsDetails d leaf = AreShown leaf (details_table d)

-- the whole number under a name, where there is one
abbrev pub number_under : List ℕ → Data → Option ℕ
number_under name leaf = option_and_then (λ (d : Data). option_and_then as_u64 (as_number d)) (get name leaf)

-- the `@type` of a leaf
abbrev pub leaf_kind : Bool → List ℕ
leaf_kind gone = if gone then codes "PackageDelete" else codes "PackageDetails"
