-- The items that a round takes up.
use Rattle.std.specs.Prelude.{◌≡◌, ◌⊎◌, ℕ, List, filter, map, nat_lt, Bool, Contains, Option, Some, None}
use Rattle.std.specs.FinMap.{get}
use Rattle.blob_store.specs.Area.{Area}
use Rattle.blob_store.specs.Seen.{Seen}
use Rattle.pkg_meta.specs.Catalog.{Catalog}
use Rattle.pkg_meta.specs.Items.{id_of}
use Rattle.pkg_meta.specs.Lawful.{Placed, all_placed}
use Rattle.catalog_doc.specs.Names.{leaf_name, staged_name}
use Rattle.catalog_doc.specs.declared.row.Row.{Row}
use Rattle.catalog_items.specs.Leaves.{HasNoLeaf, row_with}
use Rattle.catalog_core.specs.Opened.{Opened}
use Rattle.fold_core.specs.Items.{is_of}
use Rattle.job_round.specs.Ids.{firsts}

-- whether an item stands behind a commit
abbrev pub is_behind : ℕ → Placed → Bool
is_behind n x = nat_lt n x.number

-- the items behind a commit, in order of number and place
abbrev pub placed_after : ℕ → Catalog → List Placed
placed_after n cs = filter (is_behind n) (all_placed cs)

-- the key of an item's id
abbrev pub placed_key : Placed → List ℕ
placed_key x = (id_of x.what).key

-- the ids with an item behind commit c, in order of their first
abbrev pub keys_after : ℕ → Catalog → List (List ℕ)
keys_after c cs = firsts (map placed_key (placed_after c cs))

-- an id's items behind commit c
abbrev pub items_after : ℕ → Catalog → List ℕ → List Placed
items_after c cs key = filter (λ (x : Placed). is_of key x.what) (placed_after c cs)

-- those of them behind commit `at` too
abbrev pub items_behind : ℕ → ℕ → Catalog → List ℕ → List Placed
items_behind c at cs key = filter (is_behind at) (items_after c cs key)

-- the leaf at a place has this name, a row that is kept stands there, and the area holds no leaf of it
abbrev pub IsNoLeafAmong : Area → List ℕ → List Row → List ℕ → Type 0
IsNoLeafAmong m base rows name = (number place : ℕ) × (name ≡ leaf_name number place)
    × ((row : Row) × (row_with number place rows ≡ Some row) × HasNoLeaf m base row)

-- what some publish brought has this name, and the area doesn't hold it
abbrev pub IsNoStaged : Area → List ℕ → Type 0
IsNoStaged m name = (number place : ℕ) × (nuspec : Bool) × (name ≡ staged_name number place nuspec) × (get m name ≡ None)

-- the leaf of a row or what a publish brought has this name, and the area that is told doesn't hold it as it should be
abbrev pub IsLostBlob : {B : Type 0} → Opened B → Seen → List ℕ → Type 0
IsLostBlob o s name = (m : Area) → s.held ≡ Some m → IsNoLeafAmong m o.base o.kept.rows name ⊎ IsNoStaged m name

-- the same of an area, where it is told
abbrev pub IsStagedAbsent : Option Area → List ℕ → Type 0
IsStagedAbsent held name = (m : Area) → held ≡ Some m → IsNoStaged m name

-- these are items of the catalog
abbrev pub AreOf : Catalog → List Placed → Type 0
AreOf cs xs = (x : Placed) → Contains xs x → Contains (all_placed cs) x
