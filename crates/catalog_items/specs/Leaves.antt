-- The leaves of rows.
use Rattle.std.specs.Prelude.{◌≡◌, ◌&&◌, ℕ, List, [], ◌∷◌, ◌++◌, Bool, nat_eq, Option, None, Some, if◌then◌else◌, ⊤}
use Rattle.std.specs.FinMap.{get}
use Rattle.blob_store.specs.Area.{Area}
use Rattle.blob_store.specs.Events.{Act, Get}
use Rattle.pkg_meta.specs.declared.commit.Commit.{Commit}
use Rattle.pkg_meta.specs.declared.item.Item.{Item}
use Rattle.catalog_doc.specs.Documents.{leaf_text}
use Rattle.catalog_doc.specs.Names.{leaf_name}
use Rattle.catalog_doc.specs.Reading.{IsItemValue}
use Rattle.catalog_doc.specs.declared.row.Row.{Row}
use Rattle.catalog_items.specs.RowLeaves.{TellsOf}

-- whether a row has this number and this place
abbrev pub is_at : ℕ → ℕ → Row → Bool
is_at number place row = nat_eq row.number number && nat_eq row.place place

-- the first row that has them
abbrev pub row_with : ℕ → ℕ → List Row → Option Row
row_with number place [] = None
row_with number place (row ∷ rows) = if is_at number place row then Some row else row_with number place rows

-- the leaf of this row is got, if there is one
abbrev pub leaf_gets : Option Row → List Act
leaf_gets None = []
leaf_gets (Some row) = Get (leaf_name row.number row.place) ∷ []

-- the area holds the leaf of this item of the row at the row's place
pub record HoldsLeaf (m : Area) (base : List ℕ) (row : Row) (it : Item) : Type 0 where
  pub own : TellsOf row it
  pub leaf : get m (leaf_name row.number row.place) ≡ Some (leaf_text base row.number row.place row.stamp it)

-- it holds the leaf of no item of the row there
abbrev pub HasNoLeaf : Area → List ℕ → Row → Type 0
HasNoLeaf m base row = (it : Item) → IsItemValue it → HoldsLeaf m base row it → ⊥

-- the leaf at the row's place isn't held, or is no leaf of an item of the row
abbrev pub IsNoLeafOf : Area → List ℕ → Row → List ℕ → Type 0
IsNoLeafOf m base row damaged = (damaged ≡ leaf_name row.number row.place) × HasNoLeaf m base row

-- the items are values of the code's types
abbrev pub AreItemValues : List Item → Type 0
AreItemValues [] = ⊤
AreItemValues (it ∷ items) = IsItemValue it × AreItemValues items

-- the area holds the leaves of these items of the rows, one for each
abbrev pub HoldsLeaves : Area → List ℕ → List Row → List Item → Type 0
HoldsLeaves m base [] [] = ⊤
HoldsLeaves m base [] (it ∷ items) = ⊥
HoldsLeaves m base (row ∷ rows) [] = ⊥
HoldsLeaves m base (row ∷ rows) (it ∷ items) = HoldsLeaf m base row it × HoldsLeaves m base rows items

-- the commit of one item of this row
abbrev pub commit_of_one : Row → Item → Commit
commit_of_one row it = record { number = row.number; stamp = row.stamp; items = it ∷ [] }

-- an item more: in the last commit, where that has the row's number, else in a new one
abbrev pub with_item : List Commit → Row → Item → List Commit
with_item [] row it = commit_of_one row it ∷ []
with_item (c ∷ []) row it =
    if nat_eq c.number row.number then (record { number = c.number; stamp = c.stamp; items = c.items ++ it ∷ [] }) ∷ [] else c ∷ commit_of_one row it ∷ []
with_item (c ∷ next ∷ cs) row it = c ∷ with_item (next ∷ cs) row it

-- the commits of these items, row by row, behind others
abbrev pub commits_with : List Commit → List Row → List Item → List Commit
commits_with cs [] items = cs
commits_with cs (row ∷ rows) [] = cs
commits_with cs (row ∷ rows) (it ∷ items) = commits_with (with_item cs row it) rows items

-- the commits of the items that the area holds the leaves of
abbrev pub AreCommitsAt : Area → List ℕ → List Row → List Commit → Type 0
AreCommitsAt m base rows commits = (items : List Item) × HoldsLeaves m base rows items × (commits ≡ commits_with [] rows items)
