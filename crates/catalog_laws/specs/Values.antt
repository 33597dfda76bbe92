-- Changes and catalogs whose values are those of the code's types.
use Rattle.std.specs.Prelude.{◌≡◌, ◌<◌, ◌≤◌, ◌^◌, ℕ, List, length, All, Contains, slice_get, Some, ⊤}
use Rattle.pkg_meta.specs.Catalog.{Catalog}
use Rattle.pkg_meta.specs.declared.commit.Staged.{Staged}
use Rattle.pkg_meta.specs.declared.commit.Stored.{Stored}
use Rattle.pkg_meta.specs.declared.item.Item.{Item}
use Rattle.catalog_doc.specs.CatDocs.{all_rows, heads_of, page_room}
use Rattle.catalog_doc.specs.Reading.{HasTexts, IsItemValue}
use Rattle.catalog_doc.specs.declared.change.Change.{Change}
use Rattle.catalog_doc.specs.declared.head.PageHead.{PageHead}
use Rattle.catalog_doc.specs.declared.change.Change.TheVariants.{Publish, Unlist, Relist, Delete}

-- a publish of texts and of a package whose size is a number of 64 bits, or another change
abbrev pub IsChangeValue : Change → Type 0
IsChangeValue (Publish meta nuspec nupkg) = (length nupkg < 2 ^ 64) × HasTexts meta
IsChangeValue (Unlist i v) = ⊤
IsChangeValue (Relist i v) = ⊤
IsChangeValue (Delete i v) = ⊤

-- each of the changes is such
abbrev pub AreChangeValues : List Change → Type 0
AreChangeValues changes = All IsChangeValue changes

-- each item of each commit is one of the code's types
abbrev pub HaveItemValues : Catalog → Type 0
HaveItemValues cs = (c : Stored) (place : ℕ) (it : Item) → Contains cs c → slice_get c.commit.items place ≡ Some it → IsItemValue it

-- each package has fewer than 2 ^ 64 bytes
abbrev pub HavePackageSizes : Catalog → Type 0
HavePackageSizes cs = (c : Stored) (place : ℕ) (brought : Staged) → Contains cs c → slice_get c.staged place ≡ Some (Some brought)
    → length brought.nupkg < 2 ^ 64

-- as many commits, rows and pages as a catalog has items at the most
pub record HasLengths (cs : Catalog) : Type 0 where
  pub commits : length cs ≤ 200_000
  pub rows : length (all_rows cs) ≤ 200_000
  pub pages : length (heads_of cs) ≤ 200_000

-- a page has an item, and no more than it has room for
abbrev pub IsFilled : PageHead → Type 0
IsFilled head = (0 < head.count) × (head.count ≤ page_room)
