-- What holds of the documents of every catalog: a commit more, and catalogs with equal documents.
use Rattle.std.specs.Prelude.{◌≡◌, ◌≢◌, ◌<◌, ◌≤◌, ◌-◌, ◌^◌, ℕ, List, [], ◌∷◌, ◌++◌, length, All, Some, IfSome, slice_get}
use Rattle.pkg_meta.specs.Catalog.{Catalog}
use Rattle.pkg_meta.specs.declared.commit.Stored.{Stored}
use Rattle.pkg_meta.specs.declared.item.Item.{Item}
use Rattle.catalog_doc.specs.CatDocs.{all_rows, doc_at, page_room, pages_of}
use Rattle.catalog_doc.specs.Documents.{leaf_text}
use Rattle.catalog_doc.specs.Names.{index_name, leaf_name, page_name}

-- a name of no document that a commit behind this catalog writes: not the index, not the last page, not a leaf of it
pub record IsElsewhere (cs : Catalog) (c : Stored) (name : List ℕ) : Type 0 where
  pub index : name ≢ index_name
  pub page : name ≢ page_name (length (pages_of (cs ++ c ∷ [])) - 1)
  pub leaves : (place : ℕ) → name ≢ leaf_name c.commit.number place

-- its number is one of 32 bits, and none of theirs
abbrev pub HasOwnNumber : Catalog → Stored → Type 0
HasOwnNumber cs c = (c.commit.number < 2 ^ 32) × All (λ (other : Stored). (other.commit.number < 2 ^ 32) × (other.commit.number ≢ c.commit.number)) cs

-- each leaf of the last commit stands in the catalog at its place
abbrev pub HasLeaves : List ℕ → Catalog → Stored → Type 0
HasLeaves base cs c = (place : ℕ) → IfSome (slice_get c.commit.items place) (λ (it : Item).
    doc_at base (cs ++ c ∷ []) (leaf_name c.commit.number place) ≡ Some (leaf_text base c.commit.number place c.commit.stamp it))

-- a catalog of no more items than a page has room for, with numbers of 32 bits and moments as stamps
pub record FitsOnePage (cs : Catalog) : Type 0 where
  pub few : length (all_rows cs) ≤ page_room
  pub commits : All (λ (c : Stored). (c.commit.number < 2 ^ 32) × (c.commit.stamp ≤ 3_155_378_975_999_999_999)) cs

-- a catalog with numbers of 32 bits, moments as stamps, and fewer than 2 ^ 64 commits and items
pub record IsInRange (cs : Catalog) : Type 0 where
  pub few : length cs < 2 ^ 64
  pub items : length (all_rows cs) < 2 ^ 64
  pub commits : All (λ (c : Stored). (c.commit.number < 2 ^ 32) × (c.commit.stamp ≤ 3_155_378_975_999_999_999)) cs

-- each page of the one catalog is a page of the other, byte for byte
abbrev pub HaveSamePages : List ℕ → List ℕ → Catalog → Catalog → Type 0
HaveSamePages base other cs ds = (k : ℕ) → doc_at base cs (page_name k) ≡ doc_at other ds (page_name k)
