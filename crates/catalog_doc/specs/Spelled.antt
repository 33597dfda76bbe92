-- Which catalog an area spells.
use Rattle.std.specs.Prelude.{◌≡◌, ◌⊎◌, ◌≤◌, ◌+◌, ℕ, List, [], ◌∷◌, ◌++◌, length, Contains, slice_get, Some, IsSome}
use Rattle.std.specs.FinMap.{get}
use Rattle.std.specs.Str.{IsUtf8}
use Rattle.blob_store.specs.Area.{Area}
use Rattle.pkg_meta.specs.Catalog.{Catalog}
use Rattle.pkg_meta.specs.declared.commit.Staged.{Staged}
use Rattle.pkg_meta.specs.declared.commit.Stored.{Stored}
use Rattle.pkg_meta.specs.declared.item.Item.{Item}
use Rattle.catalog_doc.specs.CatDocs.{doc_at, heads_of}
use Rattle.catalog_doc.specs.Catalogs.{IsCatalog}
use Rattle.catalog_doc.specs.Documents.{index_text, leaf_text}
use Rattle.catalog_doc.specs.Names.{index_name, leaf_name, nupkg_name, nuspec_name, page_name}

-- the area holds a commit's leaves, and the package and the manifest of each publish
pub record HoldsCommit (m : Area) (base : List ℕ) (c : Stored) : Type 0 where
  pub leaves : (place : ℕ) (it : Item) → slice_get c.commit.items place ≡ Some it
      → get m (leaf_name c.commit.number place) ≡ Some (leaf_text base c.commit.number place c.commit.stamp it)
  pub nupkgs : (place : ℕ) (brought : Staged) → slice_get c.staged place ≡ Some (Some brought)
      → get m (nupkg_name c.commit.number place) ≡ Some brought.nupkg
  pub nuspecs : (place : ℕ) (brought : Staged) → slice_get c.staged place ≡ Some (Some brought)
      → get m (nuspec_name c.commit.number place) ≡ Some brought.nuspec

-- the index held is that of the catalog
abbrev pub HoldsIndex : Area → List ℕ → Catalog → Type 0
HoldsIndex m base cs = get m index_name ≡ Some (index_text base (heads_of cs))

-- the index held is that of the catalog without its last commit
abbrev pub HoldsOldIndex : Area → List ℕ → Catalog → Type 0
HoldsOldIndex m base cs = (before : Catalog) × (last : Stored) × (cs ≡ before ++ last ∷ []) × HoldsIndex m base before

-- the name of a leaf or of a staged blob at a place of a commit
abbrev pub IsNameAt : ℕ → ℕ → List ℕ → Type 0
IsNameAt number place name = (name ≡ leaf_name number place) ⊎ ((name ≡ nupkg_name number place) ⊎ (name ≡ nuspec_name number place))

-- the index's name, a page's, or that of a leaf or of a staged blob of a commit up to this number
abbrev pub IsNameUpTo : ℕ → List ℕ → Type 0
IsNameUpTo most name =
    (name ≡ index_name) ⊎ (((k : ℕ) × (name ≡ page_name k)) ⊎ ((number : ℕ) × (place : ℕ) × (number ≤ most) × IsNameAt number place name))

-- The area spells the catalog, below this base address.
pub record SpellsCatalog (m : Area) (base : List ℕ) (cs : Catalog) : Type 0 where
  pub base_text : IsUtf8 base
  -- the pages are exactly the catalog's
  pub pages : (k : ℕ) → get m (page_name k) ≡ doc_at base cs (page_name k)
  pub commits : (c : Stored) → Contains cs c → HoldsCommit m base c
  -- the index may lag by the last commit
  pub index : HoldsIndex m base cs ⊎ HoldsOldIndex m base cs
  -- what a commit that was stopped left has its number
  pub others : (name : List ℕ) → IsSome (get m name) → IsNameUpTo (length cs + 1) name

-- a catalog that the area spells below a base address is the only one, and that base address
abbrev pub SpellsOnly : Area → List ℕ → Catalog → Type 0
SpellsOnly m base cs = (other : List ℕ) (ds : Catalog) → IsCatalog ds → SpellsCatalog m other ds → (other ≡ base) × (ds ≡ cs)
