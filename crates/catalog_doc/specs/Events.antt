-- When a put into the catalog's area is allowed, where it holds a catalog.
use Rattle.std.specs.Prelude.{◌≡◌, ◌+◌, ◌-◌, ◌++◌, ◌∷◌, [], ℕ, List, length, Some}
use Rattle.blob_store.specs.Area.{Area}
use Rattle.pkg_meta.specs.Catalog.{Catalog}
use Rattle.pkg_meta.specs.declared.commit.Stored.{Stored}
use Rattle.catalog_doc.specs.CatDocs.{doc_at, heads_of, pages_of}
use Rattle.catalog_doc.specs.Catalogs.{IsCatalog}
use Rattle.catalog_doc.specs.Documents.{index_text}
use Rattle.catalog_doc.specs.Names.{index_name, page_name}
use Rattle.catalog_doc.specs.Spelled.{HoldsCommit, HoldsIndex, IsNameAt}

-- a leaf or a staged blob of the commit after the last, whatever its bytes
abbrev pub IsObjectPut : Catalog → List ℕ → Type 0
IsObjectPut cs name = (place : ℕ) × IsNameAt (length cs + 1) place name

-- the page into which a further commit goes
abbrev pub next_page : Catalog → Stored → ℕ
next_page cs c = length (pages_of (cs ++ c ∷ [])) - 1

-- the page with a further commit, that decides it: the catalog stays one, the commit's leaves and blobs are held, and the index doesn't lag
pub record IsPagePut (m : Area) (base : List ℕ) (cs : Catalog) (c : Stored) (name bytes : List ℕ) : Type 0 where
  pub lawful : IsCatalog (cs ++ c ∷ [])
  pub objects : HoldsCommit m base c
  pub index : HoldsIndex m base cs
  pub page : name ≡ page_name (next_page cs c)
  pub text : doc_at base (cs ++ c ∷ []) name ≡ Some bytes

-- the catalog's index
abbrev pub IsIndexPut : List ℕ → Catalog → List ℕ → List ℕ → Type 0
IsIndexPut base cs name bytes = (name ≡ index_name) × (bytes ≡ index_text base (heads_of cs))
