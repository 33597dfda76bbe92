-- What an area that spells a catalog holds.
use Rattle.std.proofs.Common.{◌≡◌, ◌+◌, ℕ, suc, List, [], ◌∷◌, ◌++◌, Bool, true, false, Option, Some, None, refl, sym, ◌∙◌, ap, subst, arith}
use Rattle.std.specs.Prelude.{Contains, flat_map, slice_get, if◌then◌else◌}
use Rattle.std.specs.FinMap.{get}
use Rattle.std.specs.Option.{option_or}
use Rattle.std.specs.Str.{bytes_eq}
use Rattle.blob_store.specs.Area.{Area}
use Rattle.pkg_meta.specs.Catalog.{Catalog}
use Rattle.pkg_meta.specs.declared.commit.Stored.{Stored}
use Rattle.pkg_meta.specs.declared.item.Item.{Item}
use Rattle.catalog_doc.specs.CatDocs.{all_rows, Doc, doc_at, heads_of, leaves_from, leaves_of, look_up, page_docs, pages_of}
use Rattle.catalog_doc.specs.Documents.{index_text, leaf_text, page_text}
use Rattle.catalog_doc.specs.Names.{index_name, leaf_name, page_name}
use Rattle.catalog_doc.specs.Spelled.{HoldsCommit, HoldsIndex, SpellsCatalog}
use Rattle.catalog_doc.proofs.LookUps.{look_up-append}
use Rattle.catalog_doc.proofs.Spelling.{bytes_eq-true}

-- an area holds what a list of documents has at a name
abbrev HasAt : Area → List ℕ → List Doc → Type 0
HasAt m name docs = (bytes : List ℕ) → look_up name docs ≡ Some bytes → get m name ≡ Some bytes

more_held : (m : Area) (name : List ℕ) (doc : Doc) (docs : List Doc) → get m doc.name ≡ Some doc.bytes → HasAt m name docs → HasAt m name (doc ∷ docs)
more_held m name doc docs held rest bytes is = by_test (bytes_eq name doc.name) refl is
  where
    by_test : (b : Bool) → bytes_eq name doc.name ≡ b → (if b then Some doc.bytes else look_up name docs) ≡ Some bytes → get m name ≡ Some bytes
    by_test true same found = ap (get m) (bytes_eq-true name doc.name same) ∙ held ∙ found
    by_test false apart found = rest bytes found

both_held : (m : Area) (name : List ℕ) (xs ys : List Doc) → HasAt m name xs → HasAt m name ys → HasAt m name (xs ++ ys)
both_held m name xs ys first second bytes is = by_first (look_up name xs) refl (sym (look_up-append name xs ys) ∙ is)
  where
    by_first : (found : Option (List ℕ)) → look_up name xs ≡ found → option_or found (look_up name ys) ≡ Some bytes → get m name ≡ Some bytes
    by_first (Some other) here told = first other here ∙ told
    by_first None here told = second bytes told

leaves_held : (m : Area) (base name : List ℕ) (number stamp place : ℕ) (items : List Item)
    → ((k : ℕ) (it : Item) → slice_get items k ≡ Some it → get m (leaf_name number (place + k)) ≡ Some (leaf_text base number (place + k) stamp it))
    → HasAt m name (leaves_from base number stamp place items)
leaves_held m base name number stamp place [] held = λ bytes is. absurd (let no : ⊥ = cc in no)
leaves_held m base name number stamp place (it ∷ items) held =
    more_held m name _ (leaves_from base number stamp (suc place) items)
    (subst (λ (p : ℕ). get m (leaf_name number p) ≡ Some (leaf_text base number p stamp it)) (let same : place + 0 ≡ place = omega arith in same) (held 0 it refl))
    (leaves_held m base name number stamp (suc place) items (λ k x is.
    subst (λ (p : ℕ). get m (leaf_name number p) ≡ Some (leaf_text base number p stamp x)) (let same : place + suc k ≡ suc place + k = omega arith in same) (held (suc k) x is)))

commit_held : (m : Area) (base name : List ℕ) (c : Stored) → HoldsCommit m base c → HasAt m name (leaves_of base c)
commit_held m base name c holds = leaves_held m base name c.commit.number c.commit.stamp 0 c.commit.items
    (λ k it is. subst (λ (p : ℕ). get m (leaf_name c.commit.number p) ≡ Some (leaf_text base c.commit.number p c.commit.stamp it)) (let same : k ≡ 0 + k = omega arith in same) (holds.leaves k it is))

all_held : (m : Area) (base name : List ℕ) (cs : Catalog) → ((c : Stored) → Contains cs c → HoldsCommit m base c) → HasAt m name (flat_map (leaves_of base) cs)
all_held m base name [] held = λ bytes is. absurd (let no : ⊥ = cc in no)
all_held m base name (c ∷ cs) held = both_held m name (leaves_of base c) (flat_map (leaves_of base) cs) (commit_held m base name c (held c (0, omega arith, refl)))
    (all_held m base name cs (λ d there. held d (suc there.0, omega (arith, there.1), there.2)))

-- a document of pages has the name of a page
page_found : (base name bytes : List ℕ) (k : ℕ) (pages : List Catalog) → look_up name (page_docs base k pages) ≡ Some bytes → (n : ℕ) × (name ≡ page_name n)
page_found base name bytes k [] is = absurd (let no : ⊥ = cc in no)
page_found base name bytes k (page ∷ pages) is = by_test (bytes_eq name (page_name k)) refl (page_found base name bytes (suc k) pages) is
  where
    by_test : (b : Bool) → bytes_eq name (page_name k) ≡ b → (look_up name (page_docs base (suc k) pages) ≡ Some bytes → (n : ℕ) × (name ≡ page_name n))
        → (if b then Some (page_text base k (all_rows page)) else look_up name (page_docs base (suc k) pages)) ≡ Some bytes → (n : ℕ) × (name ≡ page_name n)
    by_test true same later found = (k, bytes_eq-true name (page_name k) same)
    by_test false apart later found = later found

-- an area that spells a catalog, with its index, holds what the catalog has at each name
module _ (m : Area) (base : List ℕ) (cs : Catalog) (spells : SpellsCatalog m base cs) (index : HoldsIndex m base cs) where
  pub spelled_doc : (name bytes : List ℕ) → doc_at base cs name ≡ Some bytes → get m name ≡ Some bytes
  spelled_doc name bytes is = by_index (bytes_eq name index_name) refl is
    where
      in_page : (found : Option (List ℕ)) → look_up name (page_docs base 0 (pages_of cs)) ≡ found
          → option_or found (look_up name (flat_map (leaves_of base) cs)) ≡ Some bytes → get m name ≡ Some bytes
      in_page (Some other) here told =
          let at = page_found base name other 0 (pages_of cs) here in
          ap (get m) at.1 ∙ spells.pages at.0 ∙ sym (ap (doc_at base cs) at.1) ∙ is
      in_page None here told = all_held m base name cs spells.commits bytes told

      by_index : (b : Bool) → bytes_eq name index_name ≡ b
          → (if b then Some (index_text base (heads_of cs)) else look_up name (page_docs base 0 (pages_of cs) ++ flat_map (leaves_of base) cs)) ≡ Some bytes → get m name ≡ Some bytes
      by_index true same found = ap (get m) (bytes_eq-true name index_name same) ∙ index ∙ found
      by_index false apart found =
          in_page (look_up name (page_docs base 0 (pages_of cs))) refl (sym (look_up-append name (page_docs base 0 (pages_of cs)) (flat_map (leaves_of base) cs)) ∙ found)
