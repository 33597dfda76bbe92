-- What lists of documents have at a name.
use Rattle.std.proofs.Common.{◌≡◌, ◌≢◌, ◌<◌, ◌+◌, ◌-◌, ℕ, suc, List, [], ◌∷◌, ◌++◌, length, Bool, true, false, Option, Some, None, refl, sym, ◌∙◌, ap, subst, arith}
use Rattle.std.specs.Prelude.{flat_map, if◌then◌else◌, nat_le}
use Rattle.std.proofs.lemmas.Grind.{flat_map-append}
use Rattle.std.proofs.lemmas.Slice.Eq.{bytes_eq-Decides}
use Rattle.std.specs.Option.{option_or}
use Rattle.std.specs.Str.{bytes_eq}
use Rattle.pkg_meta.specs.Catalog.{Catalog}
use Rattle.pkg_meta.specs.declared.commit.Stored.{Stored}
use Rattle.pkg_meta.specs.declared.item.Item.{Item}
use Rattle.catalog_doc.specs.CatDocs.{add_commit, all_rows, Doc, doc_at, fill, heads_of, leaves_from, leaves_of, look_up, page_docs, page_room, pages_of}
use Rattle.catalog_doc.specs.Documents.{index_text, leaf_text, page_text}
use Rattle.catalog_doc.specs.Names.{index_name, leaf_name, page_name}
use Rattle.catalog_doc.specs.Laws.{IsElsewhere}

not_true : (b : Bool) → (b ≡ true → ⊥) → b ≡ false
not_true true no_way = absurd (no_way refl)
not_true false no_way = refl

-- a name is not that of the first document
pub miss : (name : List ℕ) (doc : Doc) (docs : List Doc) → name ≢ doc.name → look_up name (doc ∷ docs) ≡ look_up name docs
miss name doc docs other =
    ap (λ (b : Bool). if b then Some doc.bytes else look_up name docs) (not_true (bytes_eq name doc.name) (λ e. other ((bytes_eq-Decides name doc.name).0 e)))

-- it is that name
pub hit : (doc : Doc) (docs : List Doc) → look_up doc.name (doc ∷ docs) ≡ Some doc.bytes
hit doc docs = ap (λ (b : Bool). if b then Some doc.bytes else look_up doc.name docs) ((bytes_eq-Decides doc.name doc.name).1 refl)

-- what follows the first document
pub behind : (name : List ℕ) (doc : Doc) (xs ys : List Doc) → look_up name xs ≡ look_up name ys → look_up name (doc ∷ xs) ≡ look_up name (doc ∷ ys)
behind name doc xs ys e = ap (λ (found : Option (List ℕ)). if bytes_eq name doc.name then Some doc.bytes else found) e

choice : (b : Bool) (bytes : List ℕ) (x y : Option (List ℕ)) → if b then Some bytes else option_or x y ≡ option_or (if b then Some bytes else x) y
choice true bytes x y = refl
choice false bytes x y = refl

-- the first list's document comes first
pub look_up-append : (name : List ℕ) (xs ys : List Doc) → look_up name (xs ++ ys) ≡ option_or (look_up name xs) (look_up name ys)
look_up-append name [] ys = refl
look_up-append name (doc ∷ xs) ys =
    ap (λ (found : Option (List ℕ)). if bytes_eq name doc.name then Some doc.bytes else found) (look_up-append name xs ys)
    ∙ choice (bytes_eq name doc.name) doc.bytes (look_up name xs) (look_up name ys)

pub or_none : (x : Option (List ℕ)) → option_or x None ≡ x
or_none (Some bytes) = refl
or_none None = refl

-- a commit more is one that is added to the pages
pub fill-append : (pages : List Catalog) (cs : Catalog) (c : Stored) → fill pages (cs ++ c ∷ []) ≡ add_commit (fill pages cs) c
fill-append pages [] c = refl
fill-append pages (d ∷ cs) c = fill-append (add_commit pages d) cs c

module _ (base : List ℕ) (name : List ℕ) where
  one_page : (k : ℕ) (page newer : Catalog) (c : Stored) (fits : Bool) (last : ℕ)
      → last + 1 ≡ k + length (if fits then newer ∷ [] else page ∷ (c ∷ []) ∷ []) → name ≢ page_name last
      → look_up name (page_docs base k (if fits then newer ∷ [] else page ∷ (c ∷ []) ∷ [])) ≡ look_up name (page_docs base k (page ∷ []))
  one_page k page newer c true last is other =
      let same : last ≡ k = omega arith in
      let elsewhere : name ≢ page_name k = subst (λ (j : ℕ). name ≢ page_name j) same other in
      miss name (record { name = page_name k; bytes = page_text base k (all_rows newer) }) [] elsewhere
      ∙ sym (miss name (record { name = page_name k; bytes = page_text base k (all_rows page) }) [] elsewhere)
  one_page k page newer c false last is other =
      let same : last ≡ suc k = omega arith in
      let elsewhere : name ≢ page_name (suc k) = subst (λ (j : ℕ). name ≢ page_name j) same other in
      behind name (record { name = page_name k; bytes = page_text base k (all_rows page) })
      (record { name = page_name (suc k); bytes = page_text base (suc k) (all_rows (c ∷ [])) } ∷ []) []
      (miss name (record { name = page_name (suc k); bytes = page_text base (suc k) (all_rows (c ∷ [])) }) [] elsewhere)

  -- a commit more leaves each page but the last as it is
  pub pages_stay : (k : ℕ) (pages : List Catalog) (c : Stored) (last : ℕ) → last + 1 ≡ k + length (add_commit pages c) → name ≢ page_name last
      → look_up name (page_docs base k (add_commit pages c)) ≡ look_up name (page_docs base k pages)
  pages_stay k [] c last is other =
      let same : last ≡ k = omega arith in
      miss name (record { name = page_name k; bytes = page_text base k (all_rows (c ∷ [])) }) [] (subst (λ (j : ℕ). name ≢ page_name j) same other)
  pages_stay k (page ∷ []) c last is other =
      one_page k page (page ++ c ∷ []) c (nat_le (length (all_rows page) + length c.commit.items) page_room) last is other
  pages_stay k (page ∷ next ∷ pages) c last is other =
      behind name (record { name = page_name k; bytes = page_text base k (all_rows page) }) (page_docs base (suc k) (add_commit (next ∷ pages) c))
      (page_docs base (suc k) (next ∷ pages)) (pages_stay (suc k) (next ∷ pages) c last (omega arith) other)

  -- no leaf of the commit has the name
  pub no_leaf : (number stamp place : ℕ) (items : List Item) → ((p : ℕ) → name ≢ leaf_name number p)
      → look_up name (leaves_from base number stamp place items) ≡ None
  no_leaf number stamp place [] other = refl
  no_leaf number stamp place (it ∷ items) other =
      miss name (record { name = leaf_name number place; bytes = leaf_text base number place stamp it }) (leaves_from base number stamp (suc place) items) (other place)
      ∙ no_leaf number stamp (suc place) items other

  -- the leaves of another commit more
  pub leaves_stay : (cs : Catalog) (c : Stored) → ((p : ℕ) → name ≢ leaf_name c.commit.number p)
      → look_up name (flat_map (leaves_of base) (cs ++ c ∷ [])) ≡ look_up name (flat_map (leaves_of base) cs)
  leaves_stay cs c other =
      ap (look_up name) (flat_map-append (leaves_of base) cs (c ∷ []))
      ∙ look_up-append name (flat_map (leaves_of base) cs) (leaves_of base c ++ [])
      ∙ ap (option_or (look_up name (flat_map (leaves_of base) cs)))
      (look_up-append name (leaves_of base c) [] ∙ or_none (look_up name (leaves_of base c)) ∙ no_leaf c.commit.number c.commit.stamp 0 c.commit.items other)
      ∙ or_none (look_up name (flat_map (leaves_of base) cs))

  -- a name that is not the index's
  pub past_index : (cs : Catalog) → name ≢ index_name
      → doc_at base cs name ≡ option_or (look_up name (page_docs base 0 (pages_of cs))) (look_up name (flat_map (leaves_of base) cs))
  past_index cs other =
      miss name (record { name = index_name; bytes = index_text base (heads_of cs) }) (page_docs base 0 (pages_of cs) ++ flat_map (leaves_of base) cs) other
      ∙ look_up-append name (page_docs base 0 (pages_of cs)) (flat_map (leaves_of base) cs)

added_page : (page : Catalog) (c : Stored) (newer : Catalog) (fits : Bool) → 0 < length (if fits then newer ∷ [] else page ∷ (c ∷ []) ∷ [])
added_page page c newer true = omega arith
added_page page c newer false = omega arith

-- there is a page then
pub add_commit-filled : (pages : List Catalog) (c : Stored) → 0 < length (add_commit pages c)
add_commit-filled [] c = omega arith
add_commit-filled (page ∷ []) c = added_page page c (page ++ c ∷ []) (nat_le (length (all_rows page) + length c.commit.items) page_room)
add_commit-filled (page ∷ next ∷ pages) c = omega arith

-- a document that is elsewhere stays
pub elsewhere_stays : (base : List ℕ) (cs : Catalog) (c : Stored) (name : List ℕ) → IsElsewhere cs c name → doc_at base (cs ++ c ∷ []) name ≡ doc_at base cs name
elsewhere_stays base cs c name elsewhere =
    let grown : pages_of (cs ++ c ∷ []) ≡ add_commit (pages_of cs) c = fill-append [] cs c in
    let there : name ≢ page_name (length (add_commit (pages_of cs) c) - 1) = subst (λ (pages : List Catalog). name ≢ page_name (length pages - 1)) grown elsewhere.page in
    let filled : 0 < length (add_commit (pages_of cs) c) = add_commit-filled (pages_of cs) c in
    let pages : look_up name (page_docs base 0 (pages_of (cs ++ c ∷ []))) ≡ look_up name (page_docs base 0 (pages_of cs)) =
    ap (λ (ps : List Catalog). look_up name (page_docs base 0 ps)) grown
    ∙ pages_stay base name 0 (pages_of cs) c (length (add_commit (pages_of cs) c) - 1) (omega arith) there in
    past_index base name (cs ++ c ∷ []) elsewhere.index
    ∙ (λ i. option_or (pages i) (leaves_stay base name cs c elsewhere.leaves i))
    ∙ sym (past_index base name cs elsewhere.index)
