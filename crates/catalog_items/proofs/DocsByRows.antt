-- Which documents a catalog has, by its rows and the number of its pages.
use Rattle.std.proofs.Common.{◌≡◌, ◌<◌, ◌+◌, ◌-◌, ℕ, suc, List, [], ◌∷◌, ◌++◌, length, Bool, true, false, Option, Some, None, refl, sym, ◌∙◌, ap, ap₂, arith}
use Rattle.std.specs.Prelude.{◌||◌, flat_map, if◌then◌else◌}
use Rattle.std.proofs.lemmas.List.{length-map}
use Rattle.std.specs.Option.{is_some, option_or}
use Rattle.std.specs.Str.{bytes_eq}
use Rattle.pkg_meta.specs.Catalog.{Catalog}
use Rattle.pkg_meta.specs.declared.item.Item.{Item}
use Rattle.catalog_doc.specs.CatDocs.{all_rows, doc_at, heads_of, leaves_from, leaves_of, look_up, page_docs, pages_of, rows_from, rows_of}
use Rattle.catalog_doc.specs.Documents.{head_of, index_text, leaf_text, page_text}
use Rattle.catalog_doc.specs.Names.{index_name, leaf_name, page_name}
use Rattle.catalog_doc.specs.declared.row.Row.{Row}
use Rattle.catalog_doc.proofs.LookUps.{look_up-append}
use Rattle.catalog_items.specs.ByRows.{has_doc, has_leaf, has_page}

some_if : (b : Bool) (bytes : List ℕ) (rest : Option (List ℕ)) → is_some (if b then Some bytes else rest) ≡ (b || is_some rest)
some_if true bytes rest = refl
some_if false bytes rest = refl

some_or : (x y : Option (List ℕ)) → is_some (option_or x y) ≡ (is_some x || is_some y)
some_or (Some bytes) y = refl
some_or None y = refl

or_assoc : (a b c : Bool) → ((a || b) || c) ≡ (a || (b || c))
or_assoc true b c = refl
or_assoc false b c = refl

has_leaf-append : (name : List ℕ) (xs ys : List Row) → has_leaf name (xs ++ ys) ≡ (has_leaf name xs || has_leaf name ys)
has_leaf-append name [] ys = refl
has_leaf-append name (row ∷ xs) ys =
    ap (λ (b : Bool). bytes_eq name (leaf_name row.number row.place) || b) (has_leaf-append name xs ys)
    ∙ sym (or_assoc (bytes_eq name (leaf_name row.number row.place)) (has_leaf name xs) (has_leaf name ys))

module _ (base name : List ℕ) where
  leaves_by_rows : (number stamp place : ℕ) (items : List Item)
      → is_some (look_up name (leaves_from base number stamp place items)) ≡ has_leaf name (rows_from number stamp place items)
  leaves_by_rows number stamp place [] = refl
  leaves_by_rows number stamp place (it ∷ items) =
      some_if (bytes_eq name (leaf_name number place)) (leaf_text base number place stamp it) (look_up name (leaves_from base number stamp (suc place) items))
      ∙ ap (λ (b : Bool). bytes_eq name (leaf_name number place) || b) (leaves_by_rows number stamp (suc place) items)

  all_leaves_by_rows : (cs : Catalog) → is_some (look_up name (flat_map (leaves_of base) cs)) ≡ has_leaf name (all_rows cs)
  all_leaves_by_rows [] = refl
  all_leaves_by_rows (c ∷ cs) =
      ap is_some (look_up-append name (leaves_of base c) (flat_map (leaves_of base) cs))
      ∙ some_or (look_up name (leaves_of base c)) (look_up name (flat_map (leaves_of base) cs))
      ∙ ap₂ (λ (a b : Bool). a || b) (leaves_by_rows c.commit.number c.commit.stamp 0 c.commit.items) (all_leaves_by_rows cs)
      ∙ sym (has_leaf-append name (rows_of c) (all_rows cs))

  pages_by_count : (k : ℕ) (pages : List Catalog) → is_some (look_up name (page_docs base k pages)) ≡ has_page name k (length pages)
  pages_by_count k [] = refl
  pages_by_count k (page ∷ pages) =
      some_if (bytes_eq name (page_name k)) (page_text base k (all_rows page)) (look_up name (page_docs base (suc k) pages))
      ∙ ap (λ (b : Bool). bytes_eq name (page_name k) || b) (pages_by_count (suc k) pages)

  pub doc_by_rows : (cs : Catalog) → is_some (doc_at base cs name) ≡ has_doc name (all_rows cs) (length (heads_of cs))
  doc_by_rows cs =
      some_if (bytes_eq name index_name) (index_text base (heads_of cs)) (look_up name (page_docs base 0 (pages_of cs) ++ flat_map (leaves_of base) cs))
      ∙ ap (λ (b : Bool). bytes_eq name index_name || b)
      (ap is_some (look_up-append name (page_docs base 0 (pages_of cs)) (flat_map (leaves_of base) cs))
      ∙ some_or (look_up name (page_docs base 0 (pages_of cs))) (look_up name (flat_map (leaves_of base) cs))
      ∙ ap₂ (λ (a b : Bool). a || b)
      (pages_by_count 0 (pages_of cs) ∙ ap (has_page name 0) (sym (length-map (pages_of cs) (λ page. head_of (all_rows page)))))
      (all_leaves_by_rows cs))

-- one page more was looked at
pub page_more : (name : List ℕ) (k n : ℕ) → k < n → has_page name k (n - k) ≡ (bytes_eq name (page_name k) || has_page name (k + 1) (n - (k + 1)))
page_more name k n within =
    let one : n - k ≡ suc (n - (k + 1)) = omega (arith, within) in
    let next : suc k ≡ k + 1 = omega arith in
    ap (has_page name k) one ∙ ap (λ (j : ℕ). bytes_eq name (page_name k) || has_page name j (n - (k + 1))) next
