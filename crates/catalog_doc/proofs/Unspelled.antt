-- The area of no commits spells them; and areas that spell no catalog: with a foreign name, without a page, with an index two behind.
use Rattle.std.proofs.Common.{◌≡◌, ◌≢◌, ◌<◌, ◌≤◌, ◌+◌, ◌-◌, ⊎_elim, inl, ℕ, List, [], ◌∷◌, length, codes, get_or, Bool, true, false, Option, None, Some, IsSome, IsUtf8, refl, sym, ◌∙◌, ap, subst, arith, length-append}
use Rattle.std.proofs.lemmas.List.{length-map}
use Rattle.std.specs.FinMap.{empty, get, get-empty}
use Rattle.std.specs.Str.{bytes_eq}
use Rattle.serde_json.specs.Data.{Data, number, unsigned}
use Rattle.json_law.proofs.Back.{compact_text-injective}
use Rattle.blob_store.specs.Area.{Area, with_blob}
use Rattle.blob_store.specs.declared.call.Call.TheVariants.{Put}
use Rattle.pkg_meta.specs.Catalog.{Catalog}
use Rattle.catalog_doc.specs.CatDocs.{all_rows, heads_of, last_page, pages_of}
use Rattle.catalog_doc.specs.Catalogs.{IsCatalog}
use Rattle.catalog_doc.specs.Documents.{head_of, index_data, index_text, page_text}
use Rattle.catalog_doc.specs.Names.{index_name, leaf_name, nupkg_name, nuspec_name, page_name}
use Rattle.catalog_doc.specs.Spelled.{HoldsIndex, IsNameUpTo, SpellsCatalog}
use Rattle.catalog_doc.proofs.AllPages.{counts_of}
use Rattle.catalog_doc.proofs.DocNames.{page_name-not_index}
use Rattle.catalog_doc.proofs.InRange.{in_range}
use Rattle.catalog_doc.proofs.LookUps.{past_index}
use Rattle.catalog_doc.proofs.NewDocs.{some_page}
use Rattle.catalog_doc.proofs.Numbered.{few_commits}
use Rattle.catalog_doc.proofs.OnePage.{flat_index, index_fits}
use Rattle.catalog_doc.proofs.Prefixes.{prefix_is_catalog}
use Rattle.catalog_doc.proofs.RowData.{members_in, nth}
use Rattle.catalog_doc.proofs.Spelling.{bytes_eq-false, bytes_eq-true, get_past, get_put, page_is}

-- the area that holds the index of no commits alone
abbrev alone : List ℕ → Area
alone base = with_blob index_name (index_text base []) empty

other_none : (base name : List ℕ) → name ≢ index_name → get (alone base) name ≡ None
other_none base name other = get_past (Put index_name (index_text base [])) empty name other ∙ get-empty _ name

none_some : {A : Type 0} (o : Option A) → o ≡ None → IsSome o → ⊥
none_some None e some = cc
none_some (Some x) e some = cc

only_index : (base name : List ℕ) (b : Bool) → bytes_eq name index_name ≡ b → IsSome (get (alone base) name) → IsNameUpTo 1 name
only_index base name true same some = inl (bytes_eq-true name index_name same)
only_index base name false apart some = absurd (none_some (get (alone base) name) (other_none base name (bytes_eq-false name index_name apart)) some)

pub none_spelled : (base : List ℕ) → IsUtf8 base → SpellsCatalog (alone base) base []
none_spelled base text = record {
  base_text = text;
  pages = λ k. other_none base (page_name k) (page_name-not_index k) ∙ sym (past_index base (page_name k) [] (page_name-not_index k));
  commits = λ c there. absurd (omega (arith, there.1));
  index = inl (get_put index_name (index_text base []) empty);
  others = λ name some. only_index base name (bytes_eq name index_name) refl some;
}

-- a name of another first letter
foreign_name : (most : ℕ) (name : List ℕ) → get_or name 0 0 ≡ 110 → IsNameUpTo most name → ⊥
foreign_name most name first known = ⊎_elim
    (λ e. apart name index_name first (omega arith) e)
    (λ rest. ⊎_elim
    (λ page. apart name (page_name page.0) first (omega arith) page.1)
    (λ at. ⊎_elim
    (λ e. apart name (leaf_name at.0 at.1) first (omega arith) e)
    (λ staged. ⊎_elim
    (λ e. apart name (nupkg_name at.0 at.1) first (omega arith) e)
    (λ e. apart name (nuspec_name at.0 at.1) first (omega arith) e)
    staged)
    at.3)
    rest)
    known
  where
    apart : (xs ys : List ℕ) → get_or xs 0 0 ≡ 110 → get_or ys 0 0 ≢ 110 → xs ≡ ys → ⊥
    apart xs ys is other e = other (sym (ap (λ (l : List ℕ). get_or l 0 0) e) ∙ is)

some_of : (bytes : List ℕ) (o : Option (List ℕ)) → o ≡ Some bytes → IsSome o
some_of bytes (Some x) e = refl
some_of bytes None e = cc

pub no_foreign : (m : Area) (bytes base : List ℕ) (cs : Catalog) → SpellsCatalog (with_blob (codes "notes.txt") bytes m) base cs → ⊥
no_foreign m bytes base cs spells =
    foreign_name (length cs + 1) (codes "notes.txt") refl
    (spells.others (codes "notes.txt") (some_of bytes (get (with_blob (codes "notes.txt") bytes m) (codes "notes.txt")) (get_put (codes "notes.txt") bytes m)))

pub no_missing_page : (m : Area) (base : List ℕ) (cs : Catalog) → IsCatalog cs → 0 < length cs → get m (page_name (length (pages_of cs) - 1)) ≡ None → SpellsCatalog m base cs → ⊥
no_missing_page m base cs whole filled missing spells =
    let few = few_commits cs whole.lawful in
    absent (page_text base (length (pages_of cs) - 1) (all_rows (last_page (pages_of cs))))
    (sym missing ∙ spells.pages (length (pages_of cs) - 1) ∙ page_is base cs filled (omega (arith, few)))
  where
    absent : (bytes : List ℕ) → None ≡ Some bytes → ⊥
    absent bytes e = cc

-- the number of pages that an index tells
count_in : Data → ℕ
count_in (number (unsigned n)) = n
count_in d = 0

-- the index of a catalog of commits isn't that of none
index_differs : (base : List ℕ) (cs : Catalog) → IsCatalog cs → 0 < length cs → index_text base [] ≡ index_text base (heads_of cs) → ⊥
unfolding index_text count_in
index_differs base cs whole filled e =
    let counts = counts_of cs (in_range cs whole.lawful) in
    let same : index_data base [] ≡ index_data base (heads_of cs) =
    compact_text-injective (index_data base []) (index_data base (heads_of cs)) (index_fits base [] tt (omega arith)) (flat_index base [])
    (index_fits base (heads_of cs) counts.0 counts.1) (flat_index base (heads_of cs)) e in
    let pages : 0 ≡ length (heads_of cs) = ap (λ (d : Data). count_in (nth 3 (members_in d))) same in
    let heads : length (heads_of cs) ≡ length (pages_of cs) = length-map (pages_of cs) (λ (page : Catalog). head_of (all_rows page)) in
    let some = some_page cs filled in
    omega (arith, pages, heads, some)

from_held : (x y : List ℕ) → Some x ≡ Some y → x ≡ y
from_held x y e = cc

pub no_old_index : (m : Area) (base : List ℕ) (cs : Catalog) → IsCatalog cs → 2 ≤ length cs → HoldsIndex m base [] → SpellsCatalog m base cs → ⊥
no_old_index m base cs whole two held spells = ⊎_elim
    (λ own. index_differs base cs whole (omega (arith, two)) (from_held _ _ (sym held ∙ own)))
    (λ old. (let shorter : IsCatalog old.0 = prefix_is_catalog old.0 (old.1 ∷ []) (subst IsCatalog old.2 whole) in
    let longer = ap length old.2 ∙ length-append old.0 (old.1 ∷ []) in
    index_differs base old.0 shorter (omega (arith, two, longer)) (from_held _ _ (sym held ∙ old.3))))
    spells.index
