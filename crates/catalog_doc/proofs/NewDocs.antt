-- Pages and leaves of a catalog stand in it at their names.
use Rattle.std.proofs.Common.{◌≡◌, ◌≢◌, ◌<◌, ◌≤◌, ◌+◌, ◌^◌, ℕ, zero, suc, List, [], ◌∷◌, ◌++◌, length, All, Bool, true, false, Option, Some, None, IfSome, refl, sym, ◌∙◌, ap, subst, arith}
use Rattle.std.specs.Prelude.{flat_map, if◌then◌else◌, nat_le, slice_get}
use Rattle.std.proofs.lemmas.Grind.{flat_map-append}
use Rattle.std.specs.Option.{option_or}
use Rattle.std.proofs.lemmas.Option.{slice_get_within}
use Rattle.pkg_meta.specs.Catalog.{Catalog}
use Rattle.pkg_meta.specs.declared.commit.Stored.{Stored}
use Rattle.pkg_meta.specs.declared.item.Item.{Item}
use Rattle.catalog_doc.specs.CatDocs.{add_commit, all_rows, doc_at, fill, last_page, leaves_from, leaves_of, look_up, page_docs, page_room, pages_of}
use Rattle.catalog_doc.specs.Documents.{leaf_text, page_text}
use Rattle.catalog_doc.specs.Laws.{HasLeaves, HasOwnNumber}
use Rattle.catalog_doc.specs.Names.{leaf_name, page_name}
use Rattle.catalog_doc.proofs.DocNames.{leaf_name-not_index, leaf_name-not_page, leaf_name-number, leaf_name-place, page_name-injective}
use Rattle.catalog_doc.proofs.LookUps.{hit, look_up-append, miss, no_leaf, or_none, past_index}

-- the last of some pages has its document
pub last_has : (base : List ℕ) (k : ℕ) (pages : List Catalog) (last : ℕ) → 0 < length pages → last + 1 ≡ k + length pages → last < 2 ^ 64
    → look_up (page_name last) (page_docs base k pages) ≡ Some (page_text base last (all_rows (last_page pages)))
last_has base k [] last filled is few = absurd (omega arith)
last_has base k (page ∷ []) last filled is few =
    let same : k ≡ last = omega arith in
    subst (λ (j : ℕ). look_up (page_name j) (page_docs base k (page ∷ [])) ≡ Some (page_text base j (all_rows page))) same
    (hit (record { name = page_name k; bytes = page_text base k (all_rows page) }) [])
last_has base k (page ∷ next ∷ pages) last filled is few =
    let apart : page_name last ≢ page_name k = λ e. (let same : last ≡ k = page_name-injective last k few (omega arith) e in omega arith) in
    miss (page_name last) (record { name = page_name k; bytes = page_text base k (all_rows page) }) (page_docs base (suc k) (next ∷ pages)) apart
    ∙ last_has base (suc k) (next ∷ pages) last (omega arith) (omega arith) few

room_at_most : (page newer : Catalog) (c : Stored) (fits : Bool) → length (if fits then newer ∷ [] else page ∷ (c ∷ []) ∷ []) ≤ 2
room_at_most page newer c true = omega arith
room_at_most page newer c false = omega arith

room_at_least : (page newer : Catalog) (c : Stored) (fits : Bool) → 1 ≤ length (if fits then newer ∷ [] else page ∷ (c ∷ []) ∷ [])
room_at_least page newer c true = omega arith
room_at_least page newer c false = omega arith

-- a commit adds at most one page, and takes none away
one_more : (pages : List Catalog) (c : Stored) → (length (add_commit pages c) ≤ length pages + 1) × (length pages ≤ length (add_commit pages c))
one_more [] c = (omega arith, omega arith)
one_more (page ∷ []) c = (
  room_at_most page (page ++ c ∷ []) c (nat_le (length (all_rows page) + length c.commit.items) page_room),
  room_at_least page (page ++ c ∷ []) c (nat_le (length (all_rows page) + length c.commit.items) page_room),
)
one_more (page ∷ next ∷ pages) c = let rest = one_more (next ∷ pages) c in (omega arith, omega arith)

-- there are no more pages than commits
pub few_pages : (pages : List Catalog) (cs : Catalog) → (length (fill pages cs) ≤ length pages + length cs) × (length pages ≤ length (fill pages cs))
few_pages pages [] = (omega arith, omega arith)
few_pages pages (c ∷ cs) =
    let one = one_more pages c in
    let rest = few_pages (add_commit pages c) cs in
    (omega arith, omega arith)

pub some_page : (cs : Catalog) → 0 < length cs → 0 < length (pages_of cs)
some_page [] filled = absurd (omega arith)
some_page (c ∷ cs) filled = let rest = (few_pages (add_commit [] c) cs).1 in omega arith

pub found_first : (x y : Option (List ℕ)) (bytes : List ℕ) → x ≡ Some bytes → option_or x y ≡ Some bytes
found_first x y bytes e = ap (λ (found : Option (List ℕ)). option_or found y) e

if_found : {A : Type 0} (found : Option A) (P : A → Type 0) → ((x : A) → found ≡ Some x → P x) → IfSome found P
if_found (Some x) P holds = holds x refl
if_found None P holds = tt

-- no page has a leaf's name
pub no_page : (base : List ℕ) (number place k : ℕ) (pages : List Catalog) → look_up (leaf_name number place) (page_docs base k pages) ≡ None
no_page base number place k [] = refl
no_page base number place k (page ∷ pages) =
    miss (leaf_name number place) (record { name = page_name k; bytes = page_text base k (all_rows page) }) (page_docs base (suc k) pages) (leaf_name-not_page number place k)
    ∙ no_page base number place (suc k) pages

-- nor has a commit of another number
no_other_leaf : (base : List ℕ) (number place : ℕ) (cs : Catalog) → number < 2 ^ 32
    → All (λ (other : Stored). (other.commit.number < 2 ^ 32) × (other.commit.number ≢ number)) cs
    → look_up (leaf_name number place) (flat_map (leaves_of base) cs) ≡ None
no_other_leaf base number place [] fits others = refl
no_other_leaf base number place (c ∷ cs) fits others =
    let own : (c.commit.number < 2 ^ 32) × (c.commit.number ≢ number) = others zero c (omega arith) in
    look_up-append (leaf_name number place) (leaves_of base c) (flat_map (leaves_of base) cs)
    ∙ ap (λ (found : Option (List ℕ)). option_or found (look_up (leaf_name number place) (flat_map (leaves_of base) cs)))
    (no_leaf base (leaf_name number place) c.commit.number c.commit.stamp 0 c.commit.items
    (λ p e. own.1 (sym (leaf_name-number number c.commit.number place p (omega (arith, fits)) (omega (arith, own.0)) e))))
    ∙ no_other_leaf base number place cs fits (λ k d lt. others (suc k) d (omega arith))

-- a leaf of a commit is found at its place
leaf_there : (base : List ℕ) (number stamp from : ℕ) (items : List Item) (k place : ℕ) (it : Item) → number < 2 ^ 32 → from + length items ≤ 2 ^ 64
    → place ≡ from + k → slice_get items k ≡ Some it
    → look_up (leaf_name number place) (leaves_from base number stamp from items) ≡ Some (leaf_text base number place stamp it)
leaf_there base number stamp from [] k place it fits few is at = cc
leaf_there base number stamp from (x ∷ items) zero place it fits few is at =
    let same : from ≡ place = omega arith in
    let here : x ≡ it = cc in
    subst (λ (p : ℕ). look_up (leaf_name number p) (leaves_from base number stamp from (x ∷ items)) ≡ Some (leaf_text base number p stamp it)) same
    (hit (record { name = leaf_name number from; bytes = leaf_text base number from stamp x }) (leaves_from base number stamp (suc from) items)
    ∙ ap (λ (y : Item). Some (leaf_text base number from stamp y)) here)
leaf_there base number stamp from (x ∷ items) (suc k) place it fits few is at =
    let within : k < length items = slice_get_within items k it at in
    let apart : leaf_name number place ≢ leaf_name number from =
    λ e. (let same : place ≡ from = leaf_name-place number number place from (omega arith) (omega arith) (omega arith) (omega arith) e in omega arith) in
    miss (leaf_name number place) (record { name = leaf_name number from; bytes = leaf_text base number from stamp x }) (leaves_from base number stamp (suc from) items) apart
    ∙ leaf_there base number stamp (suc from) items k place it fits (omega arith) (omega arith) at

-- each leaf of the last commit
pub leaf_is : (base : List ℕ) (cs : Catalog) (c : Stored) → HasOwnNumber cs c → length c.commit.items ≤ 2 ^ 64 → (place : ℕ) (it : Item) → slice_get c.commit.items place ≡ Some it
    → doc_at base (cs ++ c ∷ []) (leaf_name c.commit.number place) ≡ Some (leaf_text base c.commit.number place c.commit.stamp it)
leaf_is base cs c own few place it at =
    let name = leaf_name c.commit.number place in
    past_index base name (cs ++ c ∷ []) (leaf_name-not_index c.commit.number place)
    ∙ ap (λ (found : Option (List ℕ)). option_or found (look_up name (flat_map (leaves_of base) (cs ++ c ∷ [])))) (no_page base c.commit.number place 0 (pages_of (cs ++ c ∷ [])))
    ∙ ap (look_up name) (flat_map-append (leaves_of base) cs (c ∷ []))
    ∙ look_up-append name (flat_map (leaves_of base) cs) (leaves_of base c ++ [])
    ∙ ap (λ (found : Option (List ℕ)). option_or found (look_up name (leaves_of base c ++ []))) (no_other_leaf base c.commit.number place cs own.0 own.1)
    ∙ look_up-append name (leaves_of base c) []
    ∙ or_none (look_up name (leaves_of base c))
    ∙ leaf_there base c.commit.number c.commit.stamp 0 c.commit.items place place it own.0 (omega arith) (omega arith) at

pub leaves_there : (base : List ℕ) (cs : Catalog) (c : Stored) → HasOwnNumber cs c → length c.commit.items ≤ 2 ^ 64 → HasLeaves base cs c
leaves_there base cs c own few place = if_found (slice_get c.commit.items place)
    (λ (it : Item). doc_at base (cs ++ c ∷ []) (leaf_name c.commit.number place) ≡ Some (leaf_text base c.commit.number place c.commit.stamp it))
    (leaf_is base cs c own few place)
