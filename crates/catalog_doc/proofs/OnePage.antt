-- Catalogs of one page: their first page tells their rows, and their index the base address.
use Rattle.std.proofs.Common.{◌≡◌, ◌<◌, ◌≤◌, ◌+◌, ◌^◌, ℕ, zero, suc, List, [], ◌∷◌, ◌++◌, length, map, All, Bool, codes, Option, Some, None, refl, sym, ◌∙◌, ap, subst, arith, append_assoc, append-nil, length-append}
use Rattle.std.proofs.lemmas.Bool.{le-leb}
use Rattle.std.specs.Prelude.{flat_map, if◌then◌else◌, nat_le}
use Rattle.std.specs.Option.{option_or}
use Rattle.std.proofs.lemmas.Grind.{flat_map-append}
use Rattle.std.proofs.lemmas.List.{append_cancel_right}
use Rattle.serde_json.specs.Data.{depth, items_depth}
use Rattle.serde_json.specs.View.{items_of}
use Rattle.json_law.specs.Fits.{Fits, ItemsFit}
use Rattle.json_law.proofs.Back.{compact_text-injective}
use Rattle.pkg_meta.specs.Catalog.{Catalog}
use Rattle.pkg_meta.specs.declared.commit.Stored.{Stored}
use Rattle.pkg_meta.specs.declared.item.Item.{Item}
use Rattle.catalog_doc.specs.CatDocs.{all_rows, doc_at, fill, heads_of, leaves_of, look_up, page_docs, page_room, pages_of, rows_from, rows_of}
use Rattle.catalog_doc.specs.Documents.{head_of, heads_data, index_data, index_text, page_text}
use Rattle.catalog_doc.specs.Laws.{FitsOnePage}
use Rattle.catalog_doc.specs.Names.{index_name, page_name}
use Rattle.catalog_doc.specs.declared.head.PageHead.{PageHead}
use Rattle.catalog_doc.specs.declared.row.Row.{Row}
use Rattle.catalog_doc.proofs.DocNames.{page_name-not_index}
use Rattle.catalog_doc.proofs.LookUps.{hit, past_index}
use Rattle.catalog_doc.proofs.RowData.{nth_text, page_text-tells, RowsFit}

pub length-rows_from : (number stamp place : ℕ) (items : List Item) → length (rows_from number stamp place items) ≡ length items
length-rows_from number stamp place [] = refl
length-rows_from number stamp place (it ∷ items) = ap suc (length-rows_from number stamp (suc place) items)

within_room : (n : ℕ) (page newer : Catalog) (c : Stored) → n ≤ page_room
    → (if nat_le n page_room then newer ∷ [] else page ∷ (c ∷ []) ∷ []) ≡ newer ∷ []
within_room n page newer c within = ap (λ (b : Bool). if b then newer ∷ [] else page ∷ (c ∷ []) ∷ []) (le-leb n page_room within)

-- commits that have room on a page stand on it
one_page : (front cs : Catalog) → length (all_rows (front ++ cs)) ≤ page_room → fill (front ∷ []) cs ≡ (front ++ cs) ∷ []
one_page front [] few = ap (λ (page : Catalog). page ∷ []) (sym (append-nil front))
one_page front (c ∷ cs) few =
    let joined : length (all_rows (front ++ c ∷ cs)) ≡ length (all_rows front) + length (rows_of c ++ all_rows cs) =
    ap length (flat_map-append rows_of front (c ∷ cs)) ∙ length-append (all_rows front) (rows_of c ++ all_rows cs) in
    let split : length (rows_of c ++ all_rows cs) ≡ length (rows_of c) + length (all_rows cs) = length-append (rows_of c) (all_rows cs) in
    let items : length (rows_of c) ≡ length c.commit.items = length-rows_from c.commit.number c.commit.stamp 0 c.commit.items in
    let within : length (all_rows front) + length c.commit.items ≤ page_room = omega (arith, few, joined, split, items) in
    let regrouped : (front ++ c ∷ []) ++ cs ≡ front ++ c ∷ cs = append_assoc front (c ∷ []) cs in
    ap (λ (pages : List Catalog). fill pages cs) (within_room (length (all_rows front) + length c.commit.items) front (front ++ c ∷ []) c within)
    ∙ one_page (front ++ c ∷ []) cs (subst (λ (all : Catalog). length (all_rows all) ≤ page_room) (sym regrouped) few)
    ∙ ap (λ (page : Catalog). page ∷ []) regrouped

pub its_page : (c : Stored) (cs : Catalog) → length (all_rows (c ∷ cs)) ≤ page_room → pages_of (c ∷ cs) ≡ (c ∷ cs) ∷ []
its_page c cs few = one_page (c ∷ []) cs few

rows_fit : (number stamp place : ℕ) (items : List Item) → number < 2 ^ 64 → stamp ≤ 3_155_378_975_999_999_999 → place + length items ≤ 2 ^ 64 → RowsFit (rows_from number stamp place items)
rows_fit number stamp place [] fits moment few = tt
rows_fit number stamp place (it ∷ items) fits moment few =
    (record { number = fits; place = omega arith; stamp = moment }, rows_fit number stamp (suc place) items fits moment (omega arith))

both_fit : (xs ys : List Row) → RowsFit xs → RowsFit ys → RowsFit (xs ++ ys)
both_fit [] ys fx fy = fy
both_fit (x ∷ xs) ys fx fy = (fx.0, both_fit xs ys fx.1 fy)

pub all_fit : (cs : Catalog) → length (all_rows cs) < 2 ^ 64
    → All (λ (c : Stored). (c.commit.number < 2 ^ 32) × (c.commit.stamp ≤ 3_155_378_975_999_999_999)) cs → RowsFit (all_rows cs)
all_fit [] few commits = tt
all_fit (c ∷ cs) few commits =
    let own : (c.commit.number < 2 ^ 32) × (c.commit.stamp ≤ 3_155_378_975_999_999_999) = commits zero c (omega arith) in
    let split : length (rows_of c ++ all_rows cs) ≡ length (rows_of c) + length (all_rows cs) = length-append (rows_of c) (all_rows cs) in
    let items : length (rows_of c) ≡ length c.commit.items = length-rows_from c.commit.number c.commit.stamp 0 c.commit.items in
    both_fit (rows_of c) (all_rows cs)
    (rows_fit c.commit.number c.commit.stamp 0 c.commit.items (omega (arith, own.0)) own.1 (omega (arith, few, split, items)))
    (all_fit cs (omega (arith, few, split)) (λ k d lt. commits (suc k) d (omega arith)))

pub from_some : (x y : List ℕ) → Some x ≡ Some y → x ≡ y
from_some x y e = cc

pub none_some : (x : List ℕ) → None ≡ Some x → ⊥
none_some x e = cc

-- the first page of a catalog of one
pub first_page_is : (base : List ℕ) (c : Stored) (cs : Catalog) → length (all_rows (c ∷ cs)) ≤ page_room
    → doc_at base (c ∷ cs) (page_name 0) ≡ Some (page_text base 0 (all_rows (c ∷ cs)))
first_page_is base c cs few =
    past_index base (page_name 0) (c ∷ cs) (page_name-not_index 0)
    ∙ ap (λ (pages : List Catalog). option_or (look_up (page_name 0) (page_docs base 0 pages)) (look_up (page_name 0) (flat_map (leaves_of base) (c ∷ cs)))) (its_page c cs few)
    ∙ ap (λ (found : Option (List ℕ)). option_or found (look_up (page_name 0) (flat_map (leaves_of base) (c ∷ cs))))
    (hit (record { name = page_name 0; bytes = page_text base 0 (all_rows (c ∷ cs)) }) [])

pub no_first_page : (base : List ℕ) → doc_at base [] (page_name 0) ≡ None
no_first_page base = past_index base (page_name 0) [] (page_name-not_index 0)

-- equal first pages have equal rows
pub same_first_page : (base other : List ℕ) (cs ds : Catalog) → FitsOnePage cs → FitsOnePage ds
    → doc_at base cs (page_name 0) ≡ doc_at other ds (page_name 0) → all_rows cs ≡ all_rows ds
same_first_page base other [] [] fc fd e = refl
same_first_page base other [] (d ∷ ds) fc fd e =
    absurd (none_some (page_text other 0 (all_rows (d ∷ ds))) (sym (no_first_page base) ∙ e ∙ first_page_is other d ds fd.few))
same_first_page base other (c ∷ cs) [] fc fd e =
    absurd (none_some (page_text base 0 (all_rows (c ∷ cs))) (sym (no_first_page other) ∙ sym e ∙ first_page_is base c cs fc.few))
same_first_page base other (c ∷ cs) (d ∷ ds) fc fd e =
    let text : page_text base 0 (all_rows (c ∷ cs)) ≡ page_text other 0 (all_rows (d ∷ ds)) =
    from_some (page_text base 0 (all_rows (c ∷ cs))) (page_text other 0 (all_rows (d ∷ ds))) (sym (first_page_is base c cs fc.few) ∙ e ∙ first_page_is other d ds fd.few) in
    (page_text-tells base other 0 (all_rows (c ∷ cs)) (all_rows (d ∷ ds)) (all_fit (c ∷ cs) (omega (arith, fc.few)) fc.commits) (all_fit (d ∷ ds) (omega (arith, fd.few)) fd.commits)
    (omega (arith, fc.few)) (omega (arith, fd.few)) text).1

-- the heads' counts are numbers of 64 bits
abbrev pub CountsFit : List PageHead → Type 0
CountsFit [] = Unit {0}
CountsFit (head ∷ heads) = (head.count < 2 ^ 64) × CountsFit heads

heads_fit : (base : List ℕ) (k : ℕ) (heads : List PageHead) → CountsFit heads → ItemsFit (items_of (heads_data base k heads))
heads_fit base k [] counts = tt
heads_fit base k (head ∷ heads) counts = ((refl, tt, (refl, tt, (refl, tt, (tt, counts.0, tt)))), heads_fit base (suc k) heads counts.1)

pub index_fits : (base : List ℕ) (heads : List PageHead) → CountsFit heads → length heads < 2 ^ 64 → Fits (index_data base heads)
index_fits base heads counts few = (refl, tt, (refl, tt, (refl, tt, (refl, omega arith, (tt, heads_fit base 0 heads counts, tt)))))

flat_heads : (base : List ℕ) (k : ℕ) (heads : List PageHead) → items_depth (items_of (heads_data base k heads)) ≤ 1
flat_heads base k [] = omega arith
flat_heads base k (head ∷ heads) = let rest = flat_heads base (suc k) heads in omega arith

pub flat_index : (base : List ℕ) (heads : List PageHead) → depth (index_data base heads) ≤ 127
flat_index base heads = let items = flat_heads base 0 heads in omega arith

its_heads : (cs : Catalog) → length (all_rows cs) ≤ page_room → CountsFit (heads_of cs) × (length (heads_of cs) ≤ 1)
its_heads [] few = (tt, omega arith)
its_heads (c ∷ cs) few =
    subst (λ (pages : List Catalog). CountsFit (map (λ page. head_of (all_rows page)) pages) × (length (map (λ page. head_of (all_rows page)) pages) ≤ 1)) (sym (its_page c cs few))
    ((omega (arith, few), tt), omega arith)

-- equal indexes have equal base addresses
pub index_text-tells : (base other : List ℕ) (xs ys : List PageHead) → CountsFit xs → CountsFit ys → length xs < 2 ^ 64 → length ys < 2 ^ 64
    → index_text base xs ≡ index_text other ys → base ≡ other
unfolding index_text nth_text
index_text-tells base other xs ys cx cy few fewer e =
    let data_same : index_data base xs ≡ index_data other ys =
    compact_text-injective (index_data base xs) (index_data other ys) (index_fits base xs cx few) (flat_index base xs) (index_fits other ys cy fewer) (flat_index other ys) e in
    append_cancel_right base other (codes "v3/catalog/" ++ index_name) (ap (nth_text 0) data_same)

pub same_index : (base other : List ℕ) (cs ds : Catalog) → FitsOnePage cs → FitsOnePage ds → doc_at base cs index_name ≡ doc_at other ds index_name → base ≡ other
same_index base other cs ds fc fd e =
    let hc = its_heads cs fc.few in
    let hd = its_heads ds fd.few in
    index_text-tells base other (heads_of cs) (heads_of ds) hc.0 hd.0 (omega (arith, hc.1)) (omega (arith, hd.1)) (from_some (index_text base (heads_of cs)) (index_text other (heads_of ds)) e)
