-- The page and the index of a catalog with a commit more, by what is known of the catalog.
use Rattle.std.proofs.Common.{◌≡◌, ◌<◌, ◌+◌, ◌-◌, ◌∙◌, ℕ, suc, List, [], ◌∷◌, ◌++◌, length, map, take, Bool, true, false, refl, sym, ap, ap₂, arith, append-nil, length-append}
use Rattle.std.specs.Prelude.{nat_le, if◌then◌else◌}
use Rattle.std.proofs.lemmas.Grind.{flat_map-append}
use Rattle.std.proofs.lemmas.List.{length-map}
use Rattle.blob_store.specs.declared.call.Call.TheVariants.{Put}
use Rattle.pkg_meta.specs.Catalog.{Catalog}
use Rattle.pkg_meta.specs.declared.commit.Stored.{Stored}
use Rattle.catalog_doc.specs.CatDocs.{add_commit, all_rows, heads_of, last_page, page_room, pages_of, rows_of}
use Rattle.catalog_doc.specs.Commits.{index_put, page_put}
use Rattle.catalog_doc.specs.Documents.{head_of, index_text, page_text}
use Rattle.catalog_doc.specs.Names.{index_name, page_name}
use Rattle.catalog_doc.specs.declared.head.PageHead.{PageHead}
use Rattle.catalog_doc.specs.declared.row.Row.{Row}
use Rattle.catalog_doc.proofs.LookUps.{add_commit-filled, fill-append}
use Rattle.catalog_doc.proofs.OnePage.{length-rows_from}
use Rattle.commit_plan.specs.Plans.{fits_last_page, kept_heads, kept_rows, last_puts}

-- the heads of pages
abbrev heads : List Catalog → List PageHead
heads pages = map (λ page. head_of (all_rows page)) pages

-- whether a commit goes into the last of these pages
abbrev fits : List Catalog → Stored → Bool
fits pages c = fits_last_page (all_rows (last_page pages)) (heads pages) (length c.commit.items)

alone_rows : (c : Stored) → all_rows (c ∷ []) ≡ rows_of c
alone_rows c = append-nil (rows_of c)

rows_more : (page : Catalog) (c : Stored) → all_rows (page ++ c ∷ []) ≡ all_rows page ++ rows_of c
rows_more page c = flat_map-append rows_of page (c ∷ []) ∙ ap (λ (rows : List Row). all_rows page ++ rows) (alone_rows c)

-- what a commit makes of the last page
abbrev with_commit : Bool → Catalog → Stored → List Catalog
with_commit b page c = if b then (page ++ c ∷ []) ∷ [] else page ∷ (c ∷ []) ∷ []

one_rows : (b : Bool) (page : Catalog) (c : Stored) → all_rows (last_page (with_commit b page c)) ≡ kept_rows b (all_rows page) ++ rows_of c
one_rows true page c = rows_more page c
one_rows false page c = alone_rows c

one_heads : (b : Bool) (page : Catalog) (c : Stored)
    → heads (with_commit b page c) ≡ kept_heads b (heads (page ∷ [])) ++ head_of (kept_rows b (all_rows page) ++ rows_of c) ∷ []
one_heads true page c = ap (λ (rows : List Row). head_of rows ∷ []) (rows_more page c)
one_heads false page c = ap (λ (rows : List Row). head_of (all_rows page) ∷ head_of rows ∷ []) (alone_rows c)

last_behind : (page : Catalog) (pages : List Catalog) → 0 < length pages → last_page (page ∷ pages) ≡ last_page pages
last_behind page [] some = absurd (omega (arith, some))
last_behind page (next ∷ pages) some = refl

-- the rows of the last page, with the commit
last_rows : (pages : List Catalog) (c : Stored) → all_rows (last_page (add_commit pages c)) ≡ kept_rows (fits pages c) (all_rows (last_page pages)) ++ rows_of c
last_rows [] c = alone_rows c
last_rows (page ∷ []) c = one_rows (nat_le (length (all_rows page) + length c.commit.items) page_room) page c
last_rows (page ∷ next ∷ pages) c = ap all_rows (last_behind page (add_commit (next ∷ pages) c) (add_commit-filled (next ∷ pages) c)) ∙ last_rows (next ∷ pages) c

-- a head before others stays
kept_more : (b : Bool) (head next : PageHead) (pages : List PageHead) → kept_heads b (head ∷ next ∷ pages) ≡ head ∷ kept_heads b (next ∷ pages)
kept_more true head next pages =
    let n : length (head ∷ next ∷ pages) - 1 ≡ suc (length (next ∷ pages) - 1) = omega arith in
    ap (λ (k : ℕ). take k (head ∷ next ∷ pages)) n
kept_more false head next pages = refl

-- the heads of all pages, with the commit
all_heads : (pages : List Catalog) (c : Stored)
    → heads (add_commit pages c) ≡ kept_heads (fits pages c) (heads pages) ++ head_of (kept_rows (fits pages c) (all_rows (last_page pages)) ++ rows_of c) ∷ []
all_heads [] c = ap (λ (rows : List Row). head_of rows ∷ []) (alone_rows c)
all_heads (page ∷ []) c = one_heads (nat_le (length (all_rows page) + length c.commit.items) page_room) page c
all_heads (page ∷ next ∷ pages) c =
    ap (λ (hs : List PageHead). head_of (all_rows page) ∷ hs) (all_heads (next ∷ pages) c)
    ∙ ap (λ (hs : List PageHead). hs ++ head_of (kept_rows (fits (next ∷ pages) c) (all_rows (last_page (next ∷ pages))) ++ rows_of c) ∷ [])
    (sym (kept_more (fits (next ∷ pages) c) (head_of (all_rows page)) (head_of (all_rows next)) (heads pages)))

-- the number of the last page is that of the heads before it
last_place : (pages : List Catalog) (before : List PageHead) (head : PageHead) → heads pages ≡ before ++ head ∷ [] → length before ≡ length pages - 1
last_place pages before head are =
    let all : length (heads pages) ≡ length pages = length-map pages (λ page. head_of (all_rows page)) in
    let split : length (before ++ head ∷ []) ≡ length before + 1 = length-append before (head ∷ []) in
    let same : length (heads pages) ≡ length (before ++ head ∷ []) = ap length are in
    omega (arith, all, split, same)

-- the puts of the page and the index, by what is known
puts_by_pages : (base : List ℕ) (pages : List Catalog) (c : Stored) (rows : List Row) (before : List PageHead) → all_rows (last_page pages) ≡ rows → heads pages ≡ before ++ head_of rows ∷ []
    → last_puts base before rows ≡ Put (page_name (length pages - 1)) (page_text base (length pages - 1) (all_rows (last_page pages))) ∷ Put index_name (index_text base (heads pages)) ∷ []
puts_by_pages base pages c rows before own are =
    let at : length before ≡ length pages - 1 = last_place pages before (head_of rows) are in
    ap₂ (λ (k : ℕ) (hs : List PageHead). Put (page_name k) (page_text base k rows) ∷ Put index_name (index_text base hs) ∷ []) at (sym are)
    ∙ ap (λ (l : List Row). Put (page_name (length pages - 1)) (page_text base (length pages - 1) l) ∷ Put index_name (index_text base (heads pages)) ∷ []) (sym own)

pub puts_known : (base : List ℕ) (cs : Catalog) (c : Stored) (rows : List Row) (pages : List PageHead) → rows ≡ all_rows (last_page (pages_of cs)) → pages ≡ heads_of cs
    → let b = fits_last_page rows pages (length (rows_of c)) in
    last_puts base (kept_heads b pages) (kept_rows b rows ++ rows_of c) ≡ page_put base (cs ++ c ∷ []) ∷ index_put base (cs ++ c ∷ []) ∷ []
puts_known base cs c rows pages are told =
    let all : pages_of (cs ++ c ∷ []) ≡ add_commit (pages_of cs) c = fill-append [] cs c in
    let count : length (rows_of c) ≡ length c.commit.items = length-rows_from c.commit.number c.commit.stamp 0 c.commit.items in
    let puts = λ (l : List Row) (hs : List PageHead) (n : ℕ). last_puts base (kept_heads (fits_last_page l hs n) hs) (kept_rows (fits_last_page l hs n) l ++ rows_of c) in
    (λ i. puts (are i) (told i) (count i))
    ∙ puts_by_pages base (add_commit (pages_of cs) c) c (kept_rows (fits (pages_of cs) c) (all_rows (last_page (pages_of cs))) ++ rows_of c)
    (kept_heads (fits (pages_of cs) c) (heads (pages_of cs))) (last_rows (pages_of cs) c) (all_heads (pages_of cs) c)
    ∙ ap (λ (ps : List Catalog). Put (page_name (length ps - 1)) (page_text base (length ps - 1) (all_rows (last_page ps))) ∷ Put index_name (index_text base (heads ps)) ∷ []) (sym all)
