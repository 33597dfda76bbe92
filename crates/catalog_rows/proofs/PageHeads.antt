-- The heads of a catalog's pages, with a commit more, and the rows of its last page.
use Rattle.std.proofs.Common.{◌≡◌, ◌<◌, ◌+◌, ◌-◌, ℕ, suc, List, [], ◌∷◌, ◌++◌, length, drop, map, Bool, true, false, refl, sym, ◌∙◌, ap, ap₂, subst, arith, append-nil, append_assoc, length-append}
use Rattle.std.specs.Prelude.{if◌then◌else◌, nat_le, Some, None, slice_get, slice_set}
use Rattle.std.specs.Option.{option_and_then}
use Rattle.std.proofs.lemmas.Grind.{flat_map-append}
use Rattle.pkg_meta.specs.Catalog.{Catalog}
use Rattle.pkg_meta.specs.declared.commit.Stored.{Stored}
use Rattle.catalog_doc.specs.CatDocs.{add_commit, all_rows, fill, heads_of, last_page, page_room, pages_of, rows_of}
use Rattle.catalog_doc.specs.Documents.{head_of, last_head, last_number, last_stamp}
use Rattle.catalog_doc.specs.declared.head.PageHead.{PageHead}
use Rattle.catalog_doc.specs.declared.row.Row.{Row}
use Rattle.catalog_doc.proofs.LookUps.{fill-append}
use Rattle.catalog_doc.proofs.NewDocs.{few_pages}
use Rattle.catalog_doc.proofs.OnePage.{length-rows_from}
use Rattle.catalog_rows.specs.Kept.{add_head, HoldsSame, IsKeptOf, joined, joined_if, Kept, longer, TakesIn}

pub last_number-behind : (rows : List Row) (row : Row) (more : List Row) → last_number (rows ++ row ∷ more) ≡ last_number (row ∷ more)
last_number-behind [] row more = refl
last_number-behind (x ∷ []) row more = refl
last_number-behind (x ∷ y ∷ rows) row more = last_number-behind (y ∷ rows) row more

pub last_stamp-behind : (rows : List Row) (row : Row) (more : List Row) → last_stamp (rows ++ row ∷ more) ≡ last_stamp (row ∷ more)
last_stamp-behind [] row more = refl
last_stamp-behind (x ∷ []) row more = refl
last_stamp-behind (x ∷ y ∷ rows) row more = last_stamp-behind (y ∷ rows) row more

-- the head of a page with a commit more
head_behind : (rows more : List Row) → 0 < length more → head_of (rows ++ more) ≡ joined (head_of rows) (head_of more)
head_behind rows [] some = absurd (omega arith)
head_behind rows (row ∷ more) some = λ i. record {
  number = last_number-behind rows row more i;
  stamp = last_stamp-behind rows row more i;
  count = length-append rows (row ∷ more) i;
}

abbrev head_on : Catalog → PageHead
head_on page = head_of (all_rows page)

pub rows_pushed : (cs : Catalog) (c : Stored) → all_rows (cs ++ c ∷ []) ≡ all_rows cs ++ rows_of c
rows_pushed cs c = flat_map-append rows_of cs (c ∷ []) ∙ ap (λ (rows : List Row). all_rows cs ++ rows) (append-nil (rows_of c))

alone : (c : Stored) → head_on (c ∷ []) ≡ head_of (rows_of c)
alone c = ap head_of (append-nil (rows_of c))

into_last : (page : Catalog) (c : Stored) (fits : Bool) → 0 < length (rows_of c)
    → map head_on (if fits then (page ++ c ∷ []) ∷ [] else page ∷ (c ∷ []) ∷ [])
    ≡ (if fits then joined (head_on page) (head_of (rows_of c)) ∷ [] else head_on page ∷ head_of (rows_of c) ∷ [])
into_last page c true some = ap (λ (head : PageHead). head ∷ []) (ap head_of (rows_pushed page c) ∙ head_behind (all_rows page) (rows_of c) some)
into_last page c false some = ap (λ (head : PageHead). head_on page ∷ head ∷ []) (alone c)

heads-add : (pages : List Catalog) (c : Stored) → 0 < length (rows_of c) → map head_on (add_commit pages c) ≡ add_head (map head_on pages) (head_of (rows_of c))
heads-add [] c some = ap (λ (head : PageHead). head ∷ []) (alone c)
heads-add (page ∷ []) c some =
    into_last page c (nat_le (length (all_rows page) + length c.commit.items) page_room) some
    ∙ ap (λ (n : ℕ). if nat_le (length (all_rows page) + n) page_room then joined (head_on page) (head_of (rows_of c)) ∷ [] else head_on page ∷ head_of (rows_of c) ∷ [])
    (sym (length-rows_from c.commit.number c.commit.stamp 0 c.commit.items))
heads-add (page ∷ next ∷ pages) c some = ap (λ (heads : List PageHead). head_on page ∷ heads) (heads-add (next ∷ pages) c some)

heads_pushed : (cs : Catalog) (c : Stored) → 0 < length (rows_of c) → heads_of (cs ++ c ∷ []) ≡ add_head (heads_of cs) (head_of (rows_of c))
heads_pushed cs c some = ap (map head_on) (fill-append [] cs c) ∙ heads-add (pages_of cs) c some

-- a commit's rows are taken in
pub taken_in : (old new : Kept) (rows : List Row) → 0 < length rows → new.rows ≡ old.rows ++ rows → new.pages ≡ add_head old.pages (head_of rows) → TakesIn old rows new
taken_in old new rows some behind heads cs c kept are = record {
  rows = rows_pushed cs c ∙ ap₂ (λ (l m : List Row). l ++ m) kept.rows are ∙ sym behind;
  pages = heads_pushed cs c (subst (λ (l : List Row). 0 < length l) (sym are) some)
      ∙ ap₂ (λ (pages : List PageHead) (l : List Row). add_head pages (head_of l)) kept.pages are ∙ sym heads;
}

-- what is reserved doesn't matter
pub kept_same : (old new : Kept) (cs : Catalog) → HoldsSame old new → IsKeptOf old cs → IsKeptOf new cs
kept_same old new cs same kept = record { rows = kept.rows ∙ sym same.rows; pages = kept.pages ∙ sym same.pages }

pub takes_same : (old held new : Kept) (rows : List Row) → HoldsSame old held → TakesIn held rows new → TakesIn old rows new
takes_same old held new rows same takes cs c kept are = takes cs c (kept_same old held cs same kept) are

suc_less : (n : ℕ) → suc (suc n) - 1 ≡ suc (suc n - 1)
suc_less n = omega arith

-- the head of the last page gets longer
pub add_head-longer : (pages : List PageHead) (head page : PageHead) → longer pages head ≡ Some page → slice_set pages (length pages - 1) page ≡ add_head pages head
add_head-longer [] head page e = cc
add_head-longer (x ∷ []) head page e = fits (nat_le (x.count + head.count) page_room) e
  where
    fits : (b : Bool) → (if b then Some (joined x head) else None) ≡ Some page → page ∷ [] ≡ (if b then joined x head ∷ [] else x ∷ head ∷ [])
    fits true e = let same : joined x head ≡ page = cc in ap (λ (h : PageHead). h ∷ []) (sym same)
    fits false e = cc
add_head-longer (x ∷ y ∷ pages) head page e =
    let at = suc_less (length pages) in
    ap (λ (n : ℕ). slice_set (x ∷ y ∷ pages) n page) at
    ∙ ap (λ (heads : List PageHead). x ∷ heads)
    (add_head-longer (y ∷ pages) head page (sym (ap (λ (n : ℕ). option_and_then (λ (h : PageHead). joined_if h head) (slice_get (x ∷ y ∷ pages) n)) at) ∙ e))

-- a page is new
pub add_head-new : (pages : List PageHead) (head : PageHead) → longer pages head ≡ None → pages ++ head ∷ [] ≡ add_head pages head
add_head-new [] head e = refl
add_head-new (x ∷ []) head e = fits (nat_le (x.count + head.count) page_room) e
  where
    fits : (b : Bool) → (if b then Some (joined x head) else None) ≡ None → x ∷ head ∷ [] ≡ (if b then joined x head ∷ [] else x ∷ head ∷ [])
    fits true e = cc
    fits false e = refl
add_head-new (x ∷ y ∷ pages) head e =
    let at = suc_less (length pages) in
    ap (λ (heads : List PageHead). x ∷ heads)
    (add_head-new (y ∷ pages) head (sym (ap (λ (n : ℕ). option_and_then (λ (h : PageHead). joined_if h head) (slice_get (x ∷ y ∷ pages) n)) at) ∙ e))

-- rows that end with those of the last page
abbrev EndWith : List Row → List Catalog → Type 0
EndWith rows pages = (front : List Row) × (rows ≡ front ++ all_rows (last_page pages))

last_page-more : (page : Catalog) (pages : List Catalog) → 0 < length pages → last_page (page ∷ pages) ≡ last_page pages
last_page-more page [] some = absurd (omega arith)
last_page-more page (next ∷ pages) some = refl

ends_into : (page : Catalog) (c : Stored) (fits : Bool) (rows front : List Row) → rows ≡ front ++ all_rows page
    → EndWith (rows ++ rows_of c) (if fits then (page ++ c ∷ []) ∷ [] else page ∷ (c ∷ []) ∷ [])
ends_into page c true rows front is =
    (front, ap (λ (l : List Row). l ++ rows_of c) is ∙ append_assoc front (all_rows page) (rows_of c) ∙ ap (λ (l : List Row). front ++ l) (sym (rows_pushed page c)))
ends_into page c false rows front is = (rows, ap (λ (l : List Row). rows ++ l) (sym (append-nil (rows_of c))))

ends_more : (pages : List Catalog) (c : Stored) (rows : List Row) → EndWith rows pages → EndWith (rows ++ rows_of c) (add_commit pages c)
ends_more [] c rows ends = (rows, ap (λ (l : List Row). rows ++ l) (sym (append-nil (rows_of c))))
ends_more (page ∷ []) c rows ends = ends_into page c (nat_le (length (all_rows page) + length c.commit.items) page_room) rows ends.0 ends.1
ends_more (page ∷ next ∷ pages) c rows ends =
    let rest = ends_more (next ∷ pages) c rows ends in
    let some = (few_pages (next ∷ pages) (c ∷ [])).1 in
    (rest.0, rest.1 ∙ ap (λ (last : Catalog). rest.0 ++ all_rows last) (sym (last_page-more page (add_commit (next ∷ pages) c) (omega (arith, some)))))

ends_filled : (pages : List Catalog) (cs : Catalog) (rows : List Row) → EndWith rows pages → EndWith (rows ++ all_rows cs) (fill pages cs)
ends_filled pages [] rows ends = (ends.0, append-nil rows ∙ ends.1)
ends_filled pages (c ∷ cs) rows ends =
    let rest = ends_filled (add_commit pages c) cs (rows ++ rows_of c) (ends_more pages c rows ends) in
    (rest.0, sym (append_assoc rows (rows_of c) (all_rows cs)) ∙ rest.1)

count_of_last : (pages : List Catalog) → (last_head (map head_on pages)).count ≡ length (all_rows (last_page pages))
count_of_last [] = refl
count_of_last (page ∷ []) = refl
count_of_last (page ∷ next ∷ pages) = count_of_last (next ∷ pages)

behind : (front rows : List Row) → drop (length front) (front ++ rows) ≡ rows
behind [] rows = refl
behind (x ∷ front) rows = behind front rows

-- the rows behind all but so many as the last head counts are those of the last page
pub last_rows : (cs : Catalog) → drop (length (all_rows cs) - (last_head (heads_of cs)).count) (all_rows cs) ≡ all_rows (last_page (pages_of cs))
last_rows cs =
    let ends = ends_filled [] cs [] ([], refl) in
    let count = count_of_last (pages_of cs) in
    let long = length-append ends.0 (all_rows (last_page (pages_of cs))) in
    let at : length (all_rows cs) - (last_head (heads_of cs)).count ≡ length ends.0 = omega (arith, ap length ends.1, count, long) in
    (λ i. drop (at i) (ends.1 i)) ∙ behind ends.0 (all_rows (last_page (pages_of cs)))
