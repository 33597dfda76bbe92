-- Pages that fit an index, in front and at the end.
use Rattle.std.proofs.Common.{◌≡◌, ◌<◌, ◌≤◌, ◌+◌, ◌⊎◌, ℕ, zero, suc, List, [], ◌∷◌, ◌++◌, length, map, get_or, take, drop, append-nil, Some, None, Option, inl, inr, ⊎_elim, refl, sym, ◌∙◌, ap, subst, arith, slice_get, length-append, IsSome}
use Rattle.std.proofs.lemmas.List.{map-append, take_all, take_more}
use Rattle.std.proofs.Math.Seq.{drop-append_seam}
use Rattle.std.proofs.lemmas.Option.{get_or_from_slice_get, slice_get-get_or}
use Rattle.std.proofs.lemmas.Grind.{flat_map-append}
use Rattle.std.specs.FinMap.{get}
use Rattle.blob_store.specs.Area.{Area}
use Rattle.catalog_doc.specs.Documents.{head_of}
use Rattle.catalog_doc.specs.Names.{page_name}
use Rattle.catalog_doc.specs.declared.head.PageHead.{PageHead}
use Rattle.catalog_doc.specs.declared.row.Row.{Row}
use Rattle.catalog_opening.specs.Pages.{FitIndex, FitsLast, FitsPage, HoldsPage, HoldsPages, IsDamagedIn, IsHeldAs, IsOneCommit, rows_on}
use Rattle.catalog_opening.specs.Reads.{IsEndDamaged, IsFrontDamaged, IsHeldEnd, rows_before_last}

-- the pages before the last, and those at the end
pub record Parted (front : List PageHead) (last : PageHead) (pages : List (List Row)) : Type 0 where
  pub before : List (List Row)
  pub ends : List (List Row)
  pub joined : pages ≡ before ++ ends
  pub heads : map head_of before ≡ front
  pub fits : FitIndex (last ∷ []) ends

pub parted : (front : List PageHead) (last : PageHead) (pages : List (List Row)) → FitIndex (front ++ last ∷ []) pages → Parted front last pages
parted [] last pages fits = record { before = []; ends = pages; joined = refl; heads = refl; fits = fits }
parted (head ∷ []) last [] fits = absurd fits
parted (head ∷ []) last (rows ∷ pages) fits = record {
  before = rows ∷ [];
  ends = pages;
  joined = refl;
  heads = ap (λ (h : PageHead). h ∷ []) fits.0;
  fits = fits.1;
}
parted (head ∷ next ∷ front) last [] fits = absurd fits
parted (head ∷ next ∷ front) last (rows ∷ pages) fits =
    let rest = parted (next ∷ front) last pages fits.1 in
    record {
      before = rows ∷ rest.before;
      ends = rest.ends;
      joined = ap (λ (l : List (List Row)). rows ∷ l) rest.joined;
      heads = λ i. fits.0 i ∷ rest.heads i;
      fits = rest.fits;
    }

pub held_parts : (m : Area) (base : List ℕ) (k : ℕ) (xs ys : List (List Row)) → HoldsPages m base k (xs ++ ys) → HoldsPages m base k xs × HoldsPages m base (k + length xs) ys
held_parts m base k [] ys holds = (tt, subst (λ (n : ℕ). HoldsPages m base n ys) (let same : k ≡ k + 0 = omega arith in same) holds)
held_parts m base k (x ∷ xs) ys holds =
    let rest = held_parts m base (suc k) xs ys holds.1 in
    ((holds.0, rest.0), subst (λ (n : ℕ). HoldsPages m base n ys) (let same : suc k + length xs ≡ k + suc (length xs) = omega arith in same) rest.1)

pub held_at : (m : Area) (base : List ℕ) (k : ℕ) (pages : List (List Row)) (i : ℕ) (rows : List Row) → HoldsPages m base k pages → slice_get pages i ≡ Some rows → HoldsPage m base (k + i) rows
held_at m base k [] i rows holds is = cc
held_at m base k (page ∷ pages) zero rows holds is =
    let same : page ≡ rows = cc in
    let at : k ≡ k + 0 = omega arith in
    subst (λ (n : ℕ). HoldsPage m base n rows) at (subst (HoldsPage m base k) same holds.0)
held_at m base k (page ∷ pages) (suc i) rows holds is =
    let at : suc k + i ≡ k + suc i = omega arith in
    subst (λ (n : ℕ). HoldsPage m base n rows) at (held_at m base (suc k) pages i rows holds.1 is)

pub held_first : (m : Area) (base : List ℕ) (pages : List (List Row)) (i : ℕ) (rows : List Row) → HoldsPages m base 0 pages → slice_get pages i ≡ Some rows → HoldsPage m base i rows
held_first m base pages i rows holds is = subst (λ (n : ℕ). HoldsPage m base n rows) (let same : 0 + i ≡ i = omega arith in same) (held_at m base 0 pages i rows holds is)

-- a page within the pages that fit an index fits what it says of that page
pub fits_at : (heads : List PageHead) (pages : List (List Row)) (k : ℕ) → FitIndex heads pages → k < length heads → (rows : List Row) × (slice_get pages k ≡ Some rows) × FitsPage heads k rows
fits_at [] pages k fits within = absurd (omega arith)
fits_at (head ∷ []) [] k fits within = absurd fits
fits_at (head ∷ []) (rows ∷ pages) zero fits within = (rows, refl, ⊎_elim (λ own. inl own.0) (λ more. inr more.0) fits)
fits_at (head ∷ []) (rows ∷ pages) (suc k) fits within = absurd (omega arith)
fits_at (head ∷ next ∷ heads) [] k fits within = absurd fits
fits_at (head ∷ next ∷ heads) (rows ∷ pages) zero fits within = (rows, refl, fits.0)
fits_at (head ∷ next ∷ heads) (rows ∷ pages) (suc k) fits within = fits_at (next ∷ heads) pages k fits.1 (omega (arith, within))

-- before the last page
pub fits_front : (front : List PageHead) (last : PageHead) (k : ℕ) (rows : List Row) → k < length front → FitsPage (front ++ last ∷ []) k rows → slice_get front k ≡ Some (head_of rows)
fits_front [] last k rows within fits = absurd (omega arith)
fits_front (head ∷ []) last zero rows within fits = ap Some (sym fits)
fits_front (head ∷ []) last (suc k) rows within fits = absurd (omega arith)
fits_front (head ∷ next ∷ front) last zero rows within fits = ap Some (sym fits)
fits_front (head ∷ next ∷ front) last (suc k) rows within fits = fits_front (next ∷ front) last k rows (omega (arith, within)) fits

-- and the last
pub fits_last : (front : List PageHead) (last : PageHead) (k : ℕ) (rows : List Row) → k ≡ length front → FitsPage (front ++ last ∷ []) k rows → FitsLast last rows
fits_last [] last zero rows at fits = fits
fits_last [] last (suc k) rows at fits = absurd (omega arith)
fits_last (head ∷ front) last zero rows at fits = absurd (omega arith)
fits_last (head ∷ []) last (suc k) rows at fits = fits_last [] last k rows (omega (arith, at)) fits
fits_last (head ∷ next ∷ front) last (suc k) rows at fits = fits_last (next ∷ front) last k rows (omega (arith, at)) fits

-- as many pages as the index says, or one more of one commit
pub fits_cases : (heads : List PageHead) (pages : List (List Row)) → FitIndex heads pages
    → (length pages ≡ length heads) ⊎ ((olds : List (List Row)) × (next : List Row) × (pages ≡ olds ++ next ∷ []) × (map head_of olds ≡ heads) × IsOneCommit next)
fits_cases [] [] fits = inl refl
fits_cases [] (next ∷ []) fits = inr ([], next, refl, refl, fits)
fits_cases [] (rows ∷ next ∷ pages) fits = absurd fits
fits_cases (head ∷ []) [] fits = absurd fits
fits_cases (head ∷ []) (rows ∷ []) fits = inl refl
fits_cases (head ∷ []) (rows ∷ next ∷ []) (inl own) = inr (rows ∷ [], next, refl, ap (λ (h : PageHead). h ∷ []) own.0, own.1)
fits_cases (head ∷ []) (rows ∷ next ∷ []) (inr more) = absurd (let no : ⊥ = cc in no)
fits_cases (head ∷ []) (rows ∷ next ∷ third ∷ pages) (inl own) = absurd own.1
fits_cases (head ∷ []) (rows ∷ next ∷ third ∷ pages) (inr more) = absurd (let no : ⊥ = cc in no)
fits_cases (head ∷ second ∷ heads) [] fits = absurd fits
fits_cases (head ∷ second ∷ heads) (rows ∷ pages) fits = ⊎_elim
    (λ same. inl (ap suc same))
    (λ more. inr (rows ∷ more.0, more.1, ap (λ (l : List (List Row)). rows ∷ l) more.2, (λ i. fits.0 i ∷ more.3 i), more.4))
    (fits_cases (second ∷ heads) pages fits.1)

nothing_there : {A : Type 0} (o : Option A) → o ≡ None → IsSome o → ⊥
nothing_there None is some = absurd (let no : ⊥ = cc in no)
nothing_there (Some x) is some = absurd (let no : ⊥ = cc in no)

length_heads : (pages : List (List Row)) → length (map head_of pages) ≡ length pages
length_heads [] = refl
length_heads (page ∷ pages) = ap suc (length_heads pages)

-- pages that fit their index aren't damaged
pub not_damaged : (m : Area) (base : List ℕ) (heads : List PageHead) (pages : List (List Row)) (name : List ℕ) → IsHeldAs m base heads pages → IsDamagedIn m base heads name → ⊥
not_damaged m base heads pages name as_held (inl (k, is, misfit)) =
    let at = fits_at heads pages k as_held.fits misfit.0 in
    misfit.1 at.0 (held_first m base pages k at.0 as_held.held at.1) at.2
not_damaged m base heads pages name as_held (inr (is, next)) = ⊎_elim
    (λ same. nothing_there (get m (page_name (length heads))) (subst (λ (n : ℕ). get m (page_name n) ≡ None) same as_held.behind) next.0)
    (λ more.
    let parts = held_parts m base 0 more.0 (more.1 ∷ []) (subst (HoldsPages m base 0) more.2 as_held.held) in
    let start : 0 + length more.0 ≡ length more.0 = omega arith in
    let place : 0 + length more.0 ≡ length heads = start ∙ sym (length_heads more.0) ∙ ap length more.3 in
    next.1 more.0 more.1 parts.0 (subst (λ (n : ℕ). HoldsPage m base n more.1) place parts.1.0) more.3 more.4)
    (fits_cases heads pages as_held.fits)

pub rows_on-append : (xs ys : List (List Row)) → rows_on (xs ++ ys) ≡ rows_on xs ++ rows_on ys
rows_on-append xs ys = flat_map-append (λ (rows : List Row). rows) xs ys

last_mapped : (pages : List (List Row)) (front : List PageHead) (last : PageHead) → map head_of pages ≡ front ++ last ∷ [] → (rows : List Row) × (slice_get pages (length front) ≡ Some rows) × (head_of rows ≡ last)
last_mapped [] [] last is = cc
last_mapped [] (head ∷ front) last is = cc
last_mapped (rows ∷ pages) [] last is = (rows, refl, let same : head_of rows ≡ last = cc in same)
last_mapped (rows ∷ pages) (head ∷ front) last is = last_mapped pages front last (let rest : map head_of pages ≡ front ++ last ∷ [] = cc in rest)

-- what is damaged before the last page, and at the end
pub damaged_front : (m : Area) (base : List ℕ) (front : List PageHead) (last : PageHead) (name : List ℕ) → (k : ℕ) × (name ≡ page_name k) × IsFrontDamaged m base front k → IsDamagedIn m base (front ++ last ∷ []) name
damaged_front m base front last name (k, is, none) =
    let longer = length-append front (last ∷ []) in
    inl (k, is, (omega (arith, none.0, longer), λ rows held fits. none.1 rows held (fits_front front last k rows none.0 fits)))

pub damaged_end : (m : Area) (base : List ℕ) (front : List PageHead) (last : PageHead) (name : List ℕ) → IsEndDamaged m base (length front) last name → IsDamagedIn m base (front ++ last ∷ []) name
damaged_end m base front last name (inl (is, none)) =
    let longer = length-append front (last ∷ []) in
    inl (length front, is, (omega (arith, longer), λ rows held fits. none rows held (fits_last front last (length front) rows refl fits)))
damaged_end m base front last name (inr (is, some, none)) =
    let longer : length front + 1 ≡ length (front ++ last ∷ []) = sym (length-append front (last ∷ [])) in
    inr (
      is ∙ ap page_name longer,
      (
        subst (λ (n : ℕ). IsSome (get m (page_name n))) longer some,
        λ pages next holds held heads one.
            let at = last_mapped pages front last heads in
            none at.0 next (held_first m base pages (length front) at.0 holds at.1) (subst (λ (n : ℕ). HoldsPage m base n next) (sym longer) held) at.2 one,
      ),
    )

-- the rows of one page more
pub next_rows : (m : Area) (base : List ℕ) (pages : List (List Row)) (i : ℕ) (so_far own : List Row) → i < length pages → HoldsPages m base 0 pages → so_far ≡ rows_on (take i pages)
    → ((rows : List Row) → HoldsPage m base i rows → own ≡ rows) → so_far ++ own ≡ rows_on (take (i + 1) pages)
next_rows m base pages i so_far own within holds before is =
    let at : HoldsPage m base i (get_or pages i []) =
    held_first m base pages i (get_or pages i []) holds (slice_get-get_or pages i [] within) in
    (λ j. before j ++ is (get_or pages i []) at j)
    ∙ ap (λ (rows : List Row). rows_on (take i pages) ++ rows) (sym (append-nil (get_or pages i [])))
    ∙ sym (ap rows_on (take_more pages i [] within) ∙ rows_on-append (take i pages) (get_or pages i [] ∷ []))

pub all_rows_read : (pages : List (List Row)) (i : ℕ) (so_far : List Row) → length pages ≤ i → so_far ≡ rows_on (take i pages) → so_far ≡ rows_on pages
all_rows_read pages i so_far done before = before ∙ ap rows_on (take_all i pages done)

-- a page before the last that isn't as the index says
pub front_damaged : (m : Area) (base : List ℕ) (heads : List PageHead) (i : ℕ) (head : PageHead) → i < length heads → head ≡ get_or heads i head
    → ((rows : List Row) → HoldsPage m base i rows → head_of rows ≡ head → ⊥) → IsFrontDamaged m base heads i
front_damaged m base heads i head within is none = (
  within,
  λ rows held at.
      none rows held (sym (is ∙ get_or_from_slice_get heads i (head_of rows) head at)),
)

-- the parts of pages that are held
pub record HeldParts (m : Area) (base : List ℕ) (front : List PageHead) (last : PageHead) (pages : List (List Row)) : Type 0 where
  pub part : Parted front last pages
  pub before : HoldsPages m base 0 part.before
  pub as_many : length part.before ≡ length front
  pub ending : IsHeldEnd m base (length front) last part.ends

pub held_ends : (m : Area) (base : List ℕ) (front : List PageHead) (last : PageHead) (pages : List (List Row)) → IsHeldAs m base (front ++ last ∷ []) pages → HeldParts m base front last pages
held_ends m base front last pages as_held =
    let part = parted front last pages as_held.fits in
    let as_many : length part.before ≡ length front = sym (length_heads part.before) ∙ ap length part.heads in
    let holds = held_parts m base 0 part.before part.ends (subst (HoldsPages m base 0) part.joined as_held.held) in
    let start : 0 + length part.before ≡ length part.before = omega arith in
    let whole : length pages ≡ length front + length part.ends = ap length part.joined ∙ length-append part.before part.ends ∙ ap (λ (n : ℕ). n + length part.ends) as_many in
    record {
      part = part;
      before = holds.0;
      as_many = as_many;
      ending = record {
        held = subst (λ (n : ℕ). HoldsPages m base n part.ends) (start ∙ as_many) holds.1;
        behind = subst (λ (n : ℕ). get m (page_name n) ≡ None) whole as_held.behind;
        fits = part.fits;
      };
    }

-- what was read of the parts is what is held
pub joined_read : (front : List PageHead) (last : PageHead) (pages : List (List Row)) (part : Parted front last pages) (rows : List Row) (heads : List PageHead)
    → rows ≡ rows_on part.before ++ rows_on part.ends → heads ≡ front ++ map head_of part.ends → (rows ≡ rows_on pages) × (heads ≡ map head_of pages)
joined_read front last pages part rows heads is heads_are = (
  is ∙ sym (ap rows_on part.joined ∙ rows_on-append part.before part.ends),
  heads_are ∙ ap (λ (l : List PageHead). l ++ map head_of part.ends) (sym part.heads) ∙ sym (ap (map head_of) part.joined ∙ map-append head_of part.before part.ends),
)

before_last : (before : List (List Row)) (front : List PageHead) (last : PageHead) → map head_of before ≡ front → rows_before_last (front ++ last ∷ []) ≡ length (rows_on before)
before_last [] [] last is = refl
before_last [] (head ∷ front) last is = cc
before_last (rows ∷ before) [] last is = cc
before_last (rows ∷ before) (head ∷ []) last is =
    let own : head_of rows ≡ head = cc in
    let rest : map head_of before ≡ [] = cc in
    let count : length rows ≡ head.count = ap (λ (h : PageHead). h.count) own in
    let longer = length-append rows (rows_on before) in
    let later = before_last before [] last rest in
    omega (arith, count, longer, later)
before_last (rows ∷ before) (head ∷ next ∷ front) last is =
    let own : head_of rows ≡ head = cc in
    let rest : map head_of before ≡ next ∷ front = cc in
    let count : length rows ≡ head.count = ap (λ (h : PageHead). h.count) own in
    let longer = length-append rows (rows_on before) in
    let later = before_last before (next ∷ front) last rest in
    omega (arith, count, longer, later)

-- the rows at the end are those behind the pages before the last
pub ending_read : (front : List PageHead) (last : PageHead) (pages : List (List Row)) (part : Parted front last pages) (rows : List Row) → rows ≡ rows_on part.ends → rows ≡ drop (rows_before_last (front ++ last ∷ [])) (rows_on pages)
ending_read front last pages part rows is =
    is ∙ sym (ap (λ (l : List Row). drop (rows_before_last (front ++ last ∷ [])) l) (ap rows_on part.joined ∙ rows_on-append part.before part.ends)
    ∙ ap (λ (n : ℕ). drop n (rows_on part.before ++ rows_on part.ends)) (before_last part.before front last part.heads)
    ∙ drop-append_seam (rows_on part.before) (rows_on part.ends))
