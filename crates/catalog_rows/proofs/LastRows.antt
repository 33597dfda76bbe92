-- The last row of a version and the live versions of an id, with a row more.
use Rattle.std.proofs.Common.{◌≡◌, ◌≤◌, ◌+◌, ℕ, List, [], ◌∷◌, ◌++◌, length, Bool, true, false, not, ◌&&◌, Option, Some, None, refl, sym, ◌∙◌, ap, ap₂, subst, arith}
use Rattle.std.specs.Prelude.{if◌then◌else◌}
use Rattle.std.specs.Option.{is_none, option_or}
use Rattle.std.specs.Str.{bytes_eq}
use Rattle.nuget_version.specs.Printed.{key_text}
use Rattle.blob_store.proofs.Areas.{bytes_eq-turned}
use Rattle.catalog_doc.proofs.Spelling.{bytes_eq-true}
use Rattle.catalog_doc.specs.declared.row.Row.{Row}
use Rattle.catalog_rows.specs.Last.{is_live_row, is_no_delete, is_of_keys, last_row, live_rows}

newer : (first second : Bool) (row x : Row) (earlier : Option Row)
    → option_or (if second then Some row else earlier) (if first then Some x else None) ≡ (if second then Some row else option_or earlier (if first then Some x else None))
newer first true row x earlier = refl
newer first false row x earlier = refl

-- the last row of a version, with one row more
pub last_row-push : (id version : List ℕ) (rows : List Row) (row : Row)
    → last_row id version (rows ++ row ∷ []) ≡ (if is_of_keys id version row then Some row else last_row id version rows)
last_row-push id version [] row = refl
last_row-push id version (x ∷ rows) row =
    ap (λ (found : Option Row). option_or found (if is_of_keys id version x then Some x else None)) (last_row-push id version rows row)
    ∙ newer (is_of_keys id version x) (is_of_keys id version row) row x (last_row id version rows)

-- one where it holds
abbrev pub one : Bool → ℕ
one holds = if holds then 1 else 0

-- whether a row is of the version of another
abbrev is_like : Row → Row → Bool
is_like row other = is_of_keys row.id.key (key_text row.version) other

both_true : (a b : Bool) → (a && b) ≡ true → (a ≡ true) × (b ≡ true)
both_true true b e = (refl, e)
both_true false b e = cc

like_keys : (row other : Row) → is_like row other ≡ true → (row.id.key ≡ other.id.key) × (key_text row.version ≡ key_text other.version)
like_keys row other e =
    let both = both_true (bytes_eq row.id.key other.id.key) (bytes_eq (key_text row.version) (key_text other.version)) e in
    (bytes_eq-true row.id.key other.id.key both.0, bytes_eq-true (key_text row.version) (key_text other.version) both.1)

like_turned : (row other : Row) → is_like row other ≡ is_like other row
like_turned row other = ap₂ (λ (a b : Bool). a && b) (bytes_eq-turned row.id.key other.id.key) (bytes_eq-turned (key_text row.version) (key_text other.version))

-- the first row where no other is of its version: it takes part, until a row of its version comes
none_later : (own gone kept : Bool) (later now : ℕ) → later + one (own && false) ≡ now + one (own && kept)
    → (one (own && (not gone && false)) + later) + one (own && not gone) ≡ (one (own && (not gone && true)) + now) + one (own && kept)
none_later true true kept later now e = omega arith
none_later true false kept later now e = omega arith
none_later false gone kept later now e = omega arith

some_later : (own gone stands kept : Bool) (later now : ℕ) → later + one (own && stands) ≡ now + one (own && kept)
    → (one (own && (not gone && false)) + later) + one (own && stands) ≡ (one (own && (not gone && false)) + now) + one (own && kept)
some_later own gone stands kept later now e = omega arith

first_like : (found : Option Row) (own kept : Bool) (x row : Row) (later now : ℕ) → later + one (own && is_no_delete found) ≡ now + one (own && kept)
    → (one (own && (not x.gone && is_none (Some row))) + later) + one (own && is_no_delete (option_or found (Some x)))
    ≡ (one (own && (not x.gone && is_none found)) + now) + one (own && kept)
first_like None own kept x row later now e = none_later own x.gone kept later now e
first_like (Some y) own kept x row later now e = some_later own x.gone (not y.gone) kept later now e

or_nothing : (found : Option Row) → option_or found None ≡ found
or_nothing None = refl
or_nothing (Some x) = refl

-- the same of the live versions of an id, from those of the rows behind the first
abbrev Step : Bool → List ℕ → Row → List Row → Row → Type 0
Step like id x rows row =
    (one (bytes_eq id x.id.key && (not x.gone && is_none (if like then Some row else last_row x.id.key (key_text x.version) rows))) + live_rows id (rows ++ row ∷ []))
    + one (bytes_eq id row.id.key && is_no_delete (option_or (last_row row.id.key (key_text row.version) rows) (if like then Some x else None)))
    ≡ (one (bytes_eq id x.id.key && (not x.gone && is_none (last_row x.id.key (key_text x.version) rows))) + live_rows id rows)
    + one (bytes_eq id row.id.key && not row.gone)

abbrev Law : List ℕ → List Row → Row → Type 0
Law id rows row =
    live_rows id (rows ++ row ∷ []) + one (bytes_eq id row.id.key && is_no_delete (last_row row.id.key (key_text row.version) rows))
    ≡ live_rows id rows + one (bytes_eq id row.id.key && not row.gone)

step : (like : Bool) (id : List ℕ) (x : Row) (rows : List Row) (row : Row) → is_like x row ≡ like → Law id rows row → Step like id x rows row
step true id x rows row is law =
    let keys = like_keys x row is in
    subst (λ (version : List ℕ).
    (one (bytes_eq id x.id.key && (not x.gone && is_none (Some row))) + live_rows id (rows ++ row ∷ []))
    + one (bytes_eq id row.id.key && is_no_delete (option_or (last_row row.id.key (key_text row.version) rows) (Some x)))
    ≡ (one (bytes_eq id x.id.key && (not x.gone && is_none (last_row x.id.key version rows))) + live_rows id rows)
    + one (bytes_eq id row.id.key && not row.gone)) (sym keys.1)
    (subst (λ (key : List ℕ).
    (one (bytes_eq id key && (not x.gone && is_none (Some row))) + live_rows id (rows ++ row ∷ []))
    + one (bytes_eq id row.id.key && is_no_delete (option_or (last_row row.id.key (key_text row.version) rows) (Some x)))
    ≡ (one (bytes_eq id key && (not x.gone && is_none (last_row key (key_text row.version) rows))) + live_rows id rows)
    + one (bytes_eq id row.id.key && not row.gone)) (sym keys.0)
    (first_like (last_row row.id.key (key_text row.version) rows) (bytes_eq id row.id.key) (not row.gone) x row (live_rows id (rows ++ row ∷ [])) (live_rows id rows) law))
step false id x rows row is law =
    rw (or_nothing (last_row row.id.key (key_text row.version) rows)) (omega (arith, law))

first_row : (own gone : Bool) → (one (own && (not gone && true)) + 0) + one (own && false) ≡ 0 + one (own && not gone)
first_row true true = refl
first_row true false = refl
first_row false gone = refl

-- the live versions of an id with a row more: one less where the version was live, one more where the row is no delete
pub live_rows-push : (id : List ℕ) (rows : List Row) (row : Row) → Law id rows row
live_rows-push id [] row = first_row (bytes_eq id row.id.key) row.gone
live_rows-push id (x ∷ rows) row =
    ap₂ (λ (found : Option Row) (like : Bool).
    (one (bytes_eq id x.id.key && (not x.gone && is_none found)) + live_rows id (rows ++ row ∷ []))
    + one (bytes_eq id row.id.key && is_no_delete (option_or (last_row row.id.key (key_text row.version) rows) (if like then Some x else None))))
    (last_row-push x.id.key (key_text x.version) rows row) (like_turned row x)
    ∙ step (is_like x row) id x rows row refl (live_rows-push id rows row)

one_at_most : (holds : Bool) → one holds ≤ 1
one_at_most true = omega arith
one_at_most false = omega arith

-- there are no more of them than rows
pub live_rows-few : (id : List ℕ) (rows : List Row) → live_rows id rows ≤ length rows
live_rows-few id [] = omega arith
live_rows-few id (row ∷ rows) =
    let first = one_at_most (is_live_row id row rows) in
    let rest = live_rows-few id rows in
    omega (arith, first, rest)
