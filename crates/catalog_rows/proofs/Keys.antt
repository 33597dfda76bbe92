-- The keys of rows' versions, one by one.
use Rattle.std.proofs.Common.{◌≡◌, ◌≤◌, ◌<◌, ◌+◌, ℕ, List, [], ◌∷◌, ◌++◌, length, map, take, drop, get_or, Some, slice_get, sym, ◌∙◌, ap, ap₂, arith, length-drop}
use Rattle.std.specs.Prelude.{String, string_bytes}
use Rattle.std.specs.Option.{option_map}
use Rattle.std.proofs.lemmas.List.{get_or-drop, length-map, map-append, take_more}
use Rattle.std.proofs.lemmas.Option.{slice_get-get_or, slice_get-map}
use Rattle.nuget_version.specs.Printed.{key_text}
use Rattle.catalog_doc.specs.declared.row.Row.{Row}
use Rattle.catalog_rows.specs.Latest.{AreKeysOf}

abbrev key_of : Row → List ℕ
key_of row = key_text row.version

-- one key more
pub keys_more : {Y : Type 0} (keys later : List (String Y)) (key : String Y) (rows : List Row) (row : Row) (i : ℕ) → i < length rows → row ≡ get_or rows i row
    → AreKeysOf keys (take i rows) → string_bytes key ≡ key_text row.version → later ≡ keys ++ key ∷ [] → AreKeysOf later (take (i + 1) rows)
keys_more keys later key rows row i within is are own pushed =
    ap (map string_bytes) pushed
    ∙ map-append string_bytes keys (key ∷ [])
    ∙ ap₂ (λ (l : List (List ℕ)) (k : List ℕ). l ++ k ∷ []) are own
    ∙ sym (map-append key_of (take i rows) (row ∷ []))
    ∙ ap (map key_of) (ap (λ (r : Row). take i rows ++ r ∷ []) is ∙ sym (take_more rows i row within))

-- there are as many keys as rows
pub as_many : {Y : Type 0} (keys : List (String Y)) (rows : List Row) → AreKeysOf keys rows → length keys ≡ length rows
as_many keys rows are = sym (length-map keys string_bytes) ∙ ap length are ∙ length-map rows key_of

-- the place of a row that has a key here
pub within_rows : {Y : Type 0} (keys : List (String Y)) (rows : List Row) (first k at : ℕ) → AreKeysOf keys (drop first rows) → first ≤ length rows → k < length keys
    → at ≡ first + k → at < length rows
within_rows keys rows first k at are from within is = omega (arith, as_many keys (drop first rows) are, length-drop first rows, from, within, is)

only : {X : Type 0} (x y : X) → Some x ≡ Some y → x ≡ y
only x y e = cc

-- the key of the row at a place
pub key_at : {Y : Type 0} (keys : List (String Y)) (rows : List Row) (first k : ℕ) (key : String Y) (row : Row) → AreKeysOf keys (drop first rows) → k < length keys
    → key ≡ get_or keys k key → row ≡ get_or rows (first + k) row → string_bytes key ≡ key_text row.version
key_at keys rows first k key row are within key_is row_is =
    let many = as_many keys (drop first rows) are in
    let there : slice_get keys k ≡ Some key = slice_get-get_or keys k key within ∙ ap Some (sym key_is) in
    let row_there : slice_get (drop first rows) k ≡ Some row =
    slice_get-get_or (drop first rows) k row (omega (arith, within, many)) ∙ ap Some (get_or-drop first rows k row ∙ sym row_is) in
    only (string_bytes key) (key_text row.version)
    (sym (slice_get-map string_bytes keys k ∙ ap (option_map string_bytes) there)
    ∙ ap (λ (l : List (List ℕ)). slice_get l k) are
    ∙ slice_get-map key_of (drop first rows) k ∙ ap (option_map key_of) row_there)
