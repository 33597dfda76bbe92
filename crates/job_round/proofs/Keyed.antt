-- The keys of rows, each once, and the rows of each.
use Rattle.std.proofs.Common.{◌≡◌, ℕ, List, [], ◌∷◌, ◌++◌, map, Bool, true, false, cond, ◌||◌, refl, sym, ◌∙◌, ap, subst, append-nil}
use Rattle.std.proofs.lemmas.List.{map-append}
use Rattle.std.proofs.lemmas.List.Folds.{list_any-append}
use Rattle.std.proofs.lemmas.Slice.Eq.{bytes_eq-Decides}
use Rattle.std.specs.List.{AllByRecursion, filter}
use Rattle.std.specs.Str.{bytes_eq}
use Rattle.blob_store.proofs.Areas.{bytes_eq-same, bytes_eq-turned}
use Rattle.catalog_doc.specs.declared.row.Row.{Row}
use Rattle.fold_core.specs.Laws.{IsWhole}
use Rattle.package_id.specs.declared.id.PackageId.{PackageId}
use Rattle.package_id.proofs.Bytes.{IsSegment-key}
use Rattle.job_round.specs.Ids.{has_key, id_rows, is_row_of, key_of, keys_of, with_key, with_keys}
use Rattle.job_round.proofs.KeyPlaces.{AreApart, none_apart, with_apart}

or_true : (a b : Bool) → b ≡ true → (a || b) ≡ true
or_true true b h = refl
or_true false b h = h

first_true : (a b : Bool) → a ≡ true → (a || b) ≡ true
first_true true b h = refl
first_true false b h = cc

-- a key stays one of them
kept_one : (key : List ℕ) (keys : List (List ℕ)) (other : List ℕ) → has_key key keys ≡ true → has_key key (with_key keys other) ≡ true
kept_one key keys other has =
    elim (has_key other keys) as (λ (b : Bool). has_key key (cond b keys (keys ++ other ∷ [])) ≡ true) [
      | true ↦ has
      | false ↦ list_any-append (bytes_eq key) keys (other ∷ []) ∙ first_true (has_key key keys) (has_key key (other ∷ [])) has
    ]

kept_all : (key : List ℕ) (keys more : List (List ℕ)) → has_key key keys ≡ true → has_key key (with_keys keys more) ≡ true
kept_all key keys [] has = has
kept_all key keys (k ∷ more) has = kept_all key (with_key keys k) more (kept_one key keys k has)

-- a key that is put in is one of them
put_in : (key : List ℕ) (keys : List (List ℕ)) (other : List ℕ) → bytes_eq key other ≡ true → has_key key (with_key keys other) ≡ true
put_in key keys other same =
    elim (has_key other keys) as (λ (b : Bool). has_key other keys ≡ b → has_key key (cond b keys (keys ++ other ∷ [])) ≡ true) [
      | true ↦ λ has. subst (λ (k : List ℕ). has_key k keys ≡ true) (sym ((bytes_eq-Decides key other).0 same)) has
      | false ↦ λ has. list_any-append (bytes_eq key) keys (other ∷ []) ∙ or_true (has_key key keys) (has_key key (other ∷ [])) (first_true (bytes_eq key other) false same)
    ] refl

-- no row is of an id whose key isn't one of them
none_from : (key : List ℕ) (keys : List (List ℕ)) (rows : List Row) → has_key key (with_keys keys (map key_of rows)) ≡ false → filter (is_row_of key) rows ≡ []
none_from key keys [] none = refl
none_from key keys (row ∷ rows) none =
    elim (is_row_of key row) as (λ (b : Bool). is_row_of key row ≡ b → cond b (row ∷ filter (is_row_of key) rows) (filter (is_row_of key) rows) ≡ []) [
      | true ↦ λ here.
          let found : has_key key (with_keys (with_key keys (key_of row)) (map key_of rows)) ≡ true = kept_all key (with_key keys (key_of row)) (map key_of rows) (put_in key keys (key_of row) here) in
          let no : ⊥ = cc in absurd no
      | false ↦ λ here. none_from key (with_key keys (key_of row)) rows none
    ] refl

keys_joined : (keys xs ys : List (List ℕ)) → with_keys keys (xs ++ ys) ≡ with_keys (with_keys keys xs) ys
keys_joined keys [] ys = refl
keys_joined keys (x ∷ xs) ys = keys_joined (with_key keys x) xs ys

all_apart : (keys more : List (List ℕ)) → AreApart keys → AreApart (with_keys keys more)
all_apart keys [] apart = apart
all_apart keys (k ∷ more) apart = all_apart (with_key keys k) more (with_apart keys k apart)

pub keys_apart : (rows : List Row) → AreApart (keys_of rows)
keys_apart rows = all_apart [] (map key_of rows) none_apart

pub firsts_apart : (keys : List (List ℕ)) → AreApart (with_keys [] keys)
firsts_apart keys = all_apart [] keys none_apart

-- an id without rows
pub fresh_is : (rows : List Row) (key : List ℕ) → has_key key (keys_of rows) ≡ false → record { key = key; rows = [] } ≡ id_rows rows key
fresh_is rows key free = ap (λ (l : List Row). record { key = key; rows = l }) (sym (none_from key [] rows free))

filter_more : (p : Row → Bool) (rows : List Row) (row : Row) → filter p (rows ++ row ∷ []) ≡ filter p rows ++ cond (p row) (row ∷ []) []
filter_more p [] row = refl
filter_more p (x ∷ rows) row =
    elim (p x) as (λ (b : Bool). cond b (x ∷ filter p (rows ++ row ∷ [])) (filter p (rows ++ row ∷ [])) ≡ cond b (x ∷ filter p rows) (filter p rows) ++ cond (p row) (row ∷ []) []) [
      | true ↦ ap (λ (l : List Row). x ∷ l) (filter_more p rows row)
      | false ↦ filter_more p rows row
    ]

-- with a row more
module _ (rows : List Row) (row : Row) where
  pub keys_next : keys_of (rows ++ row ∷ []) ≡ with_key (keys_of rows) (key_of row)
  keys_next = ap (with_keys []) (map-append key_of rows (row ∷ [])) ∙ keys_joined [] (map key_of rows) (key_of row ∷ [])

  pub rows_other : (key : List ℕ) → bytes_eq (key_of row) key ≡ false → id_rows rows key ≡ id_rows (rows ++ row ∷ []) key
  rows_other key other =
      let not : is_row_of key row ≡ false = bytes_eq-turned key (key_of row) ∙ other in
      ap (λ (l : List Row). record { key = key; rows = l })
      (sym (filter_more (is_row_of key) rows row ∙ ap (λ (b : Bool). filter (is_row_of key) rows ++ cond b (row ∷ []) []) not ∙ append-nil (filter (is_row_of key) rows)))

  pub rows_own : record { key = key_of row; rows = (id_rows rows (key_of row)).rows ++ row ∷ [] } ≡ id_rows (rows ++ row ∷ []) (key_of row)
  rows_own = ap (λ (l : List Row). record { key = key_of row; rows = l })
      (sym (filter_more (is_row_of (key_of row)) rows row ∙ ap (λ (b : Bool). filter (is_row_of (key_of row)) rows ++ cond b (row ∷ []) []) (bytes_eq-same (key_of row))))

-- an id's key has no `/`
pub whole_key : (id : PackageId) → IsWhole id.key
whole_key id = subst IsWhole (sym id.lowered) (IsSegment-key id.text id.spelled).whole

abbrev AreWhole : List (List ℕ) → Type 0
AreWhole keys = AllByRecursion IsWhole keys

behind : (keys : List (List ℕ)) (key : List ℕ) → AreWhole keys → IsWhole key → AreWhole (keys ++ key ∷ [])
behind [] key all whole = (whole, tt)
behind (k ∷ keys) key all whole = (all.0, behind keys key all.1 whole)

with_whole : (keys : List (List ℕ)) (key : List ℕ) → AreWhole keys → IsWhole key → AreWhole (with_key keys key)
with_whole keys key all whole =
    elim (has_key key keys) as (λ (b : Bool). AreWhole (cond b keys (keys ++ key ∷ []))) [ true ↦ all | false ↦ behind keys key all whole ]

rows_whole : (keys : List (List ℕ)) (rows : List Row) → AreWhole keys → AreWhole (with_keys keys (map key_of rows))
rows_whole keys [] all = all
rows_whole keys (row ∷ rows) all = rows_whole (with_key keys (key_of row)) rows (with_whole keys (key_of row) all (whole_key row.id))

pub keys_whole : (rows : List Row) → AllByRecursion IsWhole (keys_of rows)
keys_whole rows = rows_whole [] rows tt
