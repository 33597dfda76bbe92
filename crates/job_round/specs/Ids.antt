-- The ids of rows, in order of their first, each with its rows.
use Rattle.std.specs.Prelude.{◌≡◌, ℕ, suc, List, [], ◌∷◌, ◌++◌, filter, map, Bool, Option, Some, None, option_map, if◌then◌else◌}
use Rattle.std.specs.BTreeMap.{get_by_text}
use Rattle.std.specs.List.{list_any}
use Rattle.std.specs.Str.{bytes_eq}
use Rattle.catalog_doc.specs.declared.row.Row.{Row}
use Rattle.job_round.specs.declared.ids.IdRows.{IdRows}
use Rattle.job_round.specs.declared.ids.Ids.{Ids}

-- whether the key is one of these
abbrev pub has_key : List ℕ → List (List ℕ) → Bool
has_key key keys = list_any (bytes_eq key) keys

-- with this key behind them, where it isn't one of them
abbrev pub with_key : List (List ℕ) → List ℕ → List (List ℕ)
with_key keys key = if has_key key keys then keys else keys ++ key ∷ []

-- with these, one after the other
abbrev pub with_keys : List (List ℕ) → List (List ℕ) → List (List ℕ)
with_keys keys [] = keys
with_keys keys (key ∷ more) = with_keys (with_key keys key) more

-- these, each once, in order of the first
abbrev pub firsts : List (List ℕ) → List (List ℕ)
firsts keys = with_keys [] keys

-- the key of a row's id
abbrev pub key_of : Row → List ℕ
key_of row = row.id.key

-- whether a row is of the id with this key
abbrev pub is_row_of : List ℕ → Row → Bool
is_row_of key row = bytes_eq key (key_of row)

-- the keys of these rows' ids, in order of the first row of each
abbrev pub keys_of : List Row → List (List ℕ)
keys_of rows = firsts (map key_of rows)

-- an id's rows among these
abbrev pub id_rows : List Row → List ℕ → IdRows
id_rows rows key = record { key = key; rows = filter (is_row_of key) rows }

-- each id's
abbrev pub by_id : List Row → List IdRows
by_id rows = map (id_rows rows) (keys_of rows)

-- where a key first stands among these
abbrev pub key_place : List ℕ → List (List ℕ) → Option ℕ
key_place key [] = None
key_place key (k ∷ keys) = if bytes_eq key k then Some 0 else option_map suc (key_place key keys)

-- the ids of these keys, each with its rows among these
pub record HasIds (rows : List Row) (keys : List (List ℕ)) (ids : Ids) : Type 0 where
  pub list : ids.list.items ≡ map (id_rows rows) keys
  pub places : (key : List ℕ) → get_by_text ids.places key ≡ key_place key keys

-- with those of this key among them, and it stands at this place
abbrev pub HasIdAt : List Row → List ℕ → Ids → ℕ → Type 0
HasIdAt rows key ids place = HasIds rows (with_key (keys_of rows) key) ids × (key_place key (with_key (keys_of rows) key) ≡ Some place)

-- the key of an id
abbrev pub key_of_id : IdRows → List ℕ
key_of_id id = id.key
