-- The table by which the last row of a version and the live versions of an id are found.
use Rattle.std.specs.Prelude.{◌≡◌, ℕ, suc, List, [], ◌∷◌, Bool, true, map, slice_get, Option, Some, None, IsSome, option_map, string_bytes, String, if◌then◌else◌}
use Rattle.std.specs.BTreeMap.{get_by_text}
use Rattle.std.specs.List.{All}
use Rattle.std.specs.Option.{option_and_then, option_map_or, option_or, unwrap_or}
use Rattle.nuget_version.specs.Printed.{key_text}
use Rattle.catalog_doc.specs.declared.row.Row.{Row}
use Rattle.catalog_rows.specs.Last.{is_no_delete, is_of_keys, live_rows}
use Rattle.std.specs.Str.{bytes_eq}
use Rattle.catalog_rows.specs.declared.latest.Entered.{Entered}
use Rattle.catalog_rows.specs.declared.latest.Latest.{Latest}
use Rattle.catalog_rows.specs.declared.latest.OfId.{OfId}
use Rattle.catalog_rows.specs.declared.rows.NewRows.{NewRows}

-- the place of the last row that passes a test
abbrev pub last_place : (Row → Bool) → List Row → Option ℕ
last_place test [] = None
last_place test (row ∷ rows) = option_or (option_map suc (last_place test rows)) (if test row then Some 0 else None)

-- no other version than this one stands by itself
abbrev pub is_first : Option Entered → List ℕ → Bool
is_first None version = true
is_first (Some e) version = bytes_eq (string_bytes e.key) version

-- what stands for a version, of the one that stands by itself and of what stands for it among the others
abbrev pub first_or : Option Entered → List ℕ → Option (Option ℕ) → Option (Option ℕ)
first_or None version other = other
first_or (Some e) version other = if bytes_eq (string_bytes e.key) version then Some e.place else other

-- what is entered for a version of the id, if it is
abbrev pub entered_in : OfId → List ℕ → Option (Option ℕ)
entered_in of_id version = first_or of_id.first version (get_by_text of_id.others version)

-- this place is entered for the version, and the same for the others
abbrev pub IsPut : List ℕ → Option ℕ → OfId → OfId → Type 0
IsPut key place old new = (version : List ℕ) → entered_in new version ≡ (if bytes_eq key version then Some place else entered_in old version)

-- the same is entered
abbrev pub EntersSame : OfId → OfId → Type 0
EntersSame old new = (version : List ℕ) → entered_in new version ≡ entered_in old version

-- what stands for a version in what is noted of its id, if the version is entered there
abbrev pub entered_for : Option OfId → List ℕ → Option (Option ℕ)
entered_for noted version = option_and_then (λ of_id. entered_in of_id version) noted

-- the place that is noted of a version, none where it isn't entered
abbrev pub place_noted : Option OfId → List ℕ → Option ℕ
place_noted noted version = unwrap_or (entered_for noted version) None

-- the number of live versions that is noted
abbrev pub live_noted : Option OfId → ℕ
live_noted noted = option_map_or (λ of_id. of_id.live) noted 0

-- this is noted of the id with this key: the place of the last row of each version, and the number of live versions
pub record IsNoted (id : List ℕ) (rows : List Row) (noted : Option OfId) : Type 0 where
  pub places : (version : List ℕ) → place_noted noted version ≡ last_place (is_of_keys id version) rows
  pub live : live_noted noted ≡ live_rows id rows

-- so it is for each id
pub record IsLatestOf (rows : List Row) (latest : Latest) : Type 0 where
  pub each : (id : List ℕ) → IsNoted id rows (get_by_text latest.ids id)

-- whether the row at this place, if one is given, is there and no delete
abbrev pub is_live_at : List Row → Option ℕ → Bool
is_live_at rows place = is_no_delete (option_and_then (slice_get rows) place)

-- the versions that were entered still are
abbrev pub KeepsEntered : Option OfId → Option OfId → Type 0
KeepsEntered old new = (version : List ℕ) → IsSome (entered_for old version) → IsSome (entered_for new version)

-- the same places and the same number are noted, whatever is entered
pub record NotesSame (old new : Option OfId) : Type 0 where
  pub places : (version : List ℕ) → place_noted new version ≡ place_noted old version
  pub live : live_noted new ≡ live_noted old

-- the row's version is entered
abbrev pub IsEntered : Latest → Row → Type 0
IsEntered latest row = IsSome (entered_for (get_by_text latest.ids row.id.key) (key_text row.version))

-- the keys of the rows' versions, in order
abbrev pub AreKeysOf : {Y : Type 0} → List (String Y) → List Row → Type 0
AreKeysOf keys rows = map string_bytes keys ≡ map (λ row. key_text row.version) rows

-- the rows' versions have these keys, and are entered
pub record AreReady (latest : Latest) (new : NewRows) : Type 0 where
  pub keys : AreKeysOf new.keys.items new.rows.items
  pub entered : All (IsEntered latest) new.rows.items

-- the rows that are reserved, if any are
abbrev pub rows_in : Option NewRows → List Row
rows_in None = []
rows_in (Some new) = new.rows.items
