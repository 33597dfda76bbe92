-- Rows by their versions: the last row of each, and the live versions of an id.
use Rattle.std.specs.Prelude.{ℕ, ◌+◌, List, [], ◌∷◌, Bool, false, not, ◌&&◌, Option, Some, None, if◌then◌else◌}
use Rattle.std.specs.Option.{is_none, option_or}
use Rattle.std.specs.Str.{bytes_eq}
use Rattle.nuget_version.specs.Printed.{key_text}
use Rattle.pkg_meta.specs.Items.{id_of, version_of, is_gone}
use Rattle.pkg_meta.specs.Lawful.{Placed}
use Rattle.catalog_doc.specs.declared.row.Row.{Row}

-- whether a row is of the version of these two keys, the id's and the version's
abbrev pub is_of_keys : List ℕ → List ℕ → Row → Bool
is_of_keys id version row = bytes_eq id row.id.key && bytes_eq version (key_text row.version)

-- the last row of a version
abbrev pub last_row : List ℕ → List ℕ → List Row → Option Row
last_row id version [] = None
last_row id version (row ∷ rows) = option_or (last_row id version rows) (if is_of_keys id version row then Some row else None)

-- whether there is a row, and it is no delete
abbrev pub is_no_delete : Option Row → Bool
is_no_delete None = false
is_no_delete (Some row) = not row.gone

-- whether a row is of this id, no delete, and the last of its version
abbrev pub is_live_row : List ℕ → Row → List Row → Bool
is_live_row id row later = bytes_eq id row.id.key && (not row.gone && is_none (last_row row.id.key (key_text row.version) later))

-- how many live versions an id has after these rows
abbrev pub live_rows : List ℕ → List Row → ℕ
live_rows id [] = 0
live_rows id (row ∷ rows) = (if is_live_row id row rows then 1 else 0) + live_rows id rows

-- the row of an item at its place
abbrev pub placed_row : Placed → Row
placed_row x = record { number = x.number; place = x.place; stamp = x.stamp; id = id_of x.what; version = version_of x.what; gone = is_gone x.what }
