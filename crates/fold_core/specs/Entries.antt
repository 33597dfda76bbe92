-- The entries of an id in a hive: what the last item of each version says, where the hive keeps it.
use Rattle.std.specs.Prelude.{ℕ, List, [], ◌∷◌, map, reverse, Bool, Option, Some, None, if◌then◌else◌}
use Rattle.std.specs.FinMap.{FinMap, from_entries, values}
use Rattle.std.specs.List.{filter_map}
use Rattle.std.specs.Ordering.{eq_by_cmp}
use Rattle.nuget_version.specs.Precedence.{precedence}
use Rattle.nuget_version.specs.declared.version.Version.{Version}
use Rattle.pkg_meta.specs.Entries.{version_in}
use Rattle.pkg_meta.specs.Items.{version_of}
use Rattle.pkg_meta.specs.Lawful.{Placed}
use Rattle.pkg_meta.specs.declared.item.Details.{Details}
use Rattle.pkg_meta.specs.declared.item.Item.{Item}
use Rattle.pkg_meta.specs.declared.item.Item.TheVariants as the
use Rattle.pkg_meta.specs.declared.entry.Entry.{Entry}

-- which details a hive keeps
abbrev pub Keeps : Type 0
Keeps = Details → Bool

-- an item under its version
abbrev pub by_version : Placed → Version × Placed
by_version x = (version_of x.what, x)

-- the last item of each version, by precedence
abbrev pub last_items : List Placed → FinMap precedence Placed
last_items items = from_entries (map by_version (reverse items))

-- the entry of an item: none for a delete, and none for details that the hive doesn't keep
abbrev pub entry_at : Keeps → ℕ → ℕ → Item → Option Entry
entry_at keeps number place (the.Details d) = if keeps d then Some (record { number = number; place = place; details = d }) else None
entry_at keeps number place (the.Gone i v) = None

-- the entry of an item with its number and place
abbrev pub entry_of : Keeps → Placed → Option Entry
entry_of keeps x = entry_at keeps x.number x.place x.what

-- the entries that an id's items leave, by rising precedence
abbrev pub entries_of : Keeps → List Placed → List Entry
entries_of keeps items = filter_map (entry_of keeps) (values (last_items items))

-- the entry of a version
abbrev pub find_entry : Version → List Entry → Option Entry
find_entry v [] = None
find_entry v (e ∷ es) = if eq_by_cmp precedence v (version_in e) then Some e else find_entry v es
