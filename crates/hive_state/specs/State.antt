-- The state document of an id, this project's own: what a hive has of the id.
use Rattle.std.specs.Prelude.{ℕ, List, ◌++◌, map, codes}
use Rattle.serde_json.specs.Data.{Data, array, boolean, member, no_members, number, object, string, unsigned}
use Rattle.serde_json.specs.View.{items_of}
use Rattle.serde_json.specs.Written.{compact_text}
use Rattle.ticks.specs.Stamp.{stamp_text}
use Rattle.pkg_meta.specs.Trees.{details_tree}
use Rattle.pkg_meta.specs.declared.entry.Entry.{Entry}
use Rattle.pkg_meta.specs.declared.state.StateDoc.{StateDoc}

-- the name of the document of the id with this key, in a hive's area
abbrev pub state_name : List ℕ → List ℕ
state_name key = codes "s/" ++ (key ++ codes ".json")

-- an entry of these details, of the item at this place of a commit
abbrev pub entry_object : Data → ℕ → ℕ → Data
entry_object details commit place = object
    (member (codes "details") details
    (member (codes "number") (number (unsigned commit))
    (member (codes "place") (number (unsigned place))
    no_members)))

-- an entry, with the members that a catalog leaf has of its details
abbrev pub entry_data : Entry → Data
entry_data e = entry_object (details_tree e.details) e.number e.place

-- a state with its entries, its names and its stamp as they are written
abbrev pub state_object : StateDoc → List Data → List Data → List ℕ → Data
state_object s entries names stamp = object
    (member (codes "at") (number (unsigned s.at))
    (member (codes "dirty") (boolean s.dirty)
    (member (codes "entries") (array (items_of entries))
    (member (codes "names") (array (items_of names))
    (member (codes "touched") (number (unsigned s.touched))
    (member (codes "touchedTimeStamp") (string stamp)
    no_members))))))

-- a state
abbrev pub state_data : StateDoc → Data
state_data s = state_object s (map entry_data s.entries) (map string s.names) (stamp_text s.touched_stamp)

-- the document's bytes
unfoldable pub state_text : StateDoc → List ℕ
state_text s = compact_text (state_data s)
