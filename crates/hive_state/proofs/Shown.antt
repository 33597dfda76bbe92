-- What a state's data says under its names.
use Rattle.std.proofs.Common.{◌≡◌, codes, map, ◌∙◌, ap}
use Rattle.serde_json.specs.Data.{Data, string}
use Rattle.pkg_meta.specs.Values.{items_at}
use Rattle.pkg_meta.specs.declared.state.StateDoc.{StateDoc}
use Rattle.pkg_meta.proofs.Lists.{list_of-items_of}
use Rattle.hive_state.specs.State.{entry_data, state_data}

pub names_at : (s : StateDoc) (x : Data) → x ≡ state_data s → items_at (codes "names") x ≡ map string s.names
names_at s x is = ap (items_at (codes "names")) is ∙ list_of-items_of (map string s.names)

pub entries_at : (s : StateDoc) (x : Data) → x ≡ state_data s → items_at (codes "entries") x ≡ map entry_data s.entries
entries_at s x is = ap (items_at (codes "entries")) is ∙ list_of-items_of (map entry_data s.entries)
