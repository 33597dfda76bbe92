use Rattle.std.proofs.Common.{◌≡◌, map, take}
use Rattle.serde_json.specs.View.{view}
use Rattle.reg_docs.specs.Entries.{entry_group_data}
use Rattle.reg_docs.proofs.catalog_entry.entry_group_values.Given as goal

-- the values so far
abbrev pub invariant-loop-group : goal.invariant-loop-group
invariant-loop-group l = map view l.values.items ≡ map (entry_group_data l.root) (take l.group-index l.groups)
