use Rattle.std.proofs.Common.{◌≡◌, map, take}
use Rattle.serde_json.specs.View.{view}
use Rattle.reg_docs.specs.Entries.{entry_dep_data}
use Rattle.reg_docs.proofs.catalog_entry.entry_dep_values.Given as goal

-- the values so far
abbrev pub invariant-loop-dep : goal.invariant-loop-dep
invariant-loop-dep l = map view l.values.items ≡ map (entry_dep_data l.root) (take l.dep-index l.deps)
