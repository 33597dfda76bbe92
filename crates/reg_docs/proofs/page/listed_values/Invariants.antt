use Rattle.std.proofs.Common.{◌≡◌, map, take}
use Rattle.serde_json.specs.View.{view}
use Rattle.reg_docs.specs.Documents.{listed_data}
use Rattle.reg_docs.proofs.page.listed_values.Given as goal

-- the values so far
abbrev pub invariant-loop-entry : goal.invariant-loop-entry
invariant-loop-entry l = map view l.values.items ≡ map (listed_data l.base l.root l.key) (take l.entry-index l.run)
