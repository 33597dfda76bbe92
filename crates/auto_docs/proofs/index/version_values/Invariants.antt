use Rattle.std.proofs.Common.{◌≡◌, ◌++◌, drop, map}
use Rattle.serde_json.specs.View.{view}
use Rattle.auto_docs.specs.Documents.{auto_version_data}
use Rattle.auto_docs.proofs.index.version_values.Given as goal

abbrev pub invariant-loop-entry : goal.invariant-loop-entry
invariant-loop-entry l = map view l.values.items ++ map auto_version_data (drop l.entry-index l.entries) ≡ map auto_version_data l.entries
