use Rattle.std.proofs.Common.{◌≡◌, ◌++◌, List, drop, map}
use Rattle.serde_json.specs.View.{view}
use Rattle.pkg_meta.specs.declared.entry.Entry.{Entry}
use Rattle.hive_state.specs.Reading.{AreEntryValues}
use Rattle.hive_state.specs.State.{entry_data}
use Rattle.hive_state.proofs.entries.entries_of.Given as goal

abbrev pub invariant-loop-value : goal.invariant-loop-value
invariant-loop-value l = (wanted : List Entry) → AreEntryValues wanted → map view l.values ≡ map entry_data wanted → l.entries ++ drop l.value-index wanted ≡ wanted
