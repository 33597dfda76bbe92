use Rattle.std.proofs.Common.{take}
use Rattle.catalog_laws.specs.Values.{AreChangeValues}
use Rattle.catalog_core.proofs.values.see_changes.Given as goal

abbrev pub invariant-loop-change : goal.invariant-loop-change
invariant-loop-change l = AreChangeValues (take l.change-index l.changes)
