use Rattle.auto_docs.proofs.Turns.{version_turn}
use Rattle.auto_docs.proofs.index.version_values.Goals as goal

pub loop-entry-preserved : goal.loop-entry-preserved
loop-entry-preserved c = version_turn _ _ _ _ _ _ _ c.loop-entry-test.true c.entry-item.is c.in_ok-version_value.ensures c.in_ok-push.ensures.items c.loop-entry.invariant
