use Rattle.std.proofs.Common.{arith, subst}
use Rattle.std.proofs.lemmas.List.{take_all}
use Rattle.std.proofs.lemmas.List.Elements.{All-more}
use Rattle.catalog_laws.specs.Values.{AreChangeValues, IsChangeValue}
use Rattle.catalog_core.proofs.values.see_changes.Goals as goal

pub loop-change-preserved : goal.loop-change-preserved
loop-change-preserved c =
    All-more IsChangeValue c.args.changes.now c.loop-change.change-index c.change-item.result c.loop-change-test.true c.loop-change.invariant (subst IsChangeValue c.change-item.is c.see_change.ensures)

pub returns : goal.returns
returns c = subst AreChangeValues (take_all c.loop-change.change-index c.args.changes.now (omega (arith, c.loop-change-test.false))) c.loop-change.invariant
