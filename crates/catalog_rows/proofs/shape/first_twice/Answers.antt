use Rattle.std.proofs.Common.{take, []}
use Rattle.catalog_doc.specs.Verdict.{first_reason, twice}
use Rattle.catalog_doc.specs.declared.error.CommitErr.TheVariants as the
use Rattle.catalog_rows.proofs.Places.{found_here, found_later, twice_found, twice_missed}
use Rattle.catalog_rows.proofs.shape.first_twice.Goals as goal

pub returns-then-has_change-clause-exact : goal.returns-then-has_change-clause-exact
returns-then-has_change-clause-exact c =
    let changes = c.args.changes.now in
    let at = c.loop-at.at in
    let change = c.index-changes-at.result in
    found_here twice changes at change (the.Twice at) (first_reason twice [] 0 changes) c.loop-at-test.true c.index-changes-at.is c.loop-at.invariant
    (twice_found at (take at changes) change c.has_change.result c.has_change.ensures c.if-has_change.true)

pub loop-at-preserved : goal.loop-at-preserved
loop-at-preserved c =
    let changes = c.args.changes.now in
    let at = c.loop-at.at in
    let change = c.index-changes-at.result in
    found_later twice changes at change (first_reason twice [] 0 changes) c.loop-at-test.true c.index-changes-at.is c.loop-at.invariant
    (twice_missed at (take at changes) change c.has_change.result c.has_change.ensures c.if-has_change.false)
