use Rattle.std.proofs.Common.{◌∙◌, sym}
use Rattle.catalog_rows.proofs.Counts.{stands_next}
use Rattle.catalog_rows.proofs.rows.Rows.first_unfit.Goals as goal

pub loop-at-preserved : goal.loop-at-preserved
loop-at-preserved c = λ cs are distinct.
    let stands = c.loop-at.invariant cs are distinct in
    stands_next cs c.args.changes.now c.loop-at.at c.index-changes-at.result c.loop-at-test.true c.index-changes-at.is stands
    (sym (c.in_ok-reason.ensures.exact cs are stands.counts) ∙ c.in_default.is)
