use Rattle.std.proofs.Common.{◌∙◌, ap, arith, length, sym, Some}
use Rattle.std.proofs.lemmas.Option.{none-some}
use Rattle.catalog_reading.proofs.Walks.{all_read, length-rows, nth_row, one_read}
use Rattle.catalog_reading.proofs.reading.rows_of.Goals as goal

pub returns-in_default : goal.returns-in_default
returns-in_default c = λ rows are same.
    let nth = nth_row c.args.base.now _ _ _ rows are same c.loop-value-test.true c.value-item.is in
    absurd (none-some nth.row (sym c.in_default.is ∙ c.in_ok-row.ensures nth.row nth.fits nth.seen))

pub loop-value-preserved : goal.loop-value-preserved
loop-value-preserved c = λ wanted are same.
    let nth = nth_row c.args.base.now _ _ _ wanted are same c.loop-value-test.true c.value-item.is in
    one_read _ _ wanted c.in-Some.row nth.row _ (c.loop-value.invariant wanted are same) nth.left (sym c.in-Some.is ∙ c.in_ok-row.ensures nth.row nth.fits nth.seen) c.in_ok-push.ensures.ok

pub returns : goal.returns
returns c = λ rows are same.
    ap Some (all_read c.loop-value.rows rows (length c.args.values.now) c.loop-value.value-index (length-rows c.args.base.now c.args.values.now rows same)
    (omega (arith, c.loop-value-test.false, c.loop-value.auto.value-index-end)) (c.loop-value.invariant rows are same))
