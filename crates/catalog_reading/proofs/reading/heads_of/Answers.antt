use Rattle.std.proofs.Common.{◌∙◌, ap, arith, length, sym, Some}
use Rattle.std.proofs.lemmas.Option.{none-some}
use Rattle.catalog_reading.proofs.Walks.{all_read, length-heads, nth_head, one_read}
use Rattle.catalog_reading.proofs.reading.heads_of.Goals as goal

pub returns-in_default : goal.returns-in_default
returns-in_default c = λ base heads are same.
    let nth = nth_head base 0 _ _ _ heads are same c.loop-value-test.true c.value-item.is in
    absurd (none-some nth.head (sym c.in_default.is ∙ c.head_in.ensures base nth.place nth.head nth.fits nth.seen))

pub loop-value-preserved : goal.loop-value-preserved
loop-value-preserved c = λ base wanted are same.
    let nth = nth_head base 0 _ _ _ wanted are same c.loop-value-test.true c.value-item.is in
    one_read _ _ wanted c.in-Some.head nth.head _ (c.loop-value.invariant base wanted are same) nth.left (sym c.in-Some.is ∙ c.head_in.ensures base nth.place nth.head nth.fits nth.seen) c.in_ok-push.ensures.ok

pub returns : goal.returns
returns c = λ base heads are same.
    ap Some (all_read c.loop-value.heads heads (length c.args.values.now) c.loop-value.value-index (length-heads base 0 c.args.values.now heads same)
    (omega (arith, c.loop-value-test.false, c.loop-value.auto.value-index-end)) (c.loop-value.invariant base heads are same))
