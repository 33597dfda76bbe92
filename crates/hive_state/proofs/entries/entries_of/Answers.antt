use Rattle.std.proofs.Common.{◌∙◌, ap, arith, length, sym, Some}
use Rattle.std.proofs.lemmas.Option.{none-some}
use Rattle.catalog_reading.proofs.Mapped.{length-mapped, nth_of}
use Rattle.catalog_reading.proofs.Walks.{all_read, one_read}
use Rattle.hive_state.specs.State.{entry_data}
use Rattle.hive_state.proofs.Nth.{nth_value}
use Rattle.hive_state.proofs.entries.entries_of.Goals as goal

pub returns-in_default : goal.returns-in_default
returns-in_default c = λ wanted are same.
    let nth = nth_of entry_data _ _ _ wanted same c.loop-value-test.true c.value-item.is in
    absurd (none-some nth.it (sym c.in_default.is ∙ c.in_ok-entry.ensures nth.it (nth_value _ wanted nth.it _ are nth.left) nth.seen))

pub loop-value-preserved : goal.loop-value-preserved
loop-value-preserved c = λ wanted are same.
    let nth = nth_of entry_data _ _ _ wanted same c.loop-value-test.true c.value-item.is in
    one_read _ _ wanted c.in-Some.entry nth.it _ (c.loop-value.invariant wanted are same) nth.left
    (sym c.in-Some.is ∙ c.in_ok-entry.ensures nth.it (nth_value _ wanted nth.it _ are nth.left) nth.seen) c.in_ok-push.ensures.ok

pub returns : goal.returns
returns c = λ wanted are same.
    ap Some (all_read c.loop-value.entries wanted (length c.args.values.now) c.loop-value.value-index (length-mapped entry_data c.args.values.now wanted same)
    (omega (arith, c.loop-value-test.false, c.loop-value.auto.value-index-end)) (c.loop-value.invariant wanted are same))
