use Rattle.std.proofs.Common.{arith, sym}
use Rattle.ticks.proofs.Fitting.{fitting_len-end, fitting_len-stop}
use Rattle.ticks.proofs.form.fitting.Goals as goal
use Rattle.ticks.proofs.form.fitting.Goals.{then-at-text-via-then-at-text, then-at-text-via-else-at-text+then-not-fits}

pub returns-then-at-text-clause-value : goal.returns-then-at-text-clause-value
returns-then-at-text-clause-value c =
    let form = c.args.form.now in
    let text = c.args.text.now in
    elim c.then-at-text.branch [
      | then-at-text-via-then-at-text w ↦ omega (arith, fitting_len-end form text c.loop-at.at w.if-at-text.true)
      | then-at-text-via-else-at-text+then-not-fits w ↦ omega (arith, fitting_len-stop form text c.loop-at.at c.loop-at-test.true w.if-at-text.false (sym w.if-not-fits.ensures))
    ]
