use Rattle.std.proofs.Common.{◌∙◌, arith}
use Rattle.std.proofs.lemmas.List.{take_rest}
use Rattle.ticks.proofs.Scanning.{decimals_none, decimals_some}
use Rattle.ticks.proofs.form.decimals.Goals as goal

pub returns-then-places-eq0-clause-scans : goal.returns-then-places-eq0-clause-scans
returns-then-places-eq0-clause-scans c = decimals_none c.args.text.now (omega (arith, c.fitting-places.ensures.value))

pub returns-in-Ok-clause-scans : goal.returns-in-Ok-clause-scans
returns-in-Ok-clause-scans c =
    let e = c.fitting-places.ensures.value in
    let zone = rw (take_rest c.args.text.now c.fitting-places.result) at c.in-Ok.ensures in
    (decimals_some c.args.text.now (omega (arith, e))).0 ∙ rw (← e) zone

pub returns-in-Err-clause-scans : goal.returns-in-Err-clause-scans
returns-in-Err-clause-scans c =
    let e = c.fitting-places.ensures.value in
    let zone = rw (take_rest c.args.text.now c.fitting-places.result) at c.in-Err.ensures in
    rw e ((decimals_some c.args.text.now (omega (arith, e))).1 c.in-Err.at (rw (← e) zone))
