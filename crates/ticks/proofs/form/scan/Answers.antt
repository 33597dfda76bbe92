use Rattle.std.proofs.Common.{◌≡◌, ◌∙◌, arith}
use Rattle.std.proofs.lemmas.List.{take_rest}
use Rattle.ticks.proofs.Scanning.{stamp_stops, stamp_goes_on}
use Rattle.ticks.proofs.form.scan.Goals as goal

pub returns-then-front-clause-scans : goal.returns-then-front-clause-scans
returns-then-front-clause-scans c =
    let e = c.fitting-front.ensures.value in
    rw e (stamp_stops c.args.text.now (omega (arith, e)))

pub returns-in-Ok-clause-scans : goal.returns-in-Ok-clause-scans
returns-in-Ok-clause-scans c =
    let e = c.fitting-front.ensures.value in
    let whole : c.fitting-front.result ≡ 19 = omega arith in
    let tail = rw (take_rest c.args.text.now c.fitting-front.result, whole) at c.in-Ok.ensures.scans in
    (stamp_goes_on c.args.text.now (omega (arith, e))).0 ∙ tail

pub returns-in-Err-clause-scans : goal.returns-in-Err-clause-scans
returns-in-Err-clause-scans c =
    let e = c.fitting-front.ensures.value in
    let whole : c.fitting-front.result ≡ 19 = omega arith in
    let tail = rw (take_rest c.args.text.now c.fitting-front.result, whole) at c.in-Err.ensures.scans in
    rw whole ((stamp_goes_on c.args.text.now (omega (arith, e))).1 c.in-Err.at tail)
