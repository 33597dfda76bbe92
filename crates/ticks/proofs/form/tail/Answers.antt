use Rattle.std.proofs.Common.{sym}
use Rattle.std.proofs.lemmas.List.{take_rest}
use Rattle.ticks.proofs.Scanning.{tail_is_zone, tail_is_decimals}
use Rattle.ticks.proofs.form.tail.Goals as goal

pub returns-in-Err-clause-scans : goal.returns-in-Err-clause-scans
returns-in-Err-clause-scans c =
    (tail_is_zone c.args.text.now (sym c.if-not-starts_with_point.ensures)).1 c.in-Err.at c.in-Err.ensures

pub returns-in-Err-decimals-clause-scans : goal.returns-in-Err-decimals-clause-scans
returns-in-Err-decimals-clause-scans c =
    let rest = rw (take_rest c.args.text.now 1) at c.in-Err-decimals.ensures.scans in
    (tail_is_decimals c.args.text.now (sym c.if-not-starts_with_point.ensures)).1 c.in-Err-decimals.at rest
