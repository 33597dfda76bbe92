use Rattle.std.proofs.Common.{◌<◌, ◌+◌, ◌*◌, arith}
use Rattle.ticks.proofs.Moments.{date_read, moment_only, of_is, moment_bound, ticks_bound}
use Rattle.ticks.proofs.reading.moment_of.Goals as goal

pub returns-in_err-days-clause-only : goal.returns-in_err-days-clause-only
returns-in_err-days-clause-only c w are n is =
    absurd (c.in_err-days.ensures.none is.days (date_read w c.args.parts is.days are is.date))

pub returns-clause-only : goal.returns-clause-only
returns-clause-only c w are n is =
    let ticks = ticks_bound c.requires.0 c.args.parts c.requires.1 c.requires.2 in
    let clock = c.in_ok-seconds.ensures.within in
    let count = c.in_ok-seconds.ensures.some in
    let seconds : c.in_ok-seconds.seconds < 86_400 = omega (arith, clock.0, clock.1, clock.2) in
    let bound = moment_bound c.in_ok-days.days c.in_ok-seconds.seconds c.args.parts.ticks c.in_ok-days.ensures.within seconds ticks in
    let only = moment_only w c.args.parts c.in_ok-days.days n are c.in_ok-days.ensures.some is in
    of_is c.of.result ((c.from.result * 86_400 + c.from-2.result) * 10_000_000 + c.from-3.result) n c.of.ensures.within c.of.ensures.value
    (omega (arith, c.from.ensures, c.from-2.ensures, c.from-3.ensures))
    (omega (arith, c.from.ensures, c.from-2.ensures, c.from-3.ensures))
