use Rattle.ticks.specs.Reading.{IsMomentOf, NamesMoment}
use Rattle.ticks.proofs.Forms.{written_from}
use Rattle.ticks.proofs.Moments.{some_weaker}
use Rattle.ticks.proofs.reading.moment.Goals as goal

pub moment_of-requires : goal.moment_of-requires
moment_of-requires c =
    let w = written_from c.args.text.now c.requires.form in
    (w.0, w.1.fits, c.read_parts.ensures w.0 w.1)

pub returns-clause-names : goal.returns-clause-names
returns-clause-names c =
    let w = written_from c.args.text.now c.requires.form in
    some_weaker c.moment_of.result (IsMomentOf w.0) (NamesMoment c.args.text.now) (λ n is. (w.0, w.1, is)) (c.moment_of.ensures.names w.0 (c.read_parts.ensures w.0 w.1))

pub returns-clause-only : goal.returns-clause-only
returns-clause-only c n h = c.moment_of.ensures.only h.0 (c.read_parts.ensures h.0 h.1) n h.2
