use Rattle.std.proofs.Common.{◌∙◌}
use Rattle.ticks.proofs.Forms.{written_from}
use Rattle.ticks.proofs.Pieces.{year_piece, month_piece, day_piece}
use Rattle.ticks.proofs.reading.date_in.Goals as goal

pub number_at-requires-clause-digits : goal.number_at-requires-clause-digits
number_at-requires-clause-digits c = let w = written_from c.args.text.now c.requires in (year_piece c.args.text.now w.0 w.1).number

pub number_at-requires-2-clause-digits : goal.number_at-requires-2-clause-digits
number_at-requires-2-clause-digits c = let w = written_from c.args.text.now c.requires in (month_piece c.args.text.now w.0 w.1).number

pub number_at-requires-3-clause-digits : goal.number_at-requires-3-clause-digits
number_at-requires-3-clause-digits c = let w = written_from c.args.text.now c.requires in (day_piece c.args.text.now w.0 w.1).number

pub returns : goal.returns
returns c w is =
    (c.number_at.ensures.value ∙ (year_piece c.args.text.now w is).value, c.number_at-2.ensures.value ∙ (month_piece c.args.text.now w is).value, c.number_at-3.ensures.value ∙ (day_piece c.args.text.now w is).value)
