use Rattle.std.proofs.Common.{◌∙◌}
use Rattle.ticks.proofs.Forms.{written_from}
use Rattle.ticks.proofs.Pieces.{hour_piece, minute_piece, second_piece}
use Rattle.ticks.proofs.reading.read_parts.Goals as goal

pub number_at-requires-clause-digits : goal.number_at-requires-clause-digits
number_at-requires-clause-digits c = let w = written_from c.args.text.now c.requires.form in (hour_piece c.args.text.now w.0 w.1).number

pub number_at-requires-2-clause-digits : goal.number_at-requires-2-clause-digits
number_at-requires-2-clause-digits c = let w = written_from c.args.text.now c.requires.form in (minute_piece c.args.text.now w.0 w.1).number

pub number_at-requires-3-clause-digits : goal.number_at-requires-3-clause-digits
number_at-requires-3-clause-digits c = let w = written_from c.args.text.now c.requires.form in (second_piece c.args.text.now w.0 w.1).number

pub returns : goal.returns
returns c w is = record {
  date = c.date_in.ensures w is;
  hour = c.number_at.ensures.value ∙ (hour_piece c.args.text.now w is).value;
  minute = c.number_at-2.ensures.value ∙ (minute_piece c.args.text.now w is).value;
  second = c.number_at-3.ensures.value ∙ (second_piece c.args.text.now w is).value;
  ticks = c.ticks_in.ensures.value w is;
}
