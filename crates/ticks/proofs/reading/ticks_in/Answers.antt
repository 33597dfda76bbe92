use Rattle.std.proofs.Common.{arith}
use Rattle.ticks.proofs.Pieces.{scale_is, scaled_small, decimals_number, decimals_value}
use Rattle.ticks.proofs.reading.ticks_in.Goals as goal

pub number_at-requires-clause-digits : goal.number_at-requires-clause-digits
number_at-requires-clause-digits c = (decimals_number c.args.text.now c.args.places c.requires.form c.requires.places).0

pub number_at-requires-clause-short : goal.number_at-requires-clause-short
number_at-requires-clause-short c = (decimals_number c.args.text.now c.args.places c.requires.form c.requires.places).1

pub offset_bounds-places : goal.offset_bounds-places
offset_bounds-places c = omega (arith, (decimals_number c.args.text.now c.args.places c.requires.form c.requires.places).1)

pub bounds-places : goal.bounds-places
bounds-places c = omega (arith, (decimals_number c.args.text.now c.args.places c.requires.form c.requires.places).1)

pub overflow_mul-result : goal.overflow_mul-result
overflow_mul-result c =
    let within = (decimals_number c.args.text.now c.args.places c.requires.form c.requires.places).1 in
    rw (scale_is c.args.places within) (omega (arith, scaled_small c.args.places c.number_at.result within c.number_at.ensures.within))

pub returns-clause-value : goal.returns-clause-value
returns-clause-value c w is =
    let within = (decimals_number c.args.text.now c.args.places c.requires.form c.requires.places).1 in
    let value = decimals_value c.args.text.now c.args.places w is c.requires.places in
    rw (scale_is c.args.places within) (rw (c.number_at.ensures.value, value.1, value.0))

pub returns-clause-within : goal.returns-clause-within
returns-clause-within c =
    let within = (decimals_number c.args.text.now c.args.places c.requires.form c.requires.places).1 in
    rw (scale_is c.args.places within) (scaled_small c.args.places c.number_at.result within c.number_at.ensures.within)
