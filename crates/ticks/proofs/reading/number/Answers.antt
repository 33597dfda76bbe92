use Rattle.std.proofs.Common.{arith}
use Rattle.std.proofs.lemmas.Int.Digits.{digits_value_more}
use Rattle.ticks.proofs.Numbers.{front_small, digit_is}
use Rattle.ticks.proofs.reading.number.Goals as goal

pub overflow_mul-number : goal.overflow_mul-number
overflow_mul-number c =
    omega (arith, c.loop-digit.invariant, front_small c.args.digits.now c.loop-digit.digit-index c.requires.digits c.requires.short c.loop-digit-test.true)

pub overflow_sub-digit : goal.overflow_sub-digit
overflow_sub-digit c = (digit_is c.args.digits.now c.loop-digit.digit-index c.requires.digits c.loop-digit-test.true).0

pub overflow_add-number : goal.overflow_add-number
overflow_add-number c =
    let digit = digit_is c.args.digits.now c.loop-digit.digit-index c.requires.digits c.loop-digit-test.true in
    let value = c.from.ensures in
    omega (arith, c.loop-digit.invariant, value, digit.1, front_small c.args.digits.now c.loop-digit.digit-index c.requires.digits c.requires.short c.loop-digit-test.true)

pub loop-digit-preserved : goal.loop-digit-preserved
loop-digit-preserved c =
    let digit = digit_is c.args.digits.now c.loop-digit.digit-index c.requires.digits c.loop-digit-test.true in
    let value = c.from.ensures in
    omega (arith, c.loop-digit.invariant, value, digit.2, digits_value_more 10 c.args.digits.now c.loop-digit.digit-index c.loop-digit-test.true)
