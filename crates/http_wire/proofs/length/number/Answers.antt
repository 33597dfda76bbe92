use Rattle.std.proofs.Common.{arith}
use Rattle.std.proofs.lemmas.Int.Digits.{digits_value_more}
use Rattle.http_wire.proofs.DigitLemmas.{all_digits, digit_is, front_small}
use Rattle.http_wire.proofs.length.number.Goals as goal

pub overflow_mul-number : goal.overflow_mul-number
overflow_mul-number c =
    omega (arith, c.loop-digit.invariant, front_small c.args.digits.now c.loop-digit.digit-index (all_digits c.args.digits.now c.requires.digits) c.requires.short c.loop-digit-test.true)

pub overflow_add-number : goal.overflow_add-number
overflow_add-number c =
    let all = all_digits c.args.digits.now c.requires.digits in
    let digit = digit_is c.args.digits.now c.loop-digit.digit-index all c.loop-digit-test.true in
    omega (arith, c.loop-digit.invariant, c.from.ensures, digit.1, front_small c.args.digits.now c.loop-digit.digit-index all c.requires.short c.loop-digit-test.true)

pub loop-digit-preserved : goal.loop-digit-preserved
loop-digit-preserved c =
    let digit = digit_is c.args.digits.now c.loop-digit.digit-index (all_digits c.args.digits.now c.requires.digits) c.loop-digit-test.true in
    omega (arith, c.loop-digit.invariant, c.from.ensures, digit.2, digits_value_more 10 c.args.digits.now c.loop-digit.digit-index c.loop-digit-test.true)
