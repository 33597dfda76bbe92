use Rattle.std.proofs.Common.{arith}
use Rattle.std.proofs.lemmas.Fmt.{length-decimal-le}
use Rattle.nuget_version.proofs.Lengths.{digits_more, digits_one}
use Rattle.nuget_version.proofs.parse.digits_len.Goals as goal

pub overflow_add-len : goal.overflow_add-len
overflow_add-len c =
    let few = length-decimal-le 10 c.args.number (omega arith) (omega arith) (omega arith) in
    omega (arith, c.loop-left.invariant.0, few)

pub loop-left-preserved : goal.loop-left-preserved
loop-left-preserved c =
    (omega (arith, c.loop-left.invariant.0, digits_more c.loop-left.left c.loop-left-test.true (omega (arith, c.loop-left.invariant.1))), omega (arith, c.loop-left.invariant.1))

pub returns-clause-value : goal.returns-clause-value
returns-clause-value c = omega (arith, c.loop-left.invariant.0, digits_one c.loop-left.left c.loop-left-test.false)

pub returns-clause-small : goal.returns-clause-small
returns-clause-small c =
    let few = length-decimal-le 10 c.args.number (omega arith) (omega arith) (omega arith) in
    omega (arith, c.loop-left.invariant.0, digits_one c.loop-left.left c.loop-left-test.false, few)
