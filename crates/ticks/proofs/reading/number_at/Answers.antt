use Rattle.std.proofs.Common.{◌≡◌, ◌≤◌, ◌+◌, ◌-◌, ◌^◌, length, take, drop, arith, length-take}
use Rattle.std.proofs.Math.Nat.{pow-le-pow_right}
use Rattle.std.proofs.lemmas.Int.Digits.{digits_value-lt}
use Rattle.ticks.proofs.reading.number_at.Goals as goal

pub returns-clause-within : goal.returns-clause-within
returns-clause-within c =
    let front = take c.args.width (drop c.args.at c.args.text.now) in
    let same : c.args.at + c.args.width - c.args.at ≡ c.args.width = omega arith in
    let value = rw same at c.number.ensures in
    let long : length (take c.args.width (drop c.args.at c.args.text.now)) ≤ c.args.width = simp length-take (omega arith) in
    let power : 10 ^ length (take c.args.width (drop c.args.at c.args.text.now)) ≤ 10 ^ c.args.width = pow-le-pow_right (omega arith) long in
    omega (arith, value, digits_value-lt 10 (take c.args.width (drop c.args.at c.args.text.now)) c.requires.digits.digits)
