use Rattle.std.proofs.Common.{arith}
use Rattle.std.proofs.lemmas.Fmt.{parse-decimal}
use Rattle.catalog_reading.proofs.fields.decimal_of.Goals as goal

pub returns : goal.returns
returns c = λ n small e.
    rw (parse-decimal 32 n c.args.digits.now c.parse.result small (omega arith) e c.parse.ensures.value.0) at c.ok.ensures.value
