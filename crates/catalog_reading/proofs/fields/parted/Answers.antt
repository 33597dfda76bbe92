use Rattle.std.proofs.Common.{arith, decimal, lit<}
use Rattle.std.proofs.lemmas.Str.Pattern.{split_after}
use Rattle.catalog_doc.proofs.DocNames.{no_slash_in}
use Rattle.catalog_reading.proofs.fields.parted.Goals as goal

pub returns : goal.returns
returns c = λ n p fits is.
    split_after 47 c.args.text.now (decimal n) (decimal p) c.split_once.result c.split_once.ensures.cases (lit< tt) is (no_slash_in n (omega arith))
