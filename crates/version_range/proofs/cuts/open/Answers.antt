use Rattle.std.proofs.Common.{None, sym, arith}
use Rattle.std.proofs.lemmas.Str.Pattern.{strip_prefix_char}
use Rattle.version_range.proofs.Edges.{unopened}
use Rattle.version_range.proofs.cuts.open.Goals as goal

pub returns-in-None-strip_prefix-clause-cut : goal.returns-in-None-strip_prefix-clause-cut
returns-in-None-strip_prefix-clause-cut c =
    sym (unopened c.args.text.now (strip_prefix_char 91 c.args.text.now None c.in-None.ensures.cases (omega arith))
    (strip_prefix_char 40 c.args.text.now None c.in-None-strip_prefix.ensures.cases (omega arith)))
