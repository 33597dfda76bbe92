use Rattle.std.proofs.Common.{Some, None, sym, ◌∙◌, ap, arith}
use Rattle.std.proofs.lemmas.Str.Pattern.{strip_suffix_char}
use Rattle.version_range.specs.Cuts.{closed}
use Rattle.version_range.proofs.Edges.{closed_push, unclosed}
use Rattle.version_range.proofs.cuts.close.Goals as goal

pub returns-in-Some-clause-cut : goal.returns-in-Some-clause-cut
returns-in-Some-clause-cut c =
    sym (ap closed (strip_suffix_char 93 c.args.text.now (Some c.in-Some.front) c.in-Some.ensures.cases (omega arith)) ∙ closed_push c.in-Some.front.now 93)

pub returns-in-Some-strip_suffix-clause-cut : goal.returns-in-Some-strip_suffix-clause-cut
returns-in-Some-strip_suffix-clause-cut c =
    sym (ap closed (strip_suffix_char 41 c.args.text.now (Some c.in-Some-strip_suffix.front) c.in-Some-strip_suffix.ensures.cases (omega arith))
    ∙ closed_push c.in-Some-strip_suffix.front.now 41)

pub returns-in-None-strip_suffix-clause-cut : goal.returns-in-None-strip_suffix-clause-cut
returns-in-None-strip_suffix-clause-cut c =
    sym (unclosed c.args.text.now (strip_suffix_char 93 c.args.text.now None c.in-None.ensures.cases (omega arith))
    (strip_suffix_char 41 c.args.text.now None c.in-None-strip_suffix.ensures.cases (omega arith)))
