use Rattle.std.proofs.Common.{sym, ◌∙◌}
use Rattle.nuget_version.proofs.Compared.{both_numeric, first_numeric, none_numeric, second_numeric}
use Rattle.nuget_version.proofs.compare.cmp_part.Goals as goal

pub returns-in-true-true : goal.returns-in-true-true
returns-in-true-true c =
    c.then.ensures ∙ rw (c.cmp.ensures, c.cmp-in-true-true.ensures) (both_numeric c.args.x.now c.args.y.now (sym c.in-true-true.ensures) (sym c.in-true-true.ensures'))

pub returns-in-true-false : goal.returns-in-true-false
returns-in-true-false c = first_numeric c.args.x.now c.args.y.now (sym c.in-true-false.ensures) (sym c.in-true-false.ensures')

pub returns-in-false-true : goal.returns-in-false-true
returns-in-false-true c = second_numeric c.args.x.now c.args.y.now (sym c.in-false-true.ensures) (sym c.in-false-true.ensures')

pub returns-in-false-false : goal.returns-in-false-false
returns-in-false-false c =
    c.cmp_text.ensures ∙ none_numeric c.args.x.now c.args.y.now (sym c.in-false-false.ensures) (sym c.in-false-false.ensures')
