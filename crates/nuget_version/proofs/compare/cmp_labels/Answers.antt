use Rattle.std.proofs.Common.{sym, ◌∙◌}
use Rattle.nuget_version.proofs.Compared.{labels_compared}
use Rattle.nuget_version.proofs.compare.cmp_labels.Goals as goal

pub returns-in-false-false : goal.returns-in-false-false
returns-in-false-false c =
    c.cmp_parts.ensures ∙ labels_compared c.args.a.now c.args.b.now (sym c.in-false-false.ensures) (sym c.in-false-false.ensures')
