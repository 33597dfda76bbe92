use Rattle.std.proofs.Common.{sym, ◌∙◌, arith}
use Rattle.nuget_version.proofs.Compared.{texts_end}
use Rattle.nuget_version.proofs.compare.cmp_text.Goals as goal

pub returns : goal.returns
returns c =
    c.cmp.ensures ∙ sym (texts_end c.loop-i.i c.args.x.now c.args.y.now (omega (arith, c.min-i-end.ensures)) (omega (arith, c.min-i-end.ensures)) (omega (arith, c.min-i-end.ensures)))
    ∙ c.loop-i.invariant
