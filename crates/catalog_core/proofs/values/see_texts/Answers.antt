use Rattle.std.proofs.Common.{All, arith, subst}
use Rattle.std.specs.Prelude.{IsUtf8}
use Rattle.std.proofs.lemmas.List.{take_all}
use Rattle.std.proofs.lemmas.List.Elements.{All-more}
use Rattle.catalog_core.proofs.values.see_texts.Goals as goal

pub loop-text-preserved : goal.loop-text-preserved
loop-text-preserved c =
    All-more IsUtf8 c.args.texts.now c.loop-text.text-index c.text-item.result c.loop-text-test.true c.loop-text.invariant (subst IsUtf8 c.text-item.is c.as_bytes-bytes.ensures.utf8)

pub returns : goal.returns
returns c = subst (All IsUtf8) (take_all c.loop-text.text-index c.args.texts.now (omega (arith, c.loop-text-test.false))) c.loop-text.invariant
