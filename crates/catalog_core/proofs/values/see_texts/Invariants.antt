use Rattle.std.proofs.Common.{All, take}
use Rattle.std.specs.Prelude.{IsUtf8}
use Rattle.catalog_core.proofs.values.see_texts.Given as goal

abbrev pub invariant-loop-text : goal.invariant-loop-text
invariant-loop-text l = All IsUtf8 (take l.text-index l.texts)
