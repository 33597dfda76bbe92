use Rattle.std.proofs.Common.{◌≡◌, take}
use Rattle.fold_core.specs.Items.{touched}
use Rattle.fold_core.proofs.id_docs.touched.Given as goal

abbrev pub invariant-loop-at : goal.invariant-loop-at
invariant-loop-at l = l.last ≡ touched (take l.at l.commits) l.key
