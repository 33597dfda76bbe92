use Rattle.std.proofs.Common.{sym, ◌∙◌}
use Rattle.fold_core.proofs.Applied.{entries_none}
use Rattle.fold_core.proofs.scratch.from_scratch.Goals as goal

pub loop-commit-init : goal.loop-commit-init
loop-commit-init g c = c.new-entries.ensures ∙ sym (entries_none g.H.Hive.keeps)
