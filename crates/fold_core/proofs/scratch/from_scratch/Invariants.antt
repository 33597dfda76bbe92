use Rattle.std.proofs.Common.{◌≡◌, take}
use Rattle.fold_core.specs.Entries.{entries_of}
use Rattle.fold_core.specs.Items.{items_of}
use Rattle.fold_core.proofs.scratch.from_scratch.Given as goal

abbrev pub invariant-loop-commit : goal.invariant-loop-commit
invariant-loop-commit g l = l.entries ≡ entries_of g.H.Hive.keeps (items_of (take l.commit-index l.commits) l.key)
