use Rattle.std.proofs.Common.{◌≡◌, ◌++◌, List, take}
use Rattle.pkg_meta.specs.declared.commit.Commit.{Commit}
use Rattle.fold_core.specs.Entries.{entries_of}
use Rattle.fold_core.specs.Items.{items_in_of, items_of}
use Rattle.fold_core.proofs.scratch.apply_all.Given as goal

abbrev pub invariant-loop-place : goal.invariant-loop-place
invariant-loop-place g l = record {
  same : l.item-items ≡ l.commit.items;
  number : l.number ≡ l.commit.number;
  applied : (before : List Commit) → l.fn.entries ≡ entries_of g.H.Hive.keeps (items_of before l.fn.key)
      → l.entries ≡ entries_of g.H.Hive.keeps (items_of before l.key ++ items_in_of l.key l.commit.number l.commit.stamp 0 (take l.place l.commit.items));
}
