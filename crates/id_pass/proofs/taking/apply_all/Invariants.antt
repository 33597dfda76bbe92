use Rattle.std.proofs.Common.{◌≡◌, drop}
use Rattle.pkg_meta.specs.Entries.{AreRising}
use Rattle.fold_core.specs.Places.{all_applied}
use Rattle.id_pass.specs.Placing.{all_as_placed}
use Rattle.id_pass.proofs.taking.apply_all.Given as goal

abbrev pub invariant-loop-placed : goal.invariant-loop-placed
invariant-loop-placed g l =
    (all_applied g.H.Hive.keeps l.entries (all_as_placed (drop l.placed-index l.items)) ≡ all_applied g.H.Hive.keeps l.fn.entries (all_as_placed l.items))
    × (AreRising l.fn.entries → AreRising l.entries)
