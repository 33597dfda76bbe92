use Rattle.std.proofs.Common.{sym, subst}
use Rattle.std.specs.List.Sorted.{IsStrictlySortedBy}
use Rattle.pkg_meta.specs.Entries.{AreRising}
use Rattle.id_pass.proofs.taking.entries_in.Goals as goal

pub returns-in-None-clause-rising : goal.returns-in-None-clause-rising
unfolding IsStrictlySortedBy
returns-in-None-clause-rising c = subst AreRising (sym c.new.ensures) tt
