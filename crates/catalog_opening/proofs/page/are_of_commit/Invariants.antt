use Rattle.std.proofs.Common.{drop}
use Rattle.std.specs.Prelude.{◌↔◌}
use Rattle.catalog_opening.specs.Pages.{AreOfCommit}
use Rattle.catalog_opening.proofs.page.are_of_commit.Given as goal

-- the rows so far are of the commit
abbrev pub invariant-loop-row : goal.invariant-loop-row
invariant-loop-row l = record { left : AreOfCommit l.number l.stamp l.rows ↔ AreOfCommit l.number l.stamp (drop l.row-index l.rows) }
