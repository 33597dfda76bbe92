use Rattle.catalog_opening.proofs.Halting.{differs}
use Rattle.catalog_opening.proofs.OfCommit.{of_commit_not}
use Rattle.catalog_opening.proofs.page.are_of_commit.Goals as goal

pub returns-then-not-is_of_commit : goal.returns-then-not-is_of_commit
returns-then-not-is_of_commit c =
    of_commit_not _ c.args.rows.now c.loop-row.row-index c.args.number c.args.stamp c.row-item.result c.loop-row-test.true c.row-item.is c.loop-row.invariant.left
    (λ own. differs c.if-not-is_of_commit.true (c.is_of_commit.ensures.1 own))
