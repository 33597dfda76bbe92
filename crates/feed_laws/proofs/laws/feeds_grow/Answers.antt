use Rattle.feed_laws.proofs.Kept.{run_grows, run_rises}
use Rattle.feed_laws.proofs.laws.feeds_grow.Goals as goal

pub returns-clause-commits : goal.returns-clause-commits
returns-clause-commits c = run_grows

pub returns-clause-cursors : goal.returns-clause-cursors
returns-clause-cursors c = run_rises
