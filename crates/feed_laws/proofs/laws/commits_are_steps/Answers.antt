use Rattle.feed_laws.proofs.Committed.{commit_runs}
use Rattle.feed_laws.proofs.laws.commits_are_steps.Goals as goal

pub returns : goal.returns
returns c = λ fs w x sound up settled whole. commit_runs fs w up x sound settled whole
