use Rattle.feed_laws.proofs.Restarted.{finds_commits}
use Rattle.feed_laws.proofs.laws.restarts_find_commits.Goals as goal

pub returns : goal.returns
returns c = finds_commits
