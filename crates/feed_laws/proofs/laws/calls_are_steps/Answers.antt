use Rattle.feed_laws.proofs.Stepped.{all_stepped}
use Rattle.feed_laws.proofs.laws.calls_are_steps.Goals as goal

pub returns : goal.returns
returns c = λ fs w events last up meet. all_stepped fs events w last up meet
