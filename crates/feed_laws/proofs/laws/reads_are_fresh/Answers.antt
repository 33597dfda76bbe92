use Rattle.feed_laws.proofs.Kept.{found_fresh}
use Rattle.feed_laws.proofs.laws.reads_are_fresh.Goals as goal

pub returns : goal.returns
returns c = λ fs w sound k f h rule there key name own. found_fresh w.commits k fs w.hives sound.hives f h rule there key name own
