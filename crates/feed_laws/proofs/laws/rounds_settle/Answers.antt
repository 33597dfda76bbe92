use Rattle.feed_laws.proofs.Kept.{put_settles}
use Rattle.feed_laws.proofs.laws.rounds_settle.Goals as goal

pub returns : goal.returns
returns c = λ fs laws w k sound may f h rule there. put_settles w.commits k fs w.hives sound.lawful.lawful laws sound.hives may.1 f h rule there
