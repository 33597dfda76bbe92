use Rattle.feed_laws.proofs.Passed.{law_at, pass_runs, sound_at}
use Rattle.feed_laws.proofs.laws.passes_are_steps.Goals as goal

pub returns : goal.returns
returns c = λ fs laws w sound up k f h rule there key r claimed plan is_plan.
    pass_runs fs w up k f rule key r h there (law_at w.commits sound.lawful.lawful k fs f laws rule) (sound_at w.commits k fs w.hives f h sound.hives rule there) claimed plan is_plan
