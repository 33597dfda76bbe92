use Rattle.feed_laws.proofs.Kept.{feed_kept, run_kept}
use Rattle.feed_laws.proofs.laws.feeds_stay_sound.Goals as goal

pub returns-clause-step : goal.returns-clause-step
returns-clause-step c = feed_kept

pub returns-clause-run : goal.returns-clause-run
returns-clause-run c = run_kept
