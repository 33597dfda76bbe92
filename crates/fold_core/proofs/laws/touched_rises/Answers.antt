use Rattle.fold_core.proofs.Touches.{touched_rises, touched_stays, touched_within}
use Rattle.fold_core.proofs.laws.touched_rises.Goals as goal

pub returns : goal.returns
returns c = record { within = touched_within; rises = touched_rises; stays = touched_stays }
