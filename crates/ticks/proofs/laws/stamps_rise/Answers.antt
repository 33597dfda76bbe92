use Rattle.ticks.proofs.Rising.{stamp_text-rises}
use Rattle.ticks.proofs.laws.stamps_rise.Goals as goal

pub returns : goal.returns
returns c m n less within = stamp_text-rises m n less within
