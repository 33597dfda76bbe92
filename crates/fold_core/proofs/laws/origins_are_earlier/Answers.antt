use Rattle.fold_core.proofs.Origins.{entries_before}
use Rattle.fold_core.proofs.laws.origins_are_earlier.Goals as goal

pub returns : goal.returns
returns c = entries_before
