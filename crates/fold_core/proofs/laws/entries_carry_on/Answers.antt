use Rattle.fold_core.proofs.Carries.{carries}
use Rattle.fold_core.proofs.laws.entries_carry_on.Goals as goal

pub returns : goal.returns
returns c = carries
