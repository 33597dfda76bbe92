use Rattle.version_range.proofs.Worked.{worked}
use Rattle.version_range.proofs.laws.worked_refusals.Goals as goal

pub returns : goal.returns
returns c = worked
