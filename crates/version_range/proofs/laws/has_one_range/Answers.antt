use Rattle.version_range.proofs.OneRange.{one_range}
use Rattle.version_range.proofs.laws.has_one_range.Goals as goal

pub returns : goal.returns
returns c = one_range
