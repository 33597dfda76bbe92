use Rattle.version_range.proofs.FromText.{one_answer}
use Rattle.version_range.proofs.laws.has_one_reason.Goals as goal

pub returns : goal.returns
returns c = one_answer
