use Rattle.package_id.proofs.Reasons.{one_reason}
use Rattle.package_id.proofs.laws.reasons_exclude.Goals as goal

pub returns : goal.returns
returns c = one_reason
