use Rattle.nuget_version.proofs.Order.{precedence_total}
use Rattle.nuget_version.proofs.laws.precedence_is_total.Goals as goal

pub returns : goal.returns
returns c = precedence_total
