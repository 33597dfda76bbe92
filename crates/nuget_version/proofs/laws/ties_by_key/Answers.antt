use Rattle.nuget_version.proofs.Order.{keys_tie, tie_keys}
use Rattle.nuget_version.proofs.laws.ties_by_key.Goals as goal

pub returns : goal.returns
returns c = λ u v. (tie_keys u v, keys_tie u v)
