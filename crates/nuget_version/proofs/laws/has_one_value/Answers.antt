use Rattle.nuget_version.proofs.OneValue.{one_value}
use Rattle.nuget_version.proofs.laws.has_one_value.Goals as goal

pub returns : goal.returns
returns c = λ text u v su sv. one_value text u v su sv
