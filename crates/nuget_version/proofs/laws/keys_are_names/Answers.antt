use Rattle.nuget_version.proofs.Forms.{key_bytes, key_filled}
use Rattle.nuget_version.proofs.laws.keys_are_names.Goals as goal

pub returns : goal.returns
returns c = λ v. (key_filled v, key_bytes v)
