use Rattle.nuget_version.proofs.Forms.{full_fits, key_fits, normal_fits}
use Rattle.nuget_version.proofs.laws.forms_fit.Goals as goal

pub returns : goal.returns
returns c = λ v. (normal_fits v, full_fits v, key_fits v)
