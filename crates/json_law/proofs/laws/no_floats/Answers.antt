use Rattle.json_law.proofs.Back.{has_float-fits}
use Rattle.json_law.proofs.laws.no_floats.Goals as goal

pub returns : goal.returns
returns c = has_float-fits
