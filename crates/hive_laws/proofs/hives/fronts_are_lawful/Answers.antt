use Rattle.hive_laws.proofs.Fronts.{fronts_lawful}
use Rattle.hive_laws.proofs.hives.fronts_are_lawful.Goals as goal

pub returns : goal.returns
returns c = fronts_lawful
