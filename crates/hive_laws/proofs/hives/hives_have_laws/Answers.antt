use Rattle.hive_laws.proofs.EveryHive.{fold_laws}
use Rattle.hive_laws.proofs.hives.hives_have_laws.Goals as goal

pub returns : goal.returns
returns g c = λ base cs lawful. fold_laws g.H.Hive.keeps g.H.Hive.makes base g.met.H.Hive.empty g.met.H.Hive.owned g.met.H.Hive.staged cs lawful
