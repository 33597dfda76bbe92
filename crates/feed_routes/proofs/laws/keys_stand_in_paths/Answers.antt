use Rattle.feed_routes.proofs.Printed.{id_key_own, number_own, version_key_own}
use Rattle.feed_routes.proofs.laws.keys_stand_in_paths.Goals as goal

pub returns-clause-ids : goal.returns-clause-ids
returns-clause-ids c = id_key_own

pub returns-clause-versions : goal.returns-clause-versions
returns-clause-versions c = version_key_own

pub returns-clause-numbers : goal.returns-clause-numbers
returns-clause-numbers c = number_own
