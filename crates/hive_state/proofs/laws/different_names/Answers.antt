use Rattle.hive_state.proofs.Names.{names_differ}
use Rattle.hive_state.proofs.laws.different_names.Goals as goal

pub returns-clause-states : goal.returns-clause-states
returns-clause-states c = names_differ
