use Rattle.hive_state.proofs.Same.{states_differ}
use Rattle.hive_state.proofs.laws.different_states.Goals as goal

pub returns : goal.returns
returns c = states_differ
