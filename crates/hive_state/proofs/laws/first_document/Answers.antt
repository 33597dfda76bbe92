use Rattle.hive_state.proofs.First.{first_is}
use Rattle.hive_state.proofs.laws.first_document.Goals as goal

pub returns : goal.returns
returns c = first_is
