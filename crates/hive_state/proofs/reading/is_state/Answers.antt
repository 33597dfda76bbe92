use Rattle.std.proofs.Common.{◌∙◌, ap}
use Rattle.serde_json.specs.Written.{has_float}
use Rattle.hive_state.proofs.Trees.{state_plain}
use Rattle.hive_state.proofs.reading.is_state.Goals as goal

pub is_text_of-requires : goal.is_text_of-requires
is_text_of-requires c = ap has_float c.in_ok-again.ensures ∙ state_plain c.args.state.now
