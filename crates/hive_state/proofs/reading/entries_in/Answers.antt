use Rattle.std.proofs.Common.{◌∙◌}
use Rattle.serde_json.specs.View.{view}
use Rattle.hive_state.proofs.Shown.{entries_at}
use Rattle.hive_state.proofs.reading.entries_in.Goals as goal

pub returns : goal.returns
returns c = λ s is seen. c.entries_of.ensures s.entries is.entries (c.items_in.ensures ∙ entries_at s (view c.args.value.now) seen)
