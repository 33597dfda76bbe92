use Rattle.std.proofs.Common.{◌≡◌, ◌∙◌, ap, false}
use Rattle.serde_json.specs.View.{view}
use Rattle.serde_json.specs.Written.{has_float, compact_text}
use Rattle.hive_state.specs.State.{state_text}
use Rattle.hive_state.proofs.Trees.{state_plain}
use Rattle.hive_state.proofs.writing.state_bytes.Goals as goal

pub returns : goal.returns
unfolding state_text
returns c =
    let plain : has_float (view c.in_ok-value.value) ≡ false = ap has_float c.in_ok-value.ensures ∙ state_plain c.args.state.now in
    c.of.ensures ∙ c.in_ok-bytes.ensures.text plain ∙ ap compact_text c.in_ok-value.ensures
