use Rattle.std.proofs.Common.{◌≡◌, ap, ◌∙◌, false}
use Rattle.serde_json.specs.View.{view}
use Rattle.serde_json.specs.Written.{has_float, compact_text}
use Rattle.reg_docs.specs.Documents.{registration_index_text}
use Rattle.reg_docs.proofs.NoFloats.{index_plain}
use Rattle.reg_docs.proofs.index.registration_index_bytes.Goals as goal

pub returns : goal.returns
unfolding registration_index_text
returns c =
    let plain : has_float (view c.in_ok-value.value) ≡ false =
    ap has_float c.in_ok-value.ensures ∙ index_plain c.args.base.now c.args.root.now c.args.key.now c.args.touched c.args.touched_stamp c.args.entries.now in
    c.of.ensures ∙ c.in_ok-bytes.ensures.text plain ∙ ap compact_text c.in_ok-value.ensures
