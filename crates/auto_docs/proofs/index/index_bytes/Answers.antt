use Rattle.std.proofs.Common.{◌≡◌, ap, map, ◌∙◌, false}
use Rattle.serde_json.specs.View.{view}
use Rattle.serde_json.specs.Written.{has_float, compact_text}
use Rattle.auto_docs.proofs.Turns.{no_floats}
use Rattle.auto_docs.specs.Documents.{auto_index_object, index_text, last_id, auto_version_data}
use Rattle.auto_docs.proofs.index.index_bytes.Goals as goal

pub returns : goal.returns
unfolding index_text
returns c =
    let same : view c.in_ok-value.value ≡ auto_index_object (last_id c.args.entries.now) (map auto_version_data c.args.entries.now) =
    c.in_ok-value.ensures ∙ (λ i. auto_index_object (c.last_id.ensures i) (c.in_ok-versions.ensures i)) in
    let plain : has_float (view c.in_ok-value.value) ≡ false = ap has_float same ∙ no_floats (last_id c.args.entries.now) c.args.entries.now in
    c.of.ensures ∙ c.in_ok-bytes.ensures.text plain ∙ ap compact_text same
