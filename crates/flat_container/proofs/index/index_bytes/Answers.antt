use Rattle.std.proofs.Common.{◌≡◌, ap, ◌∙◌, false}
use Rattle.serde_json.specs.View.{view}
use Rattle.serde_json.specs.Written.{has_float, compact_text}
use Rattle.flat_container.proofs.Turns.{no_floats}
use Rattle.flat_container.specs.Documents.{content_index_object, index_text, version_data}
use Rattle.std.proofs.Common.{map}
use Rattle.flat_container.proofs.index.index_bytes.Goals as goal

pub returns : goal.returns
unfolding index_text
returns c =
    let same : view c.in_ok-value.value ≡ content_index_object (map version_data c.args.entries.now) = c.in_ok-value.ensures ∙ ap content_index_object c.in_ok-versions.ensures in
    let plain : has_float (view c.in_ok-value.value) ≡ false = ap has_float same ∙ no_floats c.args.entries.now in
    c.of.ensures ∙ c.in_ok-bytes.ensures.text plain ∙ ap compact_text same
