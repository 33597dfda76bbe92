use Rattle.std.proofs.Common.{◌≡◌, ap, ◌∙◌, false}
use Rattle.serde_json.specs.View.{view}
use Rattle.serde_json.specs.Written.{has_float, compact_text}
use Rattle.catalog_doc.specs.Documents.{index_text}
use Rattle.catalog_doc.proofs.Lists.{no_floats_in_index}
use Rattle.catalog_doc.proofs.index.index_bytes.Goals as goal

pub returns : goal.returns
unfolding index_text
returns c =
    let plain : has_float (view c.in_ok-value.value) ≡ false = ap has_float c.in_ok-value.ensures ∙ no_floats_in_index c.args.base.now c.args.heads.now in
    c.of.ensures ∙ c.in_ok-bytes.ensures.text plain ∙ ap compact_text c.in_ok-value.ensures
