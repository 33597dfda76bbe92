use Rattle.std.proofs.Common.{◌≡◌, ap, ◌∙◌, false}
use Rattle.serde_json.specs.View.{view}
use Rattle.serde_json.specs.Written.{has_float, compact_text}
use Rattle.pkg_meta.specs.declared.item.Item.TheVariants as the
use Rattle.catalog_doc.specs.Documents.{leaf_text}
use Rattle.catalog_doc.proofs.LeafData.{leaf_plain}
use Rattle.catalog_doc.proofs.leaf.details_bytes.Goals as goal

pub returns : goal.returns
unfolding leaf_text
returns c =
    let plain : has_float (view c.in_ok-value.value) ≡ false = ap has_float c.in_ok-value.ensures ∙ leaf_plain c.args.base.now c.args.number c.args.place c.args.stamp (the.Details c.args.details.now) in
    c.of.ensures ∙ c.in_ok-bytes.ensures.text plain ∙ ap compact_text c.in_ok-value.ensures
