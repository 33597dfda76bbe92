use Rattle.std.proofs.Common.{◌∙◌, ap}
use Rattle.serde_json.specs.Data.{string}
use Rattle.serde_json.specs.View.{view}
use Rattle.pkg_meta.specs.Items.{is_gone}
use Rattle.catalog_reading.specs.Shown.{leaf_kind}
use Rattle.catalog_reading.proofs.Leaves.{first_of_one, leaf_type}
use Rattle.catalog_reading.proofs.Readable.{is_read, not_read}
use Rattle.catalog_reading.proofs.leaf_reading.is_gone_in.Goals as goal

pub returns-in-Some : goal.returns-in-Some
returns-in-Some c = λ base n p stamp it is.
    let one = first_of_one c.items_in.result.now (string (leaf_kind (is_gone it))) (c.items_in.ensures ∙ leaf_type base n p stamp it (view c.args.value.now) is) in
    c.is_delete.ensures (is_gone it) (ap view (is_read _ _ _ _ c.in-Some.is (c.first_of.ensures ∙ one.1)) ∙ one.2)

pub returns-in-None : goal.returns-in-None
returns-in-None c = λ base n p stamp it is.
    let one = first_of_one c.items_in.result.now (string (leaf_kind (is_gone it))) (c.items_in.ensures ∙ leaf_type base n p stamp it (view c.args.value.now) is) in
    absurd (not_read _ _ _ c.in-None.is (c.first_of.ensures ∙ one.1))
