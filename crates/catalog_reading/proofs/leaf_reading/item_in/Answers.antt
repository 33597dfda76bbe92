use Rattle.std.proofs.Common.{◌≡◌, ◌∙◌, IfOk, Some, false, sym, true}
use Rattle.serde_json.specs.View.{view}
use Rattle.pkg_meta.specs.Items.{is_gone}
use Rattle.pkg_meta.specs.declared.item.Item.{Item}
use Rattle.catalog_doc.specs.Documents.{leaf_data}
use Rattle.catalog_doc.specs.Reading.{IsItemValue}
use Rattle.catalog_reading.proofs.Leaves.{if_details, if_gone}
use Rattle.catalog_reading.proofs.leaf_reading.item_in.Goals as goal

pub returns-then-is_gone_in : goal.returns-then-is_gone_in
returns-then-is_gone_in c = λ base n p stamp it v is.
    let gone : is_gone it ≡ true = sym (c.is_gone_in.ensures base n p stamp it is) ∙ c.if-is_gone_in.true in
    if_gone (λ (x : Item). view c.args.value.now ≡ leaf_data base n p stamp x → IfOk c.gone_in.result (λ found. found ≡ Some x)) it gone
    (λ i w e. c.gone_in.ensures base n p stamp i w e) is

pub returns-else-is_gone_in : goal.returns-else-is_gone_in
returns-else-is_gone_in c = λ base n p stamp it v is.
    let there : is_gone it ≡ false = sym (c.is_gone_in.ensures base n p stamp it is) ∙ c.if-is_gone_in.false in
    if_details (λ (x : Item). IsItemValue x → view c.args.value.now ≡ leaf_data base n p stamp x → IfOk c.details_in.result (λ found. found ≡ Some x)) it there
    (λ d w e. c.details_in.ensures base n p stamp d w e) v is
