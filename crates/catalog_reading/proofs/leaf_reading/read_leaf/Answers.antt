use Rattle.std.proofs.Common.{◌≡◌, ◌<◌, ◌^◌, ◌∙◌, ℕ, List, Option, Some, sym}
use Rattle.std.proofs.lemmas.Option.{none-some, same_Some}
use Rattle.std.specs.Option.{option_map}
use Rattle.serde_json.specs.Data.{Data}
use Rattle.serde_json.specs.View.{view}
use Rattle.serde_json.specs.Written.{compact_text}
use Rattle.json_law.specs.Fits.{IsReadable}
use Rattle.std.specs.Str.{IsUtf8}
use Rattle.pkg_meta.specs.declared.item.Item.{Item}
use Rattle.catalog_doc.specs.Documents.{leaf_data, leaf_text}
use Rattle.catalog_doc.specs.Reading.{IsItemValue}
use Rattle.catalog_reading.proofs.LeafTexts.{is_compact_leaf, leaf_readable}
use Rattle.catalog_reading.proofs.Readable.{differs, is_read, not_read}
use Rattle.catalog_reading.proofs.leaf_reading.read_leaf.Goals as goal

-- the value of such bytes
its_value : {V : Type 0} (seen : V → Data) (found : Option V) (bytes base : List ℕ) (n p stamp : ℕ) (it : Item)
    → ((leaf : Data) → IsReadable leaf → bytes ≡ compact_text leaf → option_map seen found ≡ Some leaf)
    → IsUtf8 base → n < 2 ^ 32 → p < 2 ^ 32 → IsItemValue it → bytes ≡ leaf_text base n p stamp it → option_map seen found ≡ Some (leaf_data base n p stamp it)
its_value seen found bytes base n p stamp it compact text fits other v is =
    compact (leaf_data base n p stamp it) (leaf_readable base n p stamp it text fits other v) (is_compact_leaf bytes base n p stamp it is)

pub returns-in_default-clause-damaged : goal.returns-in_default-clause-damaged
returns-in_default-clause-damaged c = λ err stamp it moment v is.
    not_read view _ (leaf_data c.args.base.now c.args.number c.args.place stamp it) c.in_default.is
    (its_value view _ c.args.bytes.now c.args.base.now c.args.number c.args.place stamp it c.in_ok-value.ensures.compact c.utf8.base c.ranges.number.fits c.ranges.place.fits v is)

pub returns-in_default-stamp_in-clause-damaged : goal.returns-in_default-stamp_in-clause-damaged
returns-in_default-stamp_in-clause-damaged c = λ err stamp it moment v is.
    let read = its_value view _ c.args.bytes.now c.args.base.now c.args.number c.args.place stamp it c.in_ok-value.ensures.compact c.utf8.base c.ranges.number.fits c.ranges.place.fits v is in
    let leaf = is_read view _ c.in-Some.value (leaf_data c.args.base.now c.args.number c.args.place stamp it) c.in-Some.is read in
    none-some stamp (sym c.in_default-stamp_in.is ∙ c.stamp_in.ensures c.args.base.now c.args.number c.args.place stamp it moment leaf)

pub returns-in_default-2-clause-damaged : goal.returns-in_default-2-clause-damaged
returns-in_default-2-clause-damaged c = λ err stamp it moment v is.
    let read = its_value view _ c.args.bytes.now c.args.base.now c.args.number c.args.place stamp it c.in_ok-value.ensures.compact c.utf8.base c.ranges.number.fits c.ranges.place.fits v is in
    let leaf = is_read view _ c.in-Some.value (leaf_data c.args.base.now c.args.number c.args.place stamp it) c.in-Some.is read in
    none-some it (sym c.in_default-2.is ∙ c.in_ok-item.ensures c.args.base.now c.args.number c.args.place stamp it v leaf)

pub returns-then-is_same-clause-exact : goal.returns-then-is_same-clause-exact
returns-then-is_same-clause-exact c = λ stamp it moment v is.
    let read = its_value view _ c.args.bytes.now c.args.base.now c.args.number c.args.place stamp it c.in_ok-value.ensures.compact c.utf8.base c.ranges.number.fits c.ranges.place.fits v is in
    let leaf = is_read view _ c.in-Some.value (leaf_data c.args.base.now c.args.number c.args.place stamp it) c.in-Some.is read in
    let stamps : c.in-Some-stamp_in.stamp ≡ stamp = same_Some _ _ (sym c.in-Some-stamp_in.is ∙ c.stamp_in.ensures c.args.base.now c.args.number c.args.place stamp it moment leaf) in
    let items : c.in-Some-2.item ≡ it = same_Some _ _ (sym c.in-Some-2.is ∙ c.in_ok-item.ensures c.args.base.now c.args.number c.args.place stamp it v leaf) in
    (stamps, items)

pub returns-clause-damaged : goal.returns-clause-damaged
returns-clause-damaged c = λ err stamp it moment v is.
    let read = its_value view _ c.args.bytes.now c.args.base.now c.args.number c.args.place stamp it c.in_ok-value.ensures.compact c.utf8.base c.ranges.number.fits c.ranges.place.fits v is in
    let leaf = is_read view _ c.in-Some.value (leaf_data c.args.base.now c.args.number c.args.place stamp it) c.in-Some.is read in
    let stamps : c.in-Some-stamp_in.stamp ≡ stamp = same_Some _ _ (sym c.in-Some-stamp_in.is ∙ c.stamp_in.ensures c.args.base.now c.args.number c.args.place stamp it moment leaf) in
    let items : c.in-Some-2.item ≡ it = same_Some _ _ (sym c.in-Some-2.is ∙ c.in_ok-item.ensures c.args.base.now c.args.number c.args.place stamp it v leaf) in
    differs c.if-is_same.false (c.is_same.ensures.1 (c.as_slice.ensures ∙ c.in_ok-again.ensures
    ∙ (λ i. leaf_text c.args.base.now c.args.number c.args.place (stamps i) (items i)) ∙ sym is))
