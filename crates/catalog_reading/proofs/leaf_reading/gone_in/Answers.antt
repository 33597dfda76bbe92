use Rattle.std.proofs.Common.{◌≡◌, ◌∙◌, Some, sym}
use Rattle.std.proofs.lemmas.Option.{none-some, same_Some}
use Rattle.pkg_meta.specs.declared.item.Item.TheVariants as the
use Rattle.catalog_reading.proofs.leaf_reading.gone_in.Goals as goal

pub returns-in_default : goal.returns-in_default
returns-in_default c = λ base n p stamp i v is. absurd (none-some _ (sym c.in_default.is ∙ c.in_ok-id.ensures base n p stamp i v is))

pub returns-in_default-2 : goal.returns-in_default-2
returns-in_default-2 c = λ base n p stamp i v is. absurd (none-some _ (sym c.in_default-2.is ∙ c.in_ok-version.ensures base n p stamp i v is))

pub returns : goal.returns
returns c = λ base n p stamp i v is.
    let ids : c.in-Some.id ≡ i = same_Some _ _ (sym c.in-Some.is ∙ c.in_ok-id.ensures base n p stamp i v is) in
    let versions : c.in-Some-2.version ≡ v = same_Some _ _ (sym c.in-Some-2.is ∙ c.in_ok-version.ensures base n p stamp i v is) in
    λ j. Some (the.Gone (ids j) (versions j))
