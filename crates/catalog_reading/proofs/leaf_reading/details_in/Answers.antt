use Rattle.std.proofs.Common.{◌≡◌, ◌∙◌, Some, sym, ap}
use Rattle.std.proofs.lemmas.Option.{none-some, same_Some}
use Rattle.pkg_meta.specs.declared.item.Details.{Details}
use Rattle.pkg_meta.specs.declared.item.Item.TheVariants as the
use Rattle.catalog_reading.proofs.Shows.{leaf_shows}
use Rattle.catalog_reading.proofs.leaf_reading.details_in.Goals as goal

pub returns-in_default : goal.returns-in_default
returns-in_default c = λ base n p stamp d v is. absurd (none-some _ (sym c.in_default.is ∙ c.in_ok-details.ensures.shown d v (leaf_shows base n p stamp d _ is)))

pub returns : goal.returns
returns c = λ base n p stamp d v is.
    let same : c.in-Some.details ≡ d = same_Some _ _ (sym c.in-Some.is ∙ c.in_ok-details.ensures.shown d v (leaf_shows base n p stamp d _ is)) in
    ap (λ (e : Details). Some (the.Details e)) same
