use Rattle.std.proofs.Common.{◌≡◌, ◌∙◌, Some, sym}
use Rattle.std.proofs.lemmas.Option.{none-some, same_Some}
use Rattle.catalog_reading.proofs.dependencies.dep_in.Goals as goal

pub returns-in_default : goal.returns-in_default
returns-in_default c = λ dep is. absurd (none-some _ (sym c.in_default.is ∙ c.in_ok-id.ensures dep is))

pub returns-in_default-2 : goal.returns-in_default-2
returns-in_default-2 c = λ dep is. absurd (none-some _ (sym c.in_default-2.is ∙ c.in_ok-range.ensures dep is))

pub returns : goal.returns
returns c = λ dep is.
    let ids : c.in-Some.id ≡ dep.id = same_Some _ _ (sym c.in-Some.is ∙ c.in_ok-id.ensures dep is) in
    let ranges : c.in-Some-2.range ≡ dep.range = same_Some _ _ (sym c.in-Some-2.is ∙ c.in_ok-range.ensures dep is) in
    λ i. Some (record { id = ids i; range = ranges i })
