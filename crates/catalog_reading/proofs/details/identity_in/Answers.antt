use Rattle.std.proofs.Common.{◌≡◌, ◌∙◌, Some, sym}
use Rattle.std.proofs.lemmas.Option.{none-some, same_Some}
use Rattle.catalog_reading.proofs.details.identity_in.Goals as goal

pub returns-in_default : goal.returns-in_default
returns-in_default c = λ d shows. absurd (none-some _ (sym c.in_default.is ∙ c.in_ok-verbatim.ensures d shows))

pub returns-in_default-2 : goal.returns-in_default-2
returns-in_default-2 c = λ d shows. absurd (none-some _ (sym c.in_default-2.is ∙ c.in_ok-id.ensures d shows))

pub returns-in_default-3 : goal.returns-in_default-3
returns-in_default-3 c = λ d shows. absurd (none-some _ (sym c.in_default-3.is ∙ c.in_ok-version.ensures d shows))

pub returns : goal.returns
returns c = λ d shows.
    let texts : c.in-Some.verbatim ≡ d.meta.verbatim = same_Some _ _ (sym c.in-Some.is ∙ c.in_ok-verbatim.ensures d shows) in
    let ids : c.in-Some-2.id ≡ d.meta.id = same_Some _ _ (sym c.in-Some-2.is ∙ c.in_ok-id.ensures d shows) in
    let versions : c.in-Some-3.version ≡ d.meta.version = same_Some _ _ (sym c.in-Some-3.is ∙ c.in_ok-version.ensures d shows) in
    λ i. Some (record { id = ids i; version = versions i; verbatim = texts i })
