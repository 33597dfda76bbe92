use Rattle.std.proofs.Common.{◌≡◌, Some}
use Rattle.std.proofs.lemmas.Option.{none-some, same_Some}
use Rattle.catalog_reading.proofs.details.marks_in.Goals as goal

pub returns-in_err-listed : goal.returns-in_err-listed
returns-in_err-listed c = λ d v shows. absurd (none-some _ (c.in_err-listed.ensures d shows))

pub returns-in_err-size : goal.returns-in_err-size
returns-in_err-size c = λ d v shows. absurd (none-some _ (c.in_err-size.ensures d shows))

pub returns : goal.returns
returns c = λ d v shows.
    let flags : c.in_ok-listed.listed ≡ d.listed = same_Some _ _ (c.in_ok-listed.ensures d shows) in
    let moments : c.in_ok-created.created ≡ d.created = same_Some _ _ (c.in_ok-created.ensures d v shows) in
    let origins = same_Some _ _ (c.in_ok-origin.ensures d v shows) in
    let sizes : c.in_ok-size.size ≡ d.size = same_Some _ _ (c.in_ok-size.ensures d shows) in
    λ i. Some (record { listed = flags i; created = moments i; origin = origins i; size = sizes i })
