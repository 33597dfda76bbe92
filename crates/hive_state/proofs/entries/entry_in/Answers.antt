use Rattle.std.proofs.Common.{◌≡◌, ◌∙◌, Some, ap, codes, sym}
use Rattle.std.proofs.lemmas.Option.{same_Some}
use Rattle.serde_json.specs.Find.{get}
use Rattle.hive_state.proofs.entries.entry_in.Goals as goal

pub returns : goal.returns
returns c = λ e v seen.
    let numbers : c.in-Some.number ≡ e.number = same_Some _ _ (sym c.in-Some.is ∙ c.number_in.ensures e.number v.number (ap (get (codes "number")) seen)) in
    let places : c.in-Some-number_in.place ≡ e.place =
    same_Some _ _ (sym c.in-Some-number_in.is ∙ c.number_in-2.ensures e.place v.place (ap (get (codes "place")) seen)) in
    let details : c.in-Some-2.details ≡ e.details = same_Some _ _ (sym c.in-Some-2.is ∙ c.in_ok-details.ensures e v.details seen) in
    λ i. Some (record { number = numbers i; place = places i; details = details i })
