use Rattle.std.proofs.Common.{◌≡◌, ◌<◌, ◌^◌, ◌∙◌, ap, sym, subst, Some, None, Option, Result, Ok, List, ℕ}
use Rattle.std.specs.Int.{to_be_bytes, w128}
use Rattle.std.specs.Result.{result_ok}
use Rattle.std.proofs.lemmas.Option.{none-some, same_Some}
use Rattle.uuid.proofs.RoundTrips.{parse_gives}
use Rattle.catalog_reading.proofs.CommitIds.{id_bytes, id_number, narrowed}
use Rattle.catalog_reading.proofs.fields.commit_number.Goals as goal

-- what the parse of an id leaves
found_is : {E : Type 0} (r : Result (List ℕ) E) (o : Option (List ℕ)) (bytes : List ℕ) → r ≡ Ok bytes → o ≡ result_ok r → o ≡ Some bytes
found_is r o bytes read is = is ∙ ap result_ok read

pub returns-in_err-id : goal.returns-in_err-id
returns-in_err-id c = λ n fits is.
    let read = parse_gives c.parse_str.result c.args.text.now (to_be_bytes w128 n) c.parse_str.ensures.ok c.parse_str.ensures.bytes (id_bytes n c.args.text.now is) in
    absurd (none-some (to_be_bytes w128 n) (found_is c.parse_str.result None (to_be_bytes w128 n) read c.in_err-id.ensures.value))

pub returns : goal.returns
returns c = λ n fits is.
    let read = parse_gives c.parse_str.result c.args.text.now (to_be_bytes w128 n) c.parse_str.ensures.ok c.parse_str.ensures.bytes (id_bytes n c.args.text.now is) in
    let bytes : c.in_ok-id.id ≡ to_be_bytes w128 n = same_Some c.in_ok-id.id (to_be_bytes w128 n) (found_is c.parse_str.result (Some c.in_ok-id.id) (to_be_bytes w128 n) read c.in_ok-id.ensures.value) in
    let number : c.as_u128.result ≡ n = c.as_u128.ensures ∙ id_number n c.in_ok-id.id fits bytes in
    narrowed c.try_from.result c.as_u128.result c.ok-2.result c.try_from.ensures c.ok-2.ensures.value (subst (λ (m : ℕ). m < 2 ^ 32) (sym number) fits) ∙ ap Some number
