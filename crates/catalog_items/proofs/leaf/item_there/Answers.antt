use Rattle.std.proofs.Common.{◌≡◌, ◌≤◌, ◌∙◌, Err, None, Some, ap, arith, sym, true}
use Rattle.std.specs.Prelude.{if◌then◌else◌}
use Rattle.catalog_items.proofs.leaf.item_there.Goals as goal

pub returns-in-Ok-clause-exact : goal.returns-in-Ok-clause-exact
returns-in-Ok-clause-exact c = λ it v is.
    let fits : c.args.row.now.stamp ≤ 3_155_378_975_999_999_999 = omega (arith, c.number-moment.ensures.value, c.number-moment.ensures.within) in
    let read = c.in-Ok.ensures.exact c.args.row.now.stamp it fits v is in
    let there : c.is_moment.result ≡ true = c.is_moment.ensures.1 (read.0 ∙ sym c.number-moment.ensures.value) in
    c.item_if.ensures ∙ (λ i. if there i then Some (read.1 i) else None)

pub returns-in-Err-Damaged-clause-exact : goal.returns-in-Err-Damaged-clause-exact
returns-in-Err-Damaged-clause-exact c = λ it v is.
    let fits : c.args.row.now.stamp ≤ 3_155_378_975_999_999_999 = omega (arith, c.number-moment.ensures.value, c.number-moment.ensures.within) in
    absurd (c.in-Err-Damaged.ensures.damaged (ap Err c.in-Err-Damaged.field-0-is) c.args.row.now.stamp it fits v is)
