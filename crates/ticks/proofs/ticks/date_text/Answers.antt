use Rattle.std.proofs.Common.{◌≡◌, ◌++◌, rules, IfOk, string_bytes}
use Rattle.std.specs.Prelude.{codes}
use Rattle.ticks.proofs.Digits.{padded, padded-2, padded-4}
use Rattle.ticks.proofs.ticks.date_text.Goals as goal

pub returns : goal.returns
returns c =
    let d = c.args.date in
    let shown : IfOk c.format.result (λ t. string_bytes t ≡ padded 4 d.year ++ (codes "-" ++ (padded 2 d.month ++ (codes "-" ++ padded 2 d.day)))) = search rules in
    rw (padded-4 d.year c.requires.year, padded-2 d.month c.requires.month, padded-2 d.day c.requires.day) at shown
