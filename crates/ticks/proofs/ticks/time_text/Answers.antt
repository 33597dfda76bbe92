use Rattle.std.proofs.Common.{◌≡◌, ◌++◌, ◌<◌, ◌/◌, ◌%◌, rules, IfOk, string_bytes, arith}
use Rattle.std.specs.Prelude.{codes}
use Rattle.ticks.proofs.Digits.{padded, padded-2, padded-7}
use Rattle.ticks.proofs.ticks.time_text.Goals as goal

pub returns : goal.returns
returns c =
    let t = c.args.since_midnight in
    let hour : t / 36_000_000_000 < 100 = omega arith in
    let minute : t / 600_000_000 % 60 < 100 = omega arith in
    let second : t / 10_000_000 % 60 < 100 = omega arith in
    let ticks : t % 10_000_000 < 10_000_000 = omega arith in
    let shown : IfOk c.format.result (λ s. string_bytes s ≡ padded 2 (t / 36_000_000_000) ++ (codes ":" ++ (padded 2 (t / 600_000_000 % 60) ++ (codes ":" ++ (padded 2 (t / 10_000_000 % 60) ++ (codes "." ++ padded 7 (t % 10_000_000))))))) = search rules in
    rw (padded-2 (t / 36_000_000_000) hour, padded-2 (t / 600_000_000 % 60) minute, padded-2 (t / 10_000_000 % 60) second, padded-7 (t % 10_000_000) ticks) at shown
