use Rattle.std.proofs.Common.{◌≡◌, ◌++◌, string_bytes, rules}
use Rattle.std.specs.Prelude.{codes}
use Rattle.ticks.specs.Stamp.{stamp_text}
use Rattle.ticks.proofs.ticks.Ticks.print.Goals as goal

pub returns : goal.returns
unfolding stamp_text
returns c =
    let date = c.date_of-date.ensures in
    let shown : string_bytes c.in_ok-text.text ≡ string_bytes c.in_ok-date.date ++ (codes "T" ++ (string_bytes c.in_ok-time.time ++ codes "Z")) = search rules in
    rw (c.of.ensures, shown, c.in_ok-date.ensures, c.in_ok-time.ensures, date.year, date.month, date.day, ← c.self.view_is)
