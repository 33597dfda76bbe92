use Rattle.std.proofs.Common.{◌≡◌, ◌≤◌, ◌+◌, length, drop}
use Rattle.ticks.specs.Scan.{fitting_len}
use Rattle.ticks.proofs.form.fitting.Given as goal

-- so far each byte has fitted
abbrev pub invariant-loop-at : goal.invariant-loop-at
invariant-loop-at l =
    (l.at ≤ length l.text) × (l.at + fitting_len (drop l.at l.form) (drop l.at l.text) ≡ fitting_len l.form l.text)
