use Rattle.std.proofs.Common.{◌≡◌, ◌≤◌, ◌+◌, ◌-◌, length, drop}
use Rattle.http_wire.specs.Lines.{blank}
use Rattle.http_wire.proofs.scan.skip_empty.Given as goal

-- what is left has the other empty lines
abbrev pub invariant-lines : goal.invariant-lines
invariant-lines l = record {
  low : l.from ≤ l.at;
  high : l.at ≤ length l.bytes;
  rest : l.from + blank (drop l.from l.bytes) ≡ l.at + blank (drop l.at l.bytes);
}

abbrev pub decreases-lines : goal.decreases-lines
decreases-lines l = length l.bytes - l.at
