use Rattle.std.proofs.Common.{◌-◌, length}
use Rattle.http_wire.specs.Scanned.{Passed}
use Rattle.http_wire.proofs.scan.find_end.Given as goal

-- the lines so far are passed
abbrev pub invariant-lines : goal.invariant-lines
invariant-lines l = Passed l.bytes l.from l.at

abbrev pub decreases-lines : goal.decreases-lines
decreases-lines l = length l.bytes - l.at
