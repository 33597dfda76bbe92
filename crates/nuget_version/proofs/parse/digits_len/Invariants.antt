use Rattle.std.proofs.Common.{◌≡◌, ◌≤◌, ◌+◌, length}
use Rattle.std.specs.Fmt.{decimal}
use Rattle.nuget_version.proofs.parse.digits_len.Given as goal

-- the digits so far and those of what is left are those of the number
abbrev pub invariant-loop-left : goal.invariant-loop-left
invariant-loop-left l = (l.len + length (decimal l.left) ≡ length (decimal l.number) + 1) × (l.left ≤ l.number)

abbrev pub decreases-loop-left : goal.decreases-loop-left
decreases-loop-left l = l.left
