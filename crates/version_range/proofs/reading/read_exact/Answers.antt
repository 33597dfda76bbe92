use Rattle.std.proofs.Common.{refl}
use Rattle.version_range.proofs.Precedences.{precedence_same}
use Rattle.version_range.proofs.reading.read_exact.Goals as goal

pub invariant_of-result : goal.invariant_of-result
invariant_of-result c = record {
  low_there = refl;
  high_there = refl;
  ordered = rw (c.in_ok-high.ensures, precedence_same c.in_ok-low.low) refl;
}
