use Rattle.std.proofs.Common.{[]}
use Rattle.catalog_doc.specs.Verdict.{first_reason, twice}
use Rattle.catalog_rows.proofs.Places.{Seeks}
use Rattle.catalog_rows.proofs.shape.first_twice.Given as goal

abbrev pub invariant-loop-at : goal.invariant-loop-at
invariant-loop-at l = Seeks twice l.changes l.at (first_reason twice [] 0 l.changes)
