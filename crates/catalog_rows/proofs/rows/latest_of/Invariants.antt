use Rattle.std.proofs.Common.{take}
use Rattle.catalog_rows.specs.Latest.{IsLatestOf}
use Rattle.catalog_rows.proofs.rows.latest_of.Given as goal

abbrev pub invariant-loop-at : goal.invariant-loop-at
invariant-loop-at l = IsLatestOf (take l.at l.rows) l.latest
