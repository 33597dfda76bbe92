use Rattle.std.proofs.Common.{◌≡◌, ◌++◌, drop}
use Rattle.catalog_items.specs.ByRows.{rows_above}
use Rattle.catalog_items.proofs.rows.rows_above.Given as goal

abbrev pub invariant-loop-row : goal.invariant-loop-row
invariant-loop-row l = l.above ++ rows_above l.cursor (drop l.row-index l.rows) ≡ rows_above l.cursor l.rows
