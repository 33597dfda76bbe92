use Rattle.std.proofs.Common.{◌≡◌, drop}
use Rattle.catalog_items.specs.Leaves.{row_with}
use Rattle.catalog_items.proofs.items.row_with.Given as goal

abbrev pub invariant-loop-row : goal.invariant-loop-row
invariant-loop-row l = row_with l.number l.place (drop l.row-index l.rows) ≡ row_with l.number l.place l.rows
