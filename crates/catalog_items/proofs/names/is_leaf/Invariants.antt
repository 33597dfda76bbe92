use Rattle.std.proofs.Common.{◌≡◌, drop}
use Rattle.catalog_items.specs.ByRows.{has_leaf}
use Rattle.catalog_items.proofs.names.is_leaf.Given as goal

abbrev pub invariant-loop-row : goal.invariant-loop-row
invariant-loop-row l = has_leaf l.name (drop l.row-index l.rows) ≡ has_leaf l.name l.rows
