use Rattle.std.proofs.Common.{List, take}
use Rattle.std.specs.List.{All}
use Rattle.catalog_doc.specs.declared.row.Row.{Row}
use Rattle.catalog_rows.specs.Latest.{AreKeysOf, IsLatestOf, IsEntered}
use Rattle.catalog_rows.proofs.latest.Latest.enter_all.Given as goal

abbrev pub invariant-loop-row : goal.invariant-loop-row
invariant-loop-row l = record {
  keys : AreKeysOf l.keys.items (take l.row-index l.rows);
  entered : All (IsEntered l.self) (take l.row-index l.rows);
  keeps : (other : Row) → IsEntered l.fn.self other → IsEntered l.self other;
  same : (rows : List Row) → IsLatestOf rows l.fn.self → IsLatestOf rows l.self;
}
