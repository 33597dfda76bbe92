use Rattle.std.proofs.Common.{◌≡◌, ◌+◌, drop, length, take}
use Rattle.std.specs.List.{All}
use Rattle.catalog_rows.specs.Latest.{IsLatestOf, IsEntered}
use Rattle.catalog_rows.proofs.latest.Latest.note_all.Given as goal

abbrev pub invariant-loop-key : goal.invariant-loop-key
invariant-loop-key l = record {
  next : (goal.iterator-loop-key).can_next l.key-iterator;
  finite : (goal.iterator-loop-key).is_finite l.key-iterator;
  at : l.at ≡ l.fn.first + length l.yielded;
  latest : IsLatestOf (take l.fn.first l.rows) l.fn.self → IsLatestOf (take l.at l.rows) l.self;
  entered : All (IsEntered l.self) (drop l.fn.first l.rows);
}
