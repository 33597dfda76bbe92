use Rattle.std.proofs.Common.{◌≡◌, ◌≤◌, ◌-◌, length, IfSome}
use Rattle.feed_base.proofs.Taken.{Taken}
use Rattle.feed_base.proofs.take.read_all.Given as goal

-- what is taken is what the source had first, and within the limit; no read failed
abbrev pub invariant-pieces : goal.invariant-pieces
invariant-pieces g l = record {
  told : IfSome (g.S.Source.left l.fn.source) (Taken (g.S.Source.left l.source) (length l.taken.items) l.taken.items);
  size : length l.taken.items ≤ l.limit;
  faults : g.S.Source.faults l.source ≡ g.S.Source.faults l.fn.source;
}

abbrev pub decreases-pieces : goal.decreases-pieces
decreases-pieces g l = l.limit - length l.taken.items
