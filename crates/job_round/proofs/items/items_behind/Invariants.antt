use Rattle.job_round.proofs.Placing.{ItemsSoFar}
use Rattle.job_round.proofs.items.items_behind.Given as goal

-- the items of the rows so far
abbrev pub invariant-loop-row : goal.invariant-loop-row
invariant-loop-row g l = ItemsSoFar l.fn.catalog l.catalog (g.B.Blobs.seen l.fn.catalog.area) (g.B.Blobs.seen l.catalog.area) l.fn.rows l.fn.at l.row-index l.items
