use Rattle.job_round.proofs.Taking.{PassesSoFar}
use Rattle.job_round.proofs.passes.passes.Given as goal

-- the passes so far were made
abbrev pub invariant-loop-id : goal.invariant-loop-id
invariant-loop-id g l = PassesSoFar g.H.Hive.keeps g.H.Hive.makes l.fn.catalog l.catalog (g.B.Blobs.seen l.fn.catalog.area) (g.B.Blobs.seen l.catalog.area) (g.B.Blobs.seen l.fn.area) (g.B.Blobs.seen l.area) l.fn.ids l.fn.target l.id-index
