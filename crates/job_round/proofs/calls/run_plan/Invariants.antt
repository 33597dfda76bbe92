use Rattle.std.proofs.Common.{length}
use Rattle.job_round.proofs.Making.{RunSoFar}
use Rattle.job_round.proofs.calls.run_plan.Given as goal

-- the calls so far are made
abbrev pub invariant-loop-call : goal.invariant-loop-call
invariant-loop-call g l = RunSoFar l.fn.catalog l.catalog (g.B.Blobs.seen l.fn.catalog.area) (g.B.Blobs.seen l.catalog.area) (g.B.Blobs.seen l.fn.area) (g.B.Blobs.seen l.area) l.fn.plan l.plan

abbrev pub decreases-loop-call : goal.decreases-loop-call
decreases-loop-call g l = length l.plan
