use Rattle.std.proofs.Common.{length}
use Rattle.feed_app.proofs.Naming.{AreReadTo}
use Rattle.feed_app.proofs.names.read_pairs.Given as goal

abbrev pub invariant-loop-rest : goal.invariant-loop-rest
invariant-loop-rest l = AreReadTo l.kind l.words l.rest l.changes

abbrev pub decreases-loop-rest : goal.decreases-loop-rest
decreases-loop-rest l = length l.rest
