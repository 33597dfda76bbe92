use Rattle.std.proofs.Common.{length}
use Rattle.admin_wire.specs.Bodies.{IsRecordOf}
use Rattle.admin_wire.proofs.Behind.{IsReadTo}
use Rattle.admin_wire.proofs.records.read_publish.Given as goal

abbrev pub invariant-loop-rest : goal.invariant-loop-rest
invariant-loop-rest l = IsReadTo IsRecordOf l.body l.rest l.changes

abbrev pub decreases-loop-rest : goal.decreases-loop-rest
decreases-loop-rest l = length l.rest
