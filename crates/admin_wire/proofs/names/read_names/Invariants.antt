use Rattle.std.proofs.Common.{length}
use Rattle.admin_wire.specs.Bodies.{IsLineOf}
use Rattle.admin_wire.proofs.Behind.{IsReadTo}
use Rattle.admin_wire.proofs.names.read_names.Given as goal

abbrev pub invariant-loop-rest : goal.invariant-loop-rest
invariant-loop-rest l = IsReadTo (IsLineOf l.kind) l.body l.rest l.changes

abbrev pub decreases-loop-rest : goal.decreases-loop-rest
decreases-loop-rest l = length l.rest
