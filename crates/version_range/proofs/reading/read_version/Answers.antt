use Rattle.version_range.proofs.Refused.{bad_bound}
use Rattle.version_range.proofs.reading.read_version.Goals as goal

pub returns-in-Err-clause-refused : goal.returns-in-Err-clause-refused
returns-in-Err-clause-refused c = rw c.bound_error.ensures (bad_bound c.args.core.now c.args.at c.in-Err.error c.in-Err.ensures.accepts)
