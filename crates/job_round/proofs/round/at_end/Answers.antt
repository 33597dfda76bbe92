use Rattle.std.proofs.Common.{subst, sym}
use Rattle.job_round.specs.Rounds.{IsEndStop}
use Rattle.job_round.proofs.Ending.{end_read}
use Rattle.job_round.proofs.ReadTelling.{quiet_halts}
use Rattle.job_round.proofs.Staying.{stays_told}
use Rattle.job_round.proofs.round.at_end.Goals as goal

pub returns-in-Err-clause-stays : goal.returns-in-Err-clause-stays
returns-in-Err-clause-stays g c = stays_told _ _ _ _ c.in-Err.error c.catalog_stop.result c.catalog_stop.ensures c.in-Err.ensures.stays

pub returns-in-Err-clause-cause : goal.returns-in-Err-clause-cause
returns-in-Err-clause-cause g c = subst (IsEndStop c.args.catalog.now (g.B.Blobs.seen c.args.catalog.now.area) c.args.cursor) (sym c.catalog_stop.ensures)
    (end_read c.args.catalog.now (g.B.Blobs.seen c.args.catalog.now.area) c.args.cursor c.in-Err.error c.in-Err.ensures.damaged)

pub returns-in-Err-clause-reads : goal.returns-in-Err-clause-reads
returns-in-Err-clause-reads g c = λ settled.
    quiet_halts c.args.catalog.now c.in-Err.error c.catalog_stop.result (g.B.Blobs.seen c.args.catalog.now.area) (g.B.Blobs.seen c.count.new.self.area) c.catalog_stop.ensures settled (c.in-Err.ensures.runs settled) c.in-Err.ensures.damaged
