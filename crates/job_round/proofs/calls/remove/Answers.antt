use Rattle.std.proofs.Common.{subst, sym, Ok, Err}
use Rattle.blob_store.specs.declared.call.Call.TheVariants.{Remove}
use Rattle.blob_store.proofs.OneCall.{changed}
use Rattle.job_round.specs.Stops.{IsOfHive}
use Rattle.job_round.proofs.Halting.{of_hive}
use Rattle.job_round.proofs.calls.remove.Goals as goal

pub returns-in-Ok-clause-runs : goal.returns-in-Ok-clause-runs
returns-in-Ok-clause-runs g c = changed (Remove c.args.name.now) (g.B.Blobs.seen c.args.area.now) (g.B.Blobs.seen c.delete.new.self) (Ok tt) (g.met.B.Blobs.now c.delete.new.self)
    c.in-Ok.ensures.time c.in-Ok.ensures.after c.in-Ok.ensures.counted c.in-Ok.ensures.asks

pub returns-in-Err-clause-runs : goal.returns-in-Err-clause-runs
returns-in-Err-clause-runs g c = (
  c.in-Err.error,
  c.hive_stop.ensures,
  changed (Remove c.args.name.now) (g.B.Blobs.seen c.args.area.now) (g.B.Blobs.seen c.delete.new.self) (Err c.in-Err.error) (g.met.B.Blobs.now c.delete.new.self)
      c.in-Err.ensures.time c.in-Err.ensures.after c.in-Err.ensures.counted c.in-Err.ensures.asks,
)

pub returns-in-Err-clause-cause : goal.returns-in-Err-clause-cause
returns-in-Err-clause-cause g c = subst (IsOfHive (λ name. ⊥)) (sym c.hive_stop.ensures) (of_hive c.in-Err.error)
