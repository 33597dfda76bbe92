use Rattle.std.proofs.Common.{◌∷◌, [], ℕ, List, Option, subst, sym, Ok, Err}
use Rattle.blob_store.specs.Events.{Get}
use Rattle.blob_store.proofs.OneCall.{got}
use Rattle.job_round.specs.Stops.{JobHaltsAt, IsOfHive}
use Rattle.job_round.specs.declared.stop.Stop.{Stop}
use Rattle.job_round.proofs.Halting.{halts_of, of_hive}
use Rattle.job_round.proofs.calls.get.Goals as goal

pub returns-in-Ok-clause-runs : goal.returns-in-Ok-clause-runs
returns-in-Ok-clause-runs g c = got c.args.name.now (g.B.Blobs.seen c.args.area.now) (g.B.Blobs.seen c.get.new.self) (Ok c.in-Ok.found) (g.met.B.Blobs.now c.get.new.self)
    c.in-Ok.ensures.time c.in-Ok.ensures.same c.in-Ok.ensures.counted c.in-Ok.ensures.asks

pub returns-in-Err-clause-runs : goal.returns-in-Err-clause-runs
returns-in-Err-clause-runs g c =
    subst (λ (s : Stop). JobHaltsAt (Get c.args.name.now ∷ []) s (g.B.Blobs.seen c.args.area.now) (g.B.Blobs.seen c.get.new.self)) (sym c.hive_stop.ensures)
    (halts_of (Get c.args.name.now ∷ []) c.in-Err.error (g.B.Blobs.seen c.args.area.now) (g.B.Blobs.seen c.get.new.self)
    (got {A = Option (List ℕ)} c.args.name.now (g.B.Blobs.seen c.args.area.now) (g.B.Blobs.seen c.get.new.self) (Err c.in-Err.error) (g.met.B.Blobs.now c.get.new.self)
    c.in-Err.ensures.time c.in-Err.ensures.same c.in-Err.ensures.counted c.in-Err.ensures.asks))

pub returns-in-Err-clause-cause : goal.returns-in-Err-clause-cause
returns-in-Err-clause-cause g c = subst (IsOfHive (λ name. ⊥)) (sym c.hive_stop.ensures) (of_hive c.in-Err.error)
