use Rattle.std.proofs.Common.{[], ◌∷◌, subst, sym, refl, ◌∙◌}
use Rattle.blob_store.specs.declared.call.Call.TheVariants as store
use Rattle.blob_store.specs.Events.{Get}
use Rattle.catalog_core.specs.Opened.{IsOpenFor}
use Rattle.catalog_doc.specs.Names.{staged_name}
use Rattle.fold_core.specs.declared.doc.Body.TheVariants.{Staged as FromPublish}
use Rattle.id_pass.specs.declared.call.Call.TheVariants.{Put}
use Rattle.job_round.specs.Items.{IsStagedAbsent}
use Rattle.job_round.specs.Stops.{JobHaltsAt, IfDamaged}
use Rattle.job_round.specs.declared.stop.Stop.{Stop}
use Rattle.job_round.proofs.Halting.{halts_before}
use Rattle.job_round.proofs.Making.{calls_one, read_body}
use Rattle.job_round.proofs.Reading.{reads_hive, staged_halts}
use Rattle.job_round.proofs.Staying.{else_of_read, hive_all, no_catalog_fault, staged_absent, stays_read, stays_told}
use Rattle.job_round.proofs.calls.put_staged.Goals as goal

pub returns-in-Ok-clause-stays : goal.returns-in-Ok-clause-stays
returns-in-Ok-clause-stays g c = stays_read _ _ _ _ c.in-Ok.bytes c.put.result (no_catalog_fault (λ n. ⊥) c.put.result c.put.ensures.cause) c.in-Ok.ensures.stays

pub returns-in-Ok-clause-runs : goal.returns-in-Ok-clause-runs
returns-in-Ok-clause-runs g c = calls_one (IsOpenFor c.args.catalog.now (g.B.Blobs.seen c.args.catalog.now.area)) (Put c.args.name.now (FromPublish c.args.number c.args.place c.args.nuspec))
    (store.Put c.args.name.now c.as_slice.result.now) (g.B.Blobs.seen c.args.area.now) (g.B.Blobs.seen c.put.new.area) c.put.result
    (c.as_slice.result.now, refl, λ cs meant own is. c.as_slice.ensures ∙ read_body c.args.catalog.now (g.B.Blobs.seen c.args.catalog.now.area) c.args.number c.args.place c.args.nuspec c.in-Ok.bytes c.in-Ok.ensures.reads cs meant own is)
    c.put.ensures.runs

pub returns-in-Ok-clause-cause : goal.returns-in-Ok-clause-cause
returns-in-Ok-clause-cause g c = λ settled. hive_all _ _ c.put.result c.put.ensures.cause

pub returns-in-Err-clause-stays : goal.returns-in-Err-clause-stays
returns-in-Err-clause-stays g c = stays_told _ _ _ _ c.in-Err.error c.catalog_stop.result c.catalog_stop.ensures c.in-Err.ensures.stays

pub returns-in-Err-clause-runs : goal.returns-in-Err-clause-runs
returns-in-Err-clause-runs g c = (
  [],
  tt,
  subst (λ (s : Stop). JobHaltsAt [] s (g.B.Blobs.seen c.args.area.now) (g.B.Blobs.seen c.args.area.now)) (sym c.catalog_stop.ensures)
      (halts_before [] _ (g.B.Blobs.seen c.args.area.now) (else_of_read c.in-Err.error) (g.met.B.Blobs.now c.args.area.now)),
)

pub returns-in-Err-clause-cause : goal.returns-in-Err-clause-cause
returns-in-Err-clause-cause g c = λ settled. subst (IfDamaged (IsStagedAbsent (g.B.Blobs.seen c.staged.new.self.area).held) (λ n. ⊥)) (sym c.catalog_stop.ensures)
    (staged_absent c.args.catalog.now (g.B.Blobs.seen c.args.catalog.now.area) (g.B.Blobs.seen c.staged.new.self.area) c.args.number c.args.place c.args.nuspec c.in-Err.error c.in-Err.ensures.damaged settled
    (c.in-Err.ensures.stays.settled settled).1)

pub returns-in-Ok-clause-reads : goal.returns-in-Ok-clause-reads
returns-in-Ok-clause-reads g c = λ settled.
    reads_hive (Get (staged_name c.args.number c.args.place c.args.nuspec) ∷ []) (g.B.Blobs.seen c.args.catalog.now.area) (g.B.Blobs.seen c.staged.new.self.area) (c.in-Ok.ensures.runs settled) c.put.result c.put.ensures.cause

pub returns-in-Err-clause-reads : goal.returns-in-Err-clause-reads
returns-in-Err-clause-reads g c = λ settled.
    staged_halts c.args.catalog.now (g.B.Blobs.seen c.args.catalog.now.area) (g.B.Blobs.seen c.staged.new.self.area) c.args.number c.args.place c.args.nuspec c.in-Err.error c.catalog_stop.result c.catalog_stop.ensures
    settled (c.in-Err.ensures.stays.settled settled).1 (c.in-Err.ensures.runs settled) c.in-Err.ensures.damaged
