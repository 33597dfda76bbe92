use Rattle.std.proofs.Common.{◌∷◌, [], ap, ap₂, subst, sym, ◌∙◌}
use Rattle.blob_store.specs.declared.call.Call.TheVariants as store
use Rattle.catalog_core.specs.Opened.{IsOpenFor}
use Rattle.fold_core.specs.declared.doc.Body.TheVariants.{Made}
use Rattle.id_pass.specs.declared.call.Call.{Call}
use Rattle.id_pass.specs.declared.call.Call.TheVariants.{Put, Remove}
use Rattle.blob_store.proofs.OneCall.{none}
use Rattle.job_round.specs.Made.{RunsCalls}
use Rattle.job_round.specs.Reads.{RunsReads, bodies_of}
use Rattle.job_round.proofs.Making.{calls_one}
use Rattle.job_round.proofs.Reading.{reads_hive}
use Rattle.job_round.proofs.Staying.{hive_all, no_catalog_fault, stays_still}
use Rattle.job_round.proofs.calls.run_call.Goals as goal

pub returns-in-Made-clause-stays : goal.returns-in-Made-clause-stays
returns-in-Made-clause-stays g c = stays_still _ _ c.put.result (g.met.B.Blobs.now c.args.catalog.now.area) (no_catalog_fault (λ n. ⊥) c.put.result c.put.ensures.cause)

pub returns-in-Made-clause-runs : goal.returns-in-Made-clause-runs
returns-in-Made-clause-runs g c =
    subst (λ (call : Call). RunsCalls (IsOpenFor c.args.catalog.now (g.B.Blobs.seen c.args.catalog.now.area)) (call ∷ []) (g.B.Blobs.seen c.args.area.now) (g.B.Blobs.seen c.put.new.area) c.put.result)
    (sym (c.in-Put.is ∙ ap (Put c.in-Put.name) c.in-Made.is))
    (calls_one (IsOpenFor c.args.catalog.now (g.B.Blobs.seen c.args.catalog.now.area)) (Put c.in-Put.name (Made c.in-Made.bytes)) (store.Put c.as_str.result.now c.as_slice.result.now)
    (g.B.Blobs.seen c.args.area.now) (g.B.Blobs.seen c.put.new.area) c.put.result (ap₂ store.Put c.as_str.ensures c.as_slice.ensures) c.put.ensures.runs)

pub returns-in-Made-clause-cause : goal.returns-in-Made-clause-cause
returns-in-Made-clause-cause g c = λ settled. hive_all _ _ c.put.result c.put.ensures.cause

pub returns-in-Remove-clause-stays : goal.returns-in-Remove-clause-stays
returns-in-Remove-clause-stays g c = stays_still _ _ c.remove.result (g.met.B.Blobs.now c.args.catalog.now.area) (no_catalog_fault (λ n. ⊥) c.remove.result c.remove.ensures.cause)

pub returns-in-Remove-clause-runs : goal.returns-in-Remove-clause-runs
returns-in-Remove-clause-runs g c =
    subst (λ (call : Call). RunsCalls (IsOpenFor c.args.catalog.now (g.B.Blobs.seen c.args.catalog.now.area)) (call ∷ []) (g.B.Blobs.seen c.args.area.now) (g.B.Blobs.seen c.remove.new.area) c.remove.result)
    (sym c.in-Remove.is)
    (calls_one (IsOpenFor c.args.catalog.now (g.B.Blobs.seen c.args.catalog.now.area)) (Remove c.in-Remove.name) (store.Remove c.as_str-in-Remove.result.now)
    (g.B.Blobs.seen c.args.area.now) (g.B.Blobs.seen c.remove.new.area) c.remove.result (ap store.Remove c.as_str-in-Remove.ensures) c.remove.ensures.runs)

pub returns-in-Remove-clause-cause : goal.returns-in-Remove-clause-cause
returns-in-Remove-clause-cause g c = λ settled. hive_all _ _ c.remove.result c.remove.ensures.cause

pub returns-in-Made-clause-reads : goal.returns-in-Made-clause-reads
returns-in-Made-clause-reads g c = λ settled.
    subst (λ (call : Call). RunsReads (bodies_of (call ∷ [])) (g.B.Blobs.seen c.args.catalog.now.area) (g.B.Blobs.seen c.args.catalog.now.area) c.put.result)
    (sym (c.in-Put.is ∙ ap (Put c.in-Put.name) c.in-Made.is))
    (reads_hive [] (g.B.Blobs.seen c.args.catalog.now.area) (g.B.Blobs.seen c.args.catalog.now.area)
    (none (g.B.Blobs.seen c.args.catalog.now.area) (g.met.B.Blobs.now c.args.catalog.now.area)) c.put.result c.put.ensures.cause)

pub returns-in-Remove-clause-reads : goal.returns-in-Remove-clause-reads
returns-in-Remove-clause-reads g c = λ settled.
    subst (λ (call : Call). RunsReads (bodies_of (call ∷ [])) (g.B.Blobs.seen c.args.catalog.now.area) (g.B.Blobs.seen c.args.catalog.now.area) c.remove.result)
    (sym c.in-Remove.is)
    (reads_hive [] (g.B.Blobs.seen c.args.catalog.now.area) (g.B.Blobs.seen c.args.catalog.now.area)
    (none (g.B.Blobs.seen c.args.catalog.now.area) (g.met.B.Blobs.now c.args.catalog.now.area)) c.remove.result c.remove.ensures.cause)
