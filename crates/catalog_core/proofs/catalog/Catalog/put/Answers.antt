use Rattle.std.proofs.Common.{◌∙◌, [], List, Err, ap, inl, map, refl, subst}
use Rattle.std.proofs.lemmas.Result.{err_from_is_err_and}
use Rattle.blob_store.specs.Events.{Change}
use Rattle.blob_store.specs.Plans.{Makes, StopsAt}
use Rattle.blob_store.specs.declared.call.Call.{Call}
use Rattle.blob_store.proofs.Moments.{started}
use Rattle.blob_store.proofs.OneCall.{none}
use Rattle.catalog_rows.proofs.PageHeads.{takes_same}
use Rattle.catalog_core.proofs.Frames.{ready_store}
use Rattle.catalog_core.proofs.Putting.{moments_made, moments_stopped, put_done, put_stopped, puts_out}
use Rattle.catalog_core.proofs.catalog.Catalog.put.Goals as goal

pub returns-in_err-reserve-clause-runs : goal.returns-in_err-reserve-clause-runs
returns-in_err-reserve-clause-runs g c =
    let p = err_from_is_err_and c.from_residual.result c.from_residual.ensures.1 in
    rw (← c.self.view_is) (puts_out _ (g.B.Blobs.seen c.self.inside.area) _ c.from_residual.result (p.1 ∙ ap Err p.2)
    ([], _, refl, none (g.B.Blobs.seen c.self.inside.area) (g.met.B.Blobs.now c.self.inside.area)))

pub returns-in_err-reserve-clause-moments : goal.returns-in_err-reserve-clause-moments
returns-in_err-reserve-clause-moments g c = rw (← c.self.view_is) (λ cs commit whole ready of.
    let store = ready_store _ _ cs ready in
    started (g.B.Blobs.seen c.self.inside.area) store.0 _ (g.met.B.Blobs.now c.self.inside.area) store.1 (inl store.2))

pub returns-in_err-call_all-clause-puts : goal.returns-in_err-call_all-clause-puts
returns-in_err-call_all-clause-puts g c = rw (← c.self.view_is) (λ cs commit whole ready of.
    let p = err_from_is_err_and c.from_residual-in_err-call_all.result c.from_residual-in_err-call_all.ensures.1 in
    put_stopped _ (g.B.Blobs.seen c.self.inside.area) (g.B.Blobs.seen c.call_all.new.area) cs commit whole ready _ refl c.from_residual-in_err-call_all.result _ p.1 c.reserve.ensures.same refl c.in_err-call_all.field-0.0
    (subst (λ (l : List Call). StopsAt (map Change l) c.in_err-call_all.field-0.0 (g.B.Blobs.seen c.self.inside.area) (g.B.Blobs.seen c.call_all.new.area)) (c.as_slice.ensures ∙ of.calls) c.in_err-call_all.ensures.runs))

pub returns-in_err-call_all-clause-moments : goal.returns-in_err-call_all-clause-moments
returns-in_err-call_all-clause-moments g c = rw (← c.self.view_is) (λ cs commit whole ready of.
    moments_stopped _ (g.B.Blobs.seen c.self.inside.area) (g.B.Blobs.seen c.call_all.new.area) cs commit whole ready c.in_err-call_all.field-0.0
    (subst (λ (l : List Call). StopsAt (map Change l) c.in_err-call_all.field-0.0 (g.B.Blobs.seen c.self.inside.area) (g.B.Blobs.seen c.call_all.new.area)) (c.as_slice.ensures ∙ of.calls) c.in_err-call_all.ensures.runs))

pub returns-clause-puts : goal.returns-clause-puts
returns-clause-puts g c = rw (← c.self.view_is) (λ cs commit whole ready of.
    put_done _ (g.B.Blobs.seen c.self.inside.area) (g.B.Blobs.seen c.call_all.new.area) cs commit whole ready _ refl
    (subst (λ (l : List Call). Makes (map Change l) (g.B.Blobs.seen c.self.inside.area) (g.B.Blobs.seen c.call_all.new.area)) (c.as_slice.ensures ∙ of.calls) c.in_ok-call_all.ensures.runs)
    c.reserve.new.self.reserved (takes_same _ c.reserve.new.self c.take_in.new.self c.reserve.new.self.reserved c.reserve.ensures.same c.take_in.ensures.catalog) (c.in_ok-reserve.ensures.reserved ∙ of.rows) refl)

pub returns-clause-moments : goal.returns-clause-moments
returns-clause-moments g c = rw (← c.self.view_is) (λ cs commit whole ready of.
    moments_made _ (g.B.Blobs.seen c.self.inside.area) (g.B.Blobs.seen c.call_all.new.area) cs commit whole ready
    (subst (λ (l : List Call). Makes (map Change l) (g.B.Blobs.seen c.self.inside.area) (g.B.Blobs.seen c.call_all.new.area)) (c.as_slice.ensures ∙ of.calls) c.in_ok-call_all.ensures.runs))
