use Rattle.std.proofs.Common.{List, ap, sym, subst, ◌∙◌, option_map, Err}
use Rattle.std.proofs.lemmas.Result.{err_from_is_err_and}
use Rattle.id_pass.specs.declared.call.Call.{Call}
use Rattle.job_round.proofs.Making.{RunSoFar, run_ended, run_more, run_none, run_read, run_stopped, run_unread, stays_stopped}
use Rattle.job_round.proofs.calls.run_plan.Goals as goal

pub loop-call-init : goal.loop-call-init
loop-call-init g c = run_none c.args.catalog.now (g.B.Blobs.seen c.args.catalog.now.area) (g.B.Blobs.seen c.args.area.now) c.args.plan (g.met.B.Blobs.now c.args.catalog.now.area) (g.met.B.Blobs.now c.args.area.now)

pub returns-in_err-run_call-clause-stays : goal.returns-in_err-run_call-clause-stays
returns-in_err-run_call-clause-stays g c =
    let p = err_from_is_err_and c.from_residual.result c.from_residual.ensures.1 in
    stays_stopped _ _ _ _ _ _ _ _ (g.B.Blobs.seen c.run_call.new.area) _ _ c.loop-call.invariant c.in-Some.call.now
    (sym (ap (option_map (λ call. call.now)) c.in-Some.is) ∙ c.next_call.ensures) c.in_err-run_call.field-0.0 c.from_residual.result (p.1 ∙ ap Err p.2) c.in_err-run_call.ensures.stays

pub returns-in_err-run_call-clause-runs : goal.returns-in_err-run_call-clause-runs
returns-in_err-run_call-clause-runs g c =
    let p = err_from_is_err_and c.from_residual.result c.from_residual.ensures.1 in
    run_stopped _ _ c.run_call.new.catalog _ _ (g.B.Blobs.seen c.run_call.new.catalog.area) _ _ (g.B.Blobs.seen c.run_call.new.area) _ _ c.loop-call.invariant c.in-Some.call.now
    (sym (ap (option_map (λ call. call.now)) c.in-Some.is) ∙ c.next_call.ensures) c.in_err-run_call.field-0.0 c.from_residual.result (p.1 ∙ ap Err p.2) c.in_err-run_call.ensures.runs

pub loop-call-preserved : goal.loop-call-preserved
loop-call-preserved g c =
    subst (λ (l : List Call). RunSoFar c.args.catalog.now c.run_call.new.catalog (g.B.Blobs.seen c.args.catalog.now.area) (g.B.Blobs.seen c.run_call.new.catalog.area) (g.B.Blobs.seen c.args.area.now) (g.B.Blobs.seen c.run_call.new.area) c.args.plan l) (sym c.advance.ensures)
    (run_more _ _ _ _ _ _ _ _ _ _ _ c.loop-call.invariant c.in-Some.call.now
    (sym (ap (option_map (λ call. call.now)) c.in-Some.is) ∙ c.next_call.ensures) {A = Unit {0}} tt c.in_ok-run_call.ensures.stays c.in_ok-run_call.ensures.runs c.in_ok-run_call.ensures.reads)

pub returns-in_err-run_call-clause-reads : goal.returns-in_err-run_call-clause-reads
returns-in_err-run_call-clause-reads g c = λ settled.
    let p = err_from_is_err_and c.from_residual.result c.from_residual.ensures.1 in
    run_unread _ _ c.run_call.new.catalog _ _ (g.B.Blobs.seen c.run_call.new.catalog.area) _ _ (g.B.Blobs.seen c.run_call.new.area) _ _ c.loop-call.invariant c.in-Some.call.now
    (sym (ap (option_map (λ call. call.now)) c.in-Some.is) ∙ c.next_call.ensures) c.in_err-run_call.field-0.0 c.from_residual.result (p.1 ∙ ap Err p.2) c.in_err-run_call.ensures.reads settled

pub returns-clause-reads : goal.returns-clause-reads
returns-clause-reads g c = λ settled. run_read c.args.catalog.now c.loop-call.catalog c.loop-call.catalog (g.B.Blobs.seen c.args.catalog.now.area) (g.B.Blobs.seen c.loop-call.catalog.area) (g.B.Blobs.seen c.loop-call.catalog.area)
    (g.B.Blobs.seen c.args.area.now) (g.B.Blobs.seen c.loop-call.area) (g.B.Blobs.seen c.loop-call.area) c.args.plan c.loop-call.plan c.loop-call.invariant
    (sym (ap (option_map (λ call. call.now)) c.in_default.is) ∙ c.next_call.ensures) settled

pub returns-clause-runs : goal.returns-clause-runs
returns-clause-runs g c = run_ended c.args.catalog.now c.loop-call.catalog c.loop-call.catalog (g.B.Blobs.seen c.args.catalog.now.area) (g.B.Blobs.seen c.loop-call.catalog.area) (g.B.Blobs.seen c.loop-call.catalog.area)
    (g.B.Blobs.seen c.args.area.now) (g.B.Blobs.seen c.loop-call.area) (g.B.Blobs.seen c.loop-call.area) c.args.plan c.loop-call.plan c.loop-call.invariant
    (sym (ap (option_map (λ call. call.now)) c.in_default.is) ∙ c.next_call.ensures)
