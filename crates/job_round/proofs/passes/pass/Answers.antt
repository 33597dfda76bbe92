use Rattle.std.proofs.Common.{◌∷◌, [], ℕ, List, ap, ◌∙◌, Err}
use Rattle.std.proofs.lemmas.Result.{err_from_is_err_and}
use Rattle.blob_store.specs.Events.{Get}
use Rattle.hive_state.specs.State.{state_name}
use Rattle.id_pass.specs.Placing.{all_as_placed}
use Rattle.blob_store.proofs.OneCall.{none}
use Rattle.job_round.specs.Items.{IsLostBlob}
use Rattle.job_round.specs.Plans.{IsStateLost}
use Rattle.job_round.specs.Reads.{leaves_behind}
use Rattle.job_round.specs.declared.stop.Stop.TheVariants.{Memory}
use Rattle.job_round.proofs.Halting.{halts_behind}
use Rattle.job_round.proofs.Reading.{reads_behind}
use Rattle.job_round.proofs.Staying.{hive_quiet, items_damaged, plan_damaged, quiet_ok, stays_next, stays_still, stays_well}
use Rattle.job_round.proofs.Taking.{own_kept, state_damaged, told_leaves, told_lost, told_ran, told_read, told_unread}
use Rattle.job_round.proofs.passes.pass.Goals as goal

pub returns-in_err-stored-clause-stays : goal.returns-in_err-stored-clause-stays
returns-in_err-stored-clause-stays g c =
    let p = err_from_is_err_and c.from_residual.result c.from_residual.ensures.1 in
    stays_still _ _ c.from_residual.result (g.met.B.Blobs.now c.args.catalog.now.area) (hive_quiet _ c.in_err-stored.field-0.0 c.from_residual.result (p.1 ∙ ap Err p.2) c.in_err-stored.ensures.cause)

pub returns-in_err-stored-clause-runs : goal.returns-in_err-stored-clause-runs
returns-in_err-stored-clause-runs g c = λ n.
    let p = err_from_is_err_and c.from_residual.result c.from_residual.ensures.1 in
    told_lost g.H.Hive.keeps g.H.Hive.makes c.args.catalog.now (g.B.Blobs.seen c.args.catalog.now.area) c.args.id.now c.as_str-key.result.now c.as_str-key.ensures n c.args.target
    c.in_err-stored.field-0.0 c.from_residual.result (g.B.Blobs.seen c.args.area.now) (g.B.Blobs.seen c.state_of.new.area) (p.1 ∙ ap Err p.2) c.in_err-stored.ensures.runs

pub returns-in_err-stored-clause-cause : goal.returns-in_err-stored-clause-cause
returns-in_err-stored-clause-cause g c = λ n settled own.
    let p = err_from_is_err_and c.from_residual.result c.from_residual.ensures.1 in
    state_damaged _ c.as_str-key.result.now c.args.target (g.B.Blobs.seen c.args.area.now).held (g.B.Blobs.seen c.state_of.new.area).held c.in_err-stored.field-0.0 c.from_residual.result (p.1 ∙ ap Err p.2)
    c.state_of.ensures.same c.in_err-stored.ensures.cause

pub returns-in_err-items-clause-runs : goal.returns-in_err-items-clause-runs
returns-in_err-items-clause-runs g c = λ n.
    let p = err_from_is_err_and c.from_residual-in_err-items.result c.from_residual-in_err-items.ensures.1 in
    told_lost g.H.Hive.keeps g.H.Hive.makes c.args.catalog.now (g.B.Blobs.seen c.args.catalog.now.area) c.args.id.now c.as_str-key.result.now c.as_str-key.ensures n c.args.target
    c.in_err-items.field-0.0 c.from_residual-in_err-items.result (g.B.Blobs.seen c.args.area.now) (g.B.Blobs.seen c.state_of.new.area) (p.1 ∙ ap Err p.2)
    (halts_behind (Get (state_name c.as_str-key.result.now) ∷ []) c.in_err-items.field-0.0 (g.B.Blobs.seen c.args.area.now) (g.B.Blobs.seen c.state_of.new.area) c.in_err-items.ensures.other c.in_ok-stored.ensures.runs)

pub returns-in_err-plan-clause-runs : goal.returns-in_err-plan-clause-runs
returns-in_err-plan-clause-runs g c = λ n.
    let p = err_from_is_err_and c.from_residual-in_err-plan.result c.from_residual-in_err-plan.ensures.1 in
    told_lost g.H.Hive.keeps g.H.Hive.makes c.args.catalog.now (g.B.Blobs.seen c.args.catalog.now.area) c.args.id.now c.as_str-key.result.now c.as_str-key.ensures n c.args.target
    Memory c.from_residual-in_err-plan.result (g.B.Blobs.seen c.args.area.now) (g.B.Blobs.seen c.state_of.new.area) (p.1 ∙ ap Err p.2)
    (halts_behind (Get (state_name c.as_str-key.result.now) ∷ []) Memory (g.B.Blobs.seen c.args.area.now) (g.B.Blobs.seen c.state_of.new.area) tt c.in_ok-stored.ensures.runs)

pub returns-clause-stays : goal.returns-clause-stays
returns-clause-stays g c = stays_next _ _ _ _ _ _ c.in_ok-items.items c.run_plan.result c.in_ok-items.ensures.stays c.run_plan.ensures.stays

pub returns-clause-runs : goal.returns-clause-runs
returns-clause-runs g c = λ n.
    told_ran g.H.Hive.keeps g.H.Hive.makes c.args.catalog.now (g.B.Blobs.seen c.args.catalog.now.area) c.args.id.now c.as_str-key.result.now c.as_str-key.ensures n c.args.target
    c.in_ok-stored.stored c.in_ok-items.items c.in_ok-plan.plan c.items_behind.new.catalog (g.B.Blobs.seen c.items_behind.new.catalog.area) c.at_in.result c.as_slice.result.now c.base.result.now _ _
    (stays_well _ _ _ _ c.in_ok-items.items _ (quiet_ok tt) c.in_ok-items.ensures.stays)
    c.at_in.ensures c.as_slice.ensures c.in_ok-items.ensures.items c.base.ensures c.as_ref.ensures.value (ap all_as_placed c.as_slice-2.ensures)
    c.in_ok-plan.ensures.idle c.in_ok-plan.ensures.calls
    c.run_plan.result (g.B.Blobs.seen c.args.area.now) (g.B.Blobs.seen c.state_of.new.area) (g.B.Blobs.seen c.run_plan.new.area)
    c.in_ok-stored.ensures.stored c.in_ok-stored.ensures.runs c.run_plan.ensures.runs

pub returns-in_err-stored-clause-reads : goal.returns-in_err-stored-clause-reads
returns-in_err-stored-clause-reads g c = λ n settled own.
    let p = err_from_is_err_and c.from_residual.result c.from_residual.ensures.1 in
    told_unread g.H.Hive.keeps g.H.Hive.makes c.args.catalog.now (g.B.Blobs.seen c.args.catalog.now.area) c.args.id.now c.as_str-key.result.now c.as_str-key.ensures n c.args.target
    c.args.catalog.now.kept.rows c.in_err-stored.field-0.0 c.from_residual.result (g.B.Blobs.seen c.args.area.now) (g.B.Blobs.seen c.state_of.new.area) (g.B.Blobs.seen c.args.catalog.now.area) (p.1 ∙ ap Err p.2)
    (reads_behind [] (g.B.Blobs.seen c.args.catalog.now.area) (g.B.Blobs.seen c.args.catalog.now.area)
    (none (g.B.Blobs.seen c.args.catalog.now.area) (g.met.B.Blobs.now c.args.catalog.now.area)) _ c.in_err-stored.field-0.0 c.in_err-stored.ensures.cause)

pub returns-in_err-items-clause-reads : goal.returns-in_err-items-clause-reads
returns-in_err-items-clause-reads g c = λ n settled own.
    let p = err_from_is_err_and c.from_residual-in_err-items.result c.from_residual-in_err-items.ensures.1 in
    told_leaves g.H.Hive.keeps g.H.Hive.makes c.args.catalog.now (g.B.Blobs.seen c.args.catalog.now.area) c.args.id.now c.as_str-key.result.now c.as_str-key.ensures n c.args.target
    c.args.catalog.now.kept.rows own c.in_ok-stored.stored c.at_in.result c.at_in.ensures c.as_slice.result.now c.as_slice.ensures
    c.in_err-items.field-0.0 c.from_residual-in_err-items.result (g.B.Blobs.seen c.args.area.now) (g.B.Blobs.seen c.state_of.new.area)
    (g.B.Blobs.seen c.args.catalog.now.area) (g.B.Blobs.seen c.items_behind.new.catalog.area) (p.1 ∙ ap Err p.2) c.in_ok-stored.ensures.stored
    (c.in_err-items.ensures.reads settled (own_kept n c.args.catalog.now.kept.rows c.args.id.now.key c.as_slice.result.now (c.as_slice.ensures ∙ own)))

pub returns-in_err-items-clause-cause : goal.returns-in_err-items-clause-cause
returns-in_err-items-clause-cause g c = λ n settled own.
    let p = err_from_is_err_and c.from_residual-in_err-items.result c.from_residual-in_err-items.ensures.1 in
    items_damaged (IsLostBlob c.items_behind.new.catalog (g.B.Blobs.seen c.items_behind.new.catalog.area)) (IsStateLost c.args.target (g.B.Blobs.seen c.state_of.new.area).held) c.in_err-items.field-0.0 c.from_residual-in_err-items.result (p.1 ∙ ap Err p.2)
    (c.in_err-items.ensures.cause settled (own_kept n c.args.catalog.now.kept.rows c.args.id.now.key c.as_slice.result.now (c.as_slice.ensures ∙ own)))

pub returns-in_err-plan-clause-reads : goal.returns-in_err-plan-clause-reads
returns-in_err-plan-clause-reads g c = λ n settled own.
    let p = err_from_is_err_and c.from_residual-in_err-plan.result c.from_residual-in_err-plan.ensures.1 in
    told_leaves g.H.Hive.keeps g.H.Hive.makes c.args.catalog.now (g.B.Blobs.seen c.args.catalog.now.area) c.args.id.now c.as_str-key.result.now c.as_str-key.ensures n c.args.target
    c.args.catalog.now.kept.rows own c.in_ok-stored.stored c.at_in.result c.at_in.ensures c.as_slice.result.now c.as_slice.ensures
    Memory c.from_residual-in_err-plan.result (g.B.Blobs.seen c.args.area.now) (g.B.Blobs.seen c.state_of.new.area)
    (g.B.Blobs.seen c.args.catalog.now.area) (g.B.Blobs.seen c.items_behind.new.catalog.area) (p.1 ∙ ap Err p.2) c.in_ok-stored.ensures.stored
    (reads_behind (leaves_behind c.at_in.result c.as_slice.result.now) (g.B.Blobs.seen c.args.catalog.now.area) (g.B.Blobs.seen c.items_behind.new.catalog.area)
    (c.in_ok-items.ensures.reads settled (own_kept n c.args.catalog.now.kept.rows c.args.id.now.key c.as_slice.result.now (c.as_slice.ensures ∙ own))) (λ x. ⊥) Memory tt)

pub returns-clause-reads : goal.returns-clause-reads
returns-clause-reads g c = λ n settled own.
    told_read g.H.Hive.keeps g.H.Hive.makes c.args.catalog.now (g.B.Blobs.seen c.args.catalog.now.area) c.args.id.now c.as_str-key.result.now c.as_str-key.ensures n c.args.target
    c.in_ok-stored.stored c.in_ok-items.items c.in_ok-plan.plan c.items_behind.new.catalog (g.B.Blobs.seen c.items_behind.new.catalog.area) c.at_in.result c.as_slice.result.now c.base.result.now _ _
    (stays_well _ _ _ _ c.in_ok-items.items _ (quiet_ok tt) c.in_ok-items.ensures.stays)
    c.at_in.ensures c.as_slice.ensures c.in_ok-items.ensures.items c.base.ensures c.as_ref.ensures.value (ap all_as_placed c.as_slice-2.ensures)
    c.in_ok-plan.ensures.idle c.in_ok-plan.ensures.calls c.args.catalog.now.kept.rows own
    c.run_plan.result (g.B.Blobs.seen c.args.area.now) (g.B.Blobs.seen c.state_of.new.area) (g.B.Blobs.seen c.run_plan.new.area) (g.B.Blobs.seen c.run_plan.new.catalog.area)
    c.in_ok-stored.ensures.stored c.in_ok-stored.ensures.runs c.run_plan.ensures.runs
    (c.in_ok-items.ensures.reads settled (own_kept n c.args.catalog.now.kept.rows c.args.id.now.key c.as_slice.result.now (c.as_slice.ensures ∙ own)))
    (c.run_plan.ensures.reads (c.in_ok-items.ensures.stays.settled settled).0)

pub returns-clause-cause : goal.returns-clause-cause
returns-clause-cause g c = λ n settled own.
    plan_damaged c.run_plan.new.catalog (g.B.Blobs.seen c.run_plan.new.catalog.area) (IsStateLost c.args.target (g.B.Blobs.seen c.run_plan.new.area).held) c.run_plan.result (c.run_plan.ensures.cause (c.in_ok-items.ensures.stays.settled settled).0)
