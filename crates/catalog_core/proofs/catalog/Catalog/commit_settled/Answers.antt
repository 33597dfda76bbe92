use Rattle.std.proofs.Common.{◌∙◌, Err, List, Ok, ap, map, refl, subst, sym, ℕ}
use Rattle.std.proofs.lemmas.Result.{err_from_is_err_and}
use Rattle.blob_store.specs.Events.{Change}
use Rattle.blob_store.specs.declared.call.Call.{Call}
use Rattle.blob_store.specs.Plans.{Makes}
use Rattle.catalog_doc.specs.Commits.{made}
use Rattle.catalog_doc.specs.declared.row.Row.{Row}
use Rattle.catalog_items.proofs.Getting.{counts_then}
use Rattle.commit_plan.specs.Lookups.{HaltsLooking, IsLastDamaged, listing_gets}
use Rattle.commit_plan.specs.Planned.{IsPlanOf}
use Rattle.commit_plan.proofs.Looking.{looks_only}
use Rattle.catalog_core.specs.Committing.{RunsPuts}
use Rattle.catalog_core.proofs.Frames.{known_store, still_open}
use Rattle.catalog_core.proofs.Outcomes.{after_puts, err_commits, err_counts, err_damage, err_runs, known_at, moments_after, moments_before, puts_count, ready_after, ready_known, runs_put, runs_refused, stopped_before, taken, whole_with, puts_settle, stays_settled_at}
use Rattle.catalog_core.proofs.catalog.Catalog.commit_settled.Goals as goal

pub returns-in_err-plan-clause-commits : goal.returns-in_err-plan-clause-commits
returns-in_err-plan-clause-commits g c = rw (← c.self.view_is) (λ cs ready.
    let p = err_from_is_err_and c.from_residual.result c.from_residual.ensures.1 in
    let reason = c.in_err-plan.ensures.refused cs (known_at c.self.inside.rows (g.B.Blobs.seen c.self.inside.area) c.self.inside.base c.as_str.result.now cs c.as_str.ensures (ready_known _ _ cs ready)) in
    let gets = looks_only c.self.inside.rows.rows c.args.changes.now (g.B.Blobs.seen c.self.inside.area) (g.B.Blobs.seen c.plan_changes.new.area) {A = Unit {0}} (Err c.in_err-plan.field-0.0) c.in_err-plan.ensures.runs in
    err_commits cs c.args.changes.now c.args.now _ c.in_err-plan.field-0.0 c.from_residual.result (p.1 ∙ ap Err p.2)
    (stopped_before cs c.args.changes.now c.args.now _ c.in_err-plan.field-0.0 reason (still_open _ _ _ _ cs refl refl refl gets.area ready.open_for)))

pub returns-in_err-plan-clause-runs : goal.returns-in_err-plan-clause-runs
returns-in_err-plan-clause-runs g c = rw (← c.self.view_is) (λ cs ready.
    let p = err_from_is_err_and c.from_residual.result c.from_residual.ensures.1 in
    let known = ready_known _ _ cs ready in
    let reason = c.in_err-plan.ensures.refused cs (known_at _ _ c.self.inside.base _ cs c.as_str.ensures known) in
    err_runs c.self.inside.base cs c.args.changes.now c.args.now (g.B.Blobs.seen c.self.inside.area) (g.B.Blobs.seen c.plan_changes.new.area) c.in_err-plan.field-0.0 c.from_residual.result (p.1 ∙ ap Err p.2)
    (runs_refused c.self.inside.base cs c.args.changes.now c.args.now (g.B.Blobs.seen c.self.inside.area) (g.B.Blobs.seen c.plan_changes.new.area) c.in_err-plan.field-0.0
    (subst (λ (rows : List Row). HaltsLooking rows c.args.changes.now c.in_err-plan.field-0.0 (g.B.Blobs.seen c.self.inside.area) (g.B.Blobs.seen c.plan_changes.new.area))
    (sym known.keeps.rows) c.in_err-plan.ensures.runs) reason))

pub returns-in_err-plan-clause-moments : goal.returns-in_err-plan-clause-moments
returns-in_err-plan-clause-moments g c = rw (← c.self.view_is) (λ cs ready.
    let store = known_store _ _ cs ready.open_for in
    let gets = looks_only c.self.inside.rows.rows c.args.changes.now (g.B.Blobs.seen c.self.inside.area) (g.B.Blobs.seen c.plan_changes.new.area) {A = Unit {0}} (Err c.in_err-plan.field-0.0) c.in_err-plan.ensures.runs in
    moments_before cs c.args.changes.now c.args.now _ _ _ store.0 _ gets store.1 store.2)

pub returns-in_err-plan-clause-counted : goal.returns-in_err-plan-clause-counted
returns-in_err-plan-clause-counted g c =
    let p = err_from_is_err_and c.from_residual.result c.from_residual.ensures.1 in
    let gets = looks_only c.self.inside.rows.rows c.args.changes.now (g.B.Blobs.seen c.self.inside.area) (g.B.Blobs.seen c.plan_changes.new.area) {A = Unit {0}} (Err c.in_err-plan.field-0.0) c.in_err-plan.ensures.runs in
    rw (← c.self.view_is) (err_counts _ _ c.in_err-plan.field-0.0 c.from_residual.result (p.1 ∙ ap Err p.2) gets.counts)

pub returns-in_err-plan-clause-damaged : goal.returns-in_err-plan-clause-damaged
returns-in_err-plan-clause-damaged g c = λ now is.
    let p = err_from_is_err_and c.from_residual.result c.from_residual.ensures.1 in
    let gets = looks_only c.self.inside.rows.rows c.args.changes.now (g.B.Blobs.seen c.self.inside.area) (g.B.Blobs.seen c.plan_changes.new.area) {A = Unit {0}} (Err c.in_err-plan.field-0.0) c.in_err-plan.ensures.runs in
    err_damage (IsLastDamaged now c.as_str.result.now c.self.inside.rows.rows) (IsLastDamaged now c.self.inside.base c.self.inside.rows.rows) c.in_err-plan.field-0.0 c.from_residual.result
    (p.1 ∙ ap Err p.2) (λ name here. subst (λ (x : List ℕ). IsLastDamaged now x c.self.inside.rows.rows name) c.as_str.ensures here)
    (c.in_err-plan.ensures.damaged now (sym gets.area ∙ is))

pub returns-clause-commits : goal.returns-clause-commits
returns-clause-commits g c = rw (← c.self.view_is) (λ cs ready.
    let known = known_at _ _ c.self.inside.base _ cs c.as_str.ensures (ready_known _ _ cs ready) in
    let none = c.in_ok-plan.ensures.refused cs known in
    let of = subst (λ (x : List ℕ). IsPlanOf x cs (made cs c.args.changes.now c.args.now) c.in_ok-plan.plan) c.as_str.ensures (c.in_ok-plan.ensures.plans cs known) in
    let whole = whole_with cs c.args.changes.now c.args.now known.lawful c.see_changes.ensures c.see_moment.ensures none in
    let gets = looks_only c.self.inside.rows.rows c.args.changes.now (g.B.Blobs.seen c.self.inside.area) (g.B.Blobs.seen c.plan_changes.new.area) (Ok c.in_ok-plan.plan) c.in_ok-plan.ensures.runs in
    let later = ready_after _ _ _ _ cs _ gets refl refl refl ready in
    after_puts cs c.args.changes.now c.args.now _ _ c.in_ok-plan.plan _ _ _ c.put.result (taken cs c.args.changes.now c.args.now none) of
    c.put.ensures.told c.put.ensures.runs (c.put.ensures.puts cs (made cs c.args.changes.now c.args.now) whole later of))

pub returns-clause-runs : goal.returns-clause-runs
returns-clause-runs g c = rw (← c.self.view_is) (λ cs ready.
    let own = ready_known _ _ cs ready in
    let known = known_at _ _ c.self.inside.base _ cs c.as_str.ensures own in
    let none = c.in_ok-plan.ensures.refused cs known in
    let of = subst (λ (x : List ℕ). IsPlanOf x cs (made cs c.args.changes.now c.args.now) c.in_ok-plan.plan) c.as_str.ensures (c.in_ok-plan.ensures.plans cs known) in
    runs_put c.self.inside.base cs c.args.changes.now c.args.now (g.B.Blobs.seen c.self.inside.area) (g.B.Blobs.seen c.plan_changes.new.area) _ c.put.result (taken cs c.args.changes.now c.args.now none)
    (subst (λ (rows : List Row). Makes (listing_gets rows c.args.changes.now) (g.B.Blobs.seen c.self.inside.area) (g.B.Blobs.seen c.plan_changes.new.area)) (sym own.keeps.rows) c.in_ok-plan.ensures.runs)
    (subst (λ (calls : List Call). RunsPuts (map Change calls) (g.B.Blobs.seen c.plan_changes.new.area) (g.B.Blobs.seen c.put.new.self.area) c.put.result) of.calls c.put.ensures.runs))

pub returns-clause-moments : goal.returns-clause-moments
returns-clause-moments g c = rw (← c.self.view_is) (λ cs ready.
    let known = known_at _ _ c.self.inside.base _ cs c.as_str.ensures (ready_known _ _ cs ready) in
    let none = c.in_ok-plan.ensures.refused cs known in
    let of = subst (λ (x : List ℕ). IsPlanOf x cs (made cs c.args.changes.now c.args.now) c.in_ok-plan.plan) c.as_str.ensures (c.in_ok-plan.ensures.plans cs known) in
    let whole = whole_with cs c.args.changes.now c.args.now known.lawful c.see_changes.ensures c.see_moment.ensures none in
    let gets = looks_only c.self.inside.rows.rows c.args.changes.now (g.B.Blobs.seen c.self.inside.area) (g.B.Blobs.seen c.plan_changes.new.area) (Ok c.in_ok-plan.plan) c.in_ok-plan.ensures.runs in
    let later = ready_after _ _ _ _ cs _ gets refl refl refl ready in
    let store = known_store _ _ cs ready.open_for in
    moments_after cs c.args.changes.now c.args.now _ _ _ _ (taken cs c.args.changes.now c.args.now none)
    (moments_before cs c.args.changes.now c.args.now _ _ _ store.0 _ gets store.1 store.2)
    (c.put.ensures.moments cs (made cs c.args.changes.now c.args.now) whole later of))

pub returns-clause-counted : goal.returns-clause-counted
returns-clause-counted g c =
    let gets = looks_only c.self.inside.rows.rows c.args.changes.now (g.B.Blobs.seen c.self.inside.area) (g.B.Blobs.seen c.plan_changes.new.area) (Ok c.in_ok-plan.plan) c.in_ok-plan.ensures.runs in
    rw (← c.self.view_is) (counts_then _ _ _ _ _ gets.counts (λ is. let no : ⊥ = cc in no) (puts_count c.in_ok-plan.plan.calls _ _ c.put.result c.put.ensures.runs))

pub returns-in_err-plan-clause-settled : goal.returns-in_err-plan-clause-settled
returns-in_err-plan-clause-settled g c =
    let p = err_from_is_err_and c.from_residual.result c.from_residual.ensures.1 in
    rw (← c.self.view_is) (λ settled. stays_settled_at _ c.in_err-plan.field-0.0 c.from_residual.result (p.1 ∙ ap Err p.2) settled)

pub returns-clause-settled : goal.returns-clause-settled
returns-clause-settled g c = λ settled. puts_settle _ _ _ _ c.put.result c.put.ensures.runs c.put.ensures.settled
