use Rattle.std.proofs.Common.{◌∙◌, subst, sym}
use Rattle.catalog_doc.specs.Verdict.{already}
use Rattle.commit_plan.specs.Lookups.{IfDamagedRefusal, IsLastDamaged}
use Rattle.commit_plan.proofs.Lasts.{already_for, damage_for}
use Rattle.commit_plan.proofs.known.unless_already.Goals as goal

pub returns-in-Err-clause-damaged : goal.returns-in-Err-clause-damaged
returns-in-Err-clause-damaged g c = λ m is.
    let P = IsLastDamaged m c.args.base.now c.args.rows.now.rows in
    subst (λ (error : _). IfDamagedRefusal error P) (sym c.commit_err_for.ensures) (damage_for P c.in-Err.error (c.in-Err.ensures.damaged m is))

pub returns-in-Some-clause-refused : goal.returns-in-Some-clause-refused
returns-in-Some-clause-refused g c = λ cs earlier known live.
    already_for c.args.place (already cs c.args.place earlier c.args.change.now) c.in-Some.error c.in-Some.ensures.kind
    (sym (c.already_at.ensures.exact cs earlier (c.in-Ok.ensures.known cs known live)) ∙ c.in-Some.is)

pub returns-in-None-clause-refused : goal.returns-in-None-clause-refused
returns-in-None-clause-refused g c = λ cs earlier known live.
    sym (c.already_at.ensures.exact cs earlier (c.in-Ok.ensures.known cs known live)) ∙ c.in-None.is
