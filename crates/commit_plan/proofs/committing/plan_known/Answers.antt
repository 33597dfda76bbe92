use Rattle.std.proofs.Common.{◌∙◌, sym}
use Rattle.commit_plan.specs.Plans.{IsKnownOf, IsNumberedAfter}
use Rattle.commit_plan.proofs.committing.plan_known.Goals as goal

pub returns-clause-plans : goal.returns-clause-plans
returns-clause-plans c = λ cs now lawful keeps known stamp.
    let number = c.next_number-number.ensures cs lawful keeps.rows in
    let own : IsKnownOf cs c.args.changes.now c.last_page.result.now c.pages.result.now c.args.lasts.now = record { rows = c.last_page.ensures cs keeps; pages = c.pages.ensures ∙ sym keeps.pages; lasts = known } in
    let numbered : IsNumberedAfter cs now c.next_number-number.result c.args.stamp = record { number = number; stamp = stamp } in
    record {
      number = c.in_ok-plan.ensures.number ∙ number;
      stamp = c.in_ok-plan.ensures.stamp ∙ stamp;
      rows = c.in_ok-plan.ensures.rows cs now own numbered;
      calls = c.in_ok-plan.ensures.calls cs now own numbered;
    }
