use Rattle.std.proofs.Common.{◌∙◌, ◌++◌, List, ap}
use Rattle.catalog_doc.specs.declared.row.Row.{Row}
use Rattle.commit_plan.proofs.places.add_row.Goals as goal

pub returns : goal.returns
returns c = c.in_ok-push.ensures.ok ∙ ap (λ (l : List Row). c.args.rows.now ++ l) c.in_ok-row.ensures
