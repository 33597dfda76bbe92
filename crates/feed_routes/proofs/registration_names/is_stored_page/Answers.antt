use Rattle.std.proofs.Common.{codes}
use Rattle.std.proofs.lemmas.Result.{IfOk-weaker}
use Rattle.feed_routes.specs.Names.{IsBounds}
use Rattle.feed_routes.proofs.Cutting.{middle_is}
use Rattle.feed_routes.proofs.registration_names.is_stored_page.Goals as goal

pub returns-in-Some : goal.returns-in-Some
returns-in-Some c =
    IfOk-weaker c.is_bounds.result _ _ (λ is h. middle_is IsBounds c.args.tail.now (codes "page/") (codes ".json") c.in-Some.bounds.now is c.in-Some.ensures h) c.is_bounds.ensures
