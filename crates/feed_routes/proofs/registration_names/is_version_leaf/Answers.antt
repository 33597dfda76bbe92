use Rattle.std.proofs.Common.{codes}
use Rattle.std.proofs.lemmas.Result.{IfOk-weaker}
use Rattle.feed_routes.specs.Segments.{IsVersionKey}
use Rattle.feed_routes.proofs.Cutting.{front_is}
use Rattle.feed_routes.proofs.registration_names.is_version_leaf.Goals as goal

pub returns-in-Some : goal.returns-in-Some
returns-in-Some c =
    IfOk-weaker c.is_version_key.result _ _ (λ is h. front_is IsVersionKey c.args.tail.now c.in-Some.version.now (codes ".json") is c.in-Some.ensures h) c.is_version_key.ensures
