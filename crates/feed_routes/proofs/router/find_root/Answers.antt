use Rattle.std.proofs.Common.{◌∙◌, ap}
use Rattle.feed_routes.specs.Cuts.{second_segment}
use Rattle.feed_routes.proofs.Routes.{segment_is, told}
use Rattle.feed_routes.proofs.router.find_root.Goals as goal

pub returns : goal.returns
returns c = λ root rest e h.
    told _ c.root_of_segment.result root c.root_of_segment.ensures
    (c.second_segment.ensures ∙ ap second_segment e ∙ segment_is root rest h)
