use Rattle.std.proofs.Common.{codes}
use Rattle.feed_routes.specs.Names.{IsPlace}
use Rattle.feed_routes.proofs.Cutting.{middle_is}
use Rattle.feed_routes.proofs.catalog_names.is_leaf_name.Goals as goal

pub returns-in-Some : goal.returns-in-Some
returns-in-Some c = middle_is IsPlace c.args.name.now (codes "data/") (codes ".json") c.in-Some.place.now c.is_place.result c.in-Some.ensures c.is_place.ensures
