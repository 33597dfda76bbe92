use Rattle.std.proofs.Common.{codes}
use Rattle.feed_routes.specs.Segments.{IsNumber}
use Rattle.feed_routes.proofs.Cutting.{middle_is}
use Rattle.feed_routes.proofs.catalog_names.is_page_name.Goals as goal

pub returns-in-Some : goal.returns-in-Some
returns-in-Some c = middle_is IsNumber c.args.name.now (codes "page") (codes ".json") c.in-Some.number.now c.is_number.result c.in-Some.ensures c.is_number.ensures
