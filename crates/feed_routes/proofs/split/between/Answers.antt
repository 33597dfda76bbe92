use Rattle.feed_routes.proofs.Keys.{between_is}
use Rattle.feed_routes.proofs.split.between.Goals as goal

pub returns : goal.returns
returns c = between_is c.args.text.now c.args.prefix.now c.args.suffix.now c.in_ok-rest.rest.now c.before_suffix.result c.in_ok-rest.ensures c.before_suffix.ensures
