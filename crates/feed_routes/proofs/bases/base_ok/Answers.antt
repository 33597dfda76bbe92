use Rattle.feed_routes.proofs.Tested.{tested_in}
use Rattle.feed_routes.proofs.bases.base_ok.Goals as goal

pub returns-clause-test : goal.returns-clause-test
returns-clause-test c = tested_in c.args.base.now c.is_address.result c.is_address.ensures
