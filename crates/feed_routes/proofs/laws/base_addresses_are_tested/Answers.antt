use Rattle.feed_routes.proofs.Tested.{address_true, true_address}
use Rattle.feed_routes.proofs.laws.base_addresses_are_tested.Goals as goal

pub returns : goal.returns
returns c = λ text. (true_address text, address_true text)
