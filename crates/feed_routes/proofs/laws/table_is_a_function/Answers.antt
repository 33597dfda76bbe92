use Rattle.feed_routes.proofs.Table.{one_asked}
use Rattle.feed_routes.proofs.laws.table_is_a_function.Goals as goal

pub returns-clause-one : goal.returns-clause-one
returns-clause-one c = λ path query a b x y. one_asked path query a b x y
