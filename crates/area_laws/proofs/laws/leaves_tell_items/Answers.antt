use Rattle.area_laws.proofs.Leaves.{leaf_tells}
use Rattle.area_laws.proofs.laws.leaves_tell_items.Goals as goal

pub returns : goal.returns
returns c = leaf_tells
