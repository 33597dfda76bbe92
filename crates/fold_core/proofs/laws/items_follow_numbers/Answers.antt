use Rattle.fold_core.proofs.Touches.{items_none, items_stay}
use Rattle.fold_core.proofs.laws.items_follow_numbers.Goals as goal

pub returns : goal.returns
returns c = record { same = items_stay; none = items_none }
