use Rattle.fold_core.proofs.Numbers.{number_is_last, stamp_is_last}
use Rattle.fold_core.proofs.laws.touched_is_last.Goals as goal

pub returns : goal.returns
returns c = record { number = number_is_last; stamp = stamp_is_last }
