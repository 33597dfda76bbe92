use Rattle.fold_core.proofs.Lasts.{entry_is_last}
use Rattle.fold_core.proofs.Rising.{entries_rise}
use Rattle.fold_core.proofs.laws.entries_are_last.Goals as goal

pub returns : goal.returns
returns c = record { rising = entries_rise; last = entry_is_last }
