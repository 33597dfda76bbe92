use Rattle.fold_core.proofs.Changes.{one_changes, stays_rising}
use Rattle.fold_core.proofs.laws.items_change_versions.Goals as goal

pub returns : goal.returns
returns c = record { rising = stays_rising; one = one_changes }
