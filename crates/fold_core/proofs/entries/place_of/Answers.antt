use Rattle.std.proofs.Common.{◌∙◌}
use Rattle.fold_core.proofs.Places.{position_or_end}
use Rattle.fold_core.proofs.entries.place_of.Goals as goal

pub returns : goal.returns
returns c = rw c.first_from.ensures at c.unwrap_or.ensures ∙ position_or_end c.args.version.now c.args.entries.now
