use Rattle.std.proofs.Common.{refl}
use Rattle.ticks.proofs.Named.{stamp_numbers, stamp_is_text, stamp_is_moment}
use Rattle.ticks.proofs.laws.stamps_show_their_moments.Goals as goal

pub returns : goal.returns
returns c n h = (stamp_numbers n, stamp_is_text n h, stamp_is_moment n h, refl, refl)
