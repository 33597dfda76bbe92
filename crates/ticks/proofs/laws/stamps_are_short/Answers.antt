use Rattle.ticks.proofs.StampLemmas.{length-stamp_text, IsAscii-stamp_text}
use Rattle.ticks.proofs.laws.stamps_are_short.Goals as goal

pub returns : goal.returns
returns c n = (length-stamp_text n, IsAscii-stamp_text n)
