use Rattle.std.proofs.Common.{length}
use Rattle.feed_words.proofs.Parted.{ArePartedTo}
use Rattle.feed_words.proofs.words.part.Given as goal

abbrev pub invariant-loop-rest : goal.invariant-loop-rest
invariant-loop-rest l = ArePartedTo l.words l.rest l.options.items l.plain.items

abbrev pub decreases-loop-rest : goal.decreases-loop-rest
decreases-loop-rest l = length l.rest
