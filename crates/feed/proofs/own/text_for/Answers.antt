use Rattle.std.proofs.Common.{refl}
use Rattle.feed.proofs.own.text_for.Goals as goal

pub returns-in-text : goal.returns-in-text
returns-in-text c = rw c.in-text.is refl
