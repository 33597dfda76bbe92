use Rattle.std.proofs.Common.{arith}
use Rattle.std.proofs.lemmas.Str.Pattern.{split_after}
use Rattle.feed_routes.proofs.Keys.{free_byte}
use Rattle.feed_app.proofs.cut.at_slash.Goals as goal

pub returns : goal.returns
returns c = λ front back free e.
    split_after 47 c.args.text.now front back c.split_once.result c.split_once.ensures.cases (omega arith) e (free_byte 47 front free)
