use Rattle.feed_app.proofs.Calls.{keeps}
use Rattle.feed_app.specs.Outside.{bounds}
use Rattle.feed_app.proofs.laws.keeps_others.Goals as goal

pub returns-clause-areas : goal.returns-clause-areas
returns-clause-areas g c = keeps (bounds g.B.Blobs g.I.Source g.O.Sink g.C.Clock)

pub returns-clause-streams : goal.returns-clause-streams
returns-clause-streams g c = λ words before after status run. (run.unread, run.unasked)
