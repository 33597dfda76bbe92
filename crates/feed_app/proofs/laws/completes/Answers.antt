use Rattle.feed_app.proofs.Calls.{complete}
use Rattle.feed_app.specs.Outside.{bounds}
use Rattle.feed_app.proofs.laws.completes.Goals as goal

pub returns : goal.returns
returns g c = complete (bounds g.B.Blobs g.I.Source g.O.Sink g.C.Clock)
