use Rattle.feed_app.specs.Outside.{bounds}
use Rattle.app_laws.proofs.Histories.{read}
use Rattle.app_laws.proofs.feeds.reads_reach_cursors.Goals as goal

pub returns : goal.returns
returns g c = λ steps old new base cs at course feed.
    read (bounds g.B.Blobs g.I.Source g.O.Sink g.C.Clock) g.met.B.Blobs.now steps old new base cs at course feed
