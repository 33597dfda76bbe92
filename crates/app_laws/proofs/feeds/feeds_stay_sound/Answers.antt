use Rattle.feed_app.specs.Outside.{bounds}
use Rattle.app_laws.proofs.Histories.{lead}
use Rattle.app_laws.proofs.feeds.feeds_stay_sound.Goals as goal

pub returns : goal.returns
returns g c = λ steps old new base cs at course feed.
    lead (bounds g.B.Blobs g.I.Source g.O.Sink g.C.Clock) g.met.B.Blobs.now steps old new base cs at course feed
