use Rattle.feed_app.specs.Outside.{bounds}
use Rattle.app_laws.proofs.Histories.{feed_begun}
use Rattle.app_laws.proofs.feeds.feeds_begin.Goals as goal

pub returns : goal.returns
returns g c = λ words before after status run base asked text hold zero.
    feed_begun (bounds g.B.Blobs g.I.Source g.O.Sink g.C.Clock) g.met.B.Blobs.now words before after status run base asked text hold zero
