use Rattle.feed_app.specs.Outside.{bounds}
use Rattle.app_laws.proofs.Histories.{command_kept}
use Rattle.app_laws.proofs.feeds.commands_keep_feeds.Goals as goal

pub returns : goal.returns
returns g c = λ words before after status run base cs at holds.
    command_kept (bounds g.B.Blobs g.I.Source g.O.Sink g.C.Clock) g.met.B.Blobs.now words before after status run base cs at holds
