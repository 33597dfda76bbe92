use Rattle.feed_app.specs.Commands.{base_of}
use Rattle.feed_app.specs.Outside.{bounds, sight}
use Rattle.feed_app.proofs.Calls.{done}
use Rattle.feed_app.proofs.Left.{commit_left}
use Rattle.feed_app.proofs.commit_laws.commits_stop_between.Goals as goal

pub returns : goal.returns
returns g c = λ words before after status run command asked commits.
    let b = bounds g.B.Blobs g.I.Source g.O.Sink g.C.Clock in
    commit_left b.blobs (sight b (base_of words) before) (sight b (base_of words) after) run.answer command commits (g.met.B.Blobs.now before.stores.catalog)
    (done b words before after status run command asked).acts
