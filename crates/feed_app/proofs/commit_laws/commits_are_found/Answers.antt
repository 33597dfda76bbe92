use Rattle.catalog_doc.proofs.Unspelled.{none_spelled}
use Rattle.catalog_laws.proofs.Kept.{none_catalog}
use Rattle.feed_app.specs.Commands.{base_of}
use Rattle.feed_app.specs.Outside.{bounds, sight}
use Rattle.feed_app.proofs.Calls.{done, zero_answer}
use Rattle.feed_app.proofs.Left.{commit_found}
use Rattle.feed_app.proofs.commit_laws.commits_are_found.Goals as goal

pub returns-clause-found : goal.returns-clause-found
returns-clause-found g c = λ words before after status run command asked commits zero.
    let b = bounds g.B.Blobs g.I.Source g.O.Sink g.C.Clock in
    commit_found b.blobs (sight b (base_of words) before) (sight b (base_of words) after) run.answer command commits (done b words before after status run command asked).acts
    (zero_answer b words before after status run zero)

pub returns-clause-init : goal.returns-clause-init
returns-clause-init g c = λ base text. (none_catalog, none_spelled base text)
