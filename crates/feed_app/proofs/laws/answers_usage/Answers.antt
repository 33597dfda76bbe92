use Rattle.feed_app.proofs.Calls.{untouched, usage_always, usage_only}
use Rattle.feed_app.specs.Outside.{bounds}
use Rattle.feed_app.proofs.laws.answers_usage.Goals as goal

pub returns-clause-only : goal.returns-clause-only
returns-clause-only g c = usage_only (bounds g.B.Blobs g.I.Source g.O.Sink g.C.Clock)

pub returns-clause-always : goal.returns-clause-always
returns-clause-always g c = usage_always (bounds g.B.Blobs g.I.Source g.O.Sink g.C.Clock)

pub returns-clause-untouched : goal.returns-clause-untouched
returns-clause-untouched g c = untouched (bounds g.B.Blobs g.I.Source g.O.Sink g.C.Clock)
