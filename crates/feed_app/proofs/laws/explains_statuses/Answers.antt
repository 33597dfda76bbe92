use Rattle.feed_app.proofs.Calls.{damaged, refused, store_fault, stream_fault, too_long}
use Rattle.feed_app.specs.Outside.{bounds}
use Rattle.feed_app.proofs.laws.explains_statuses.Goals as goal

pub returns-clause-refused : goal.returns-clause-refused
returns-clause-refused g c = refused (bounds g.B.Blobs g.I.Source g.O.Sink g.C.Clock)

pub returns-clause-store : goal.returns-clause-store
returns-clause-store g c = store_fault (bounds g.B.Blobs g.I.Source g.O.Sink g.C.Clock)

pub returns-clause-stream : goal.returns-clause-stream
returns-clause-stream g c = stream_fault (bounds g.B.Blobs g.I.Source g.O.Sink g.C.Clock)

pub returns-clause-damaged : goal.returns-clause-damaged
returns-clause-damaged g c = damaged (bounds g.B.Blobs g.I.Source g.O.Sink g.C.Clock)

pub returns-clause-too_long : goal.returns-clause-too_long
returns-clause-too_long g c = too_long (bounds g.B.Blobs g.I.Source g.O.Sink g.C.Clock)
