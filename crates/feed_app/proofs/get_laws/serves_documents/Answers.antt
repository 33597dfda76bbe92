use Rattle.feed_app.proofs.Served.{catalog_served, hive_served, index_served}
use Rattle.feed_app.specs.Outside.{bounds}
use Rattle.feed_app.proofs.get_laws.serves_documents.Goals as goal

pub returns-clause-catalog : goal.returns-clause-catalog
returns-clause-catalog g c = λ words before after status run path bytes asked may has still quiet.
    catalog_served (bounds g.B.Blobs g.I.Source g.O.Sink g.C.Clock) words path bytes before after status run asked may has still quiet

pub returns-clause-hive : goal.returns-clause-hive
returns-clause-hive g c = λ words before after status run hive path bytes asked may has still calm quiet.
    hive_served (bounds g.B.Blobs g.I.Source g.O.Sink g.C.Clock) words path bytes before after status run asked may hive has still calm quiet

pub returns-clause-index : goal.returns-clause-index
returns-clause-index g c = λ words before after status run path bytes asked may has still quiet.
    index_served (bounds g.B.Blobs g.I.Source g.O.Sink g.C.Clock) words path bytes before after status run asked may has still quiet
