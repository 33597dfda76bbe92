use Rattle.feed_app.specs.Outside.{bounds}
use Rattle.app_laws.proofs.Fates.{get_found, get_missing}
use Rattle.app_laws.proofs.gets.gets_are_fresh.Goals as goal

pub returns-clause-found : goal.returns-clause-found
returns-clause-found g c = λ words before after status run hive path name base cs at asked names holds zero.
    get_found (bounds g.B.Blobs g.I.Source g.O.Sink g.C.Clock) words before after status run hive path name base cs at asked names holds zero

pub returns-clause-missing : goal.returns-clause-missing
returns-clause-missing g c = λ words before after status run hive path name base cs at asked names holds may three.
    get_missing (bounds g.B.Blobs g.I.Source g.O.Sink g.C.Clock) words before after status run hive path name base cs at asked names holds may three
