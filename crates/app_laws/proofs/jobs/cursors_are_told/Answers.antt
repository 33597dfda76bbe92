use Rattle.feed_app.specs.Outside.{bounds}
use Rattle.app_laws.proofs.Fates.{cursor_told, job_settled}
use Rattle.app_laws.proofs.jobs.cursors_are_told.Goals as goal

pub returns-clause-cursor : goal.returns-clause-cursor
returns-clause-cursor g c = λ words before after status run hive base cs at asked holds zero.
    cursor_told (bounds g.B.Blobs g.I.Source g.O.Sink g.C.Clock) words before after status run hive base cs at holds asked zero

pub returns-clause-job : goal.returns-clause-job
returns-clause-job g c = λ words before after status run hive base cs at asked holds zero.
    (job_settled (bounds g.B.Blobs g.I.Source g.O.Sink g.C.Clock) words before after status run hive base cs at holds asked zero).1
