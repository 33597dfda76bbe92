use Rattle.admin_wire.specs.declared.area.AreaName.TheVariants.{Hive}
use Rattle.feed_app.specs.Outside.{area_of, bounds}
use Rattle.app_laws.proofs.Fates.{job_sound}
use Rattle.app_laws.proofs.jobs.jobs_stay_sound.Goals as goal

pub returns-clause-held : goal.returns-clause-held
returns-clause-held g c = λ words before after status run hive base cs at asked holds.
    (job_sound (bounds g.B.Blobs g.I.Source g.O.Sink g.C.Clock) words before after status run hive base cs at holds asked
    (g.met.B.Blobs.now (area_of before.stores (Hive hive)))).0

pub returns-clause-moments : goal.returns-clause-moments
returns-clause-moments g c = λ words before after status run hive base cs at asked holds.
    (job_sound (bounds g.B.Blobs g.I.Source g.O.Sink g.C.Clock) words before after status run hive base cs at holds asked
    (g.met.B.Blobs.now (area_of before.stores (Hive hive)))).1
