use Rattle.feed_app.specs.Outside.{bounds}
use Rattle.app_laws.proofs.Fates.{job_documents, job_settled}
use Rattle.app_laws.proofs.jobs.jobs_leave_documents.Goals as goal

pub returns-clause-settled : goal.returns-clause-settled
returns-clause-settled g c = λ words before after status run hive base cs at asked holds zero.
    (job_settled (bounds g.B.Blobs g.I.Source g.O.Sink g.C.Clock) words before after status run hive base cs at holds asked zero).0

pub returns-clause-documents : goal.returns-clause-documents
returns-clause-documents g c = λ words before after status run hive base cs at asked holds zero.
    job_documents (bounds g.B.Blobs g.I.Source g.O.Sink g.C.Clock) words before after status run hive base cs at holds asked zero
