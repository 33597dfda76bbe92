use Rattle.std.proofs.Common.{Ok}
use Rattle.commit_calls.proofs.Committed.{calls_meet, done_meets}
use Rattle.commit_calls.proofs.laws.commits_meet_conditions.Goals as goal

pub returns-clause-calls : goal.returns-clause-calls
returns-clause-calls g c = λ o n cs changes now m result is. calls_meet o n cs changes now m (g.B.Blobs.seen o.area) (g.B.Blobs.seen n.area) result is

pub returns-clause-committed : goal.returns-clause-committed
returns-clause-committed g c = λ o n cs changes now m done is.
    done_meets o n cs changes now m (g.B.Blobs.seen o.area) (g.B.Blobs.seen n.area) (Ok done) is is.runs.0 is.runs.1 is.answers.0 is.runs.2
