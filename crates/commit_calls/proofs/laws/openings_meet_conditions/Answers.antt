use Rattle.commit_calls.proofs.Opened.{opening_meets, settling_meets}
use Rattle.commit_calls.proofs.laws.openings_meet_conditions.Goals as goal

pub returns-clause-opening : goal.returns-clause-opening
returns-clause-opening g c = λ before after base cs plan m result is. opening_meets base cs plan m (g.B.Blobs.seen before) (g.B.Blobs.seen after) result is

pub returns-clause-settling : goal.returns-clause-settling
returns-clause-settling g c = λ o after cs m result is. settling_meets o cs m (g.B.Blobs.seen o.area) (g.B.Blobs.seen after) result is
