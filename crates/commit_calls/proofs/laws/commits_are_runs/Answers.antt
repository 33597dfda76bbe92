use Rattle.std.proofs.Common.{ℕ, List, Ok, subst}
use Rattle.feed_laws.specs.Calls.{CallsMeetOnCatalog}
use Rattle.catalog_core.specs.Committing.{with_made}
use Rattle.commit_calls.proofs.Committed.{calls_meet, done_meets}
use Rattle.commit_calls.proofs.Opened.{opening_meets}
use Rattle.commit_calls.proofs.Stepped.{runs}
use Rattle.commit_calls.proofs.laws.commits_are_runs.Goals as goal

pub returns-clause-commit : goal.returns-clause-commit
returns-clause-commit g c = λ fs w o n changes now result of is.
    let old = g.B.Blobs.seen o.area in
    let new = g.B.Blobs.seen n.area in
    let meet = calls_meet o n w.commits changes now w.area old new result is in
    (meet.0, runs fs w old new meet.0 of.up (subst (λ (b : List ℕ). CallsMeetOnCatalog b w.commits w.area old new meet.0) of.base meet.1))

pub returns-clause-committed : goal.returns-clause-committed
returns-clause-committed g c = λ fs w o n changes now done of is.
    let old = g.B.Blobs.seen o.area in
    let new = g.B.Blobs.seen n.area in
    runs fs w old new (with_made w.commits changes now) of.up
    (subst (λ (b : List ℕ). CallsMeetOnCatalog b w.commits w.area old new (with_made w.commits changes now)) of.base
    (done_meets o n w.commits changes now w.area old new (Ok done) is is.runs.0 is.runs.1 is.answers.0 is.runs.2))

pub returns-clause-opening : goal.returns-clause-opening
returns-clause-opening g c = λ fs w before after plan result up is.
    let old = g.B.Blobs.seen before in
    let new = g.B.Blobs.seen after in
    runs fs w old new w.commits up (opening_meets w.base w.commits plan w.area old new result is)
