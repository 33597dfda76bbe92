use Rattle.hive_laws.proofs.EveryHive.{fold_laws}
use Rattle.round_calls.proofs.Passed.{calls_meet, some_meet}
use Rattle.round_calls.proofs.laws.passes_meet_conditions.Goals as goal

pub returns-clause-whole : goal.returns-clause-whole
returns-clause-whole g c = λ base cs cursor key old m calls made starts are by.
    calls_meet g.H.Hive.keeps g.H.Hive.makes base g.met.H.Hive.staged cs cursor key old m
    (fold_laws g.H.Hive.keeps g.H.Hive.makes base g.met.H.Hive.empty g.met.H.Hive.owned g.met.H.Hive.staged cs starts.catalog.lawful) starts calls made are by

pub returns-clause-partly : goal.returns-clause-partly
returns-clause-partly g c = λ base cs cursor key old m calls made starts are by.
    some_meet g.H.Hive.keeps g.H.Hive.makes base g.met.H.Hive.staged cs cursor key old m
    (fold_laws g.H.Hive.keeps g.H.Hive.makes base g.met.H.Hive.empty g.met.H.Hive.owned g.met.H.Hive.staged cs starts.catalog.lawful) starts calls made are by
