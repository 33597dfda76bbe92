use Rattle.hive_laws.proofs.EveryHive.{fold_laws}
use Rattle.pass_laws.proofs.Leads.{calls_have_bytes, led, partly_led}
use Rattle.pass_laws.proofs.laws.passes_lead_ids.Goals as goal

pub returns-clause-bytes : goal.returns-clause-bytes
returns-clause-bytes g c = λ base cs cursor key old m calls starts are.
    calls_have_bytes g.H.Hive.keeps g.H.Hive.makes base g.met.H.Hive.staged cs cursor key old m
    (fold_laws g.H.Hive.keeps g.H.Hive.makes base g.met.H.Hive.empty g.met.H.Hive.owned g.met.H.Hive.staged cs starts.catalog.lawful) starts calls are

pub returns-clause-led : goal.returns-clause-led
returns-clause-led g c = λ base cs cursor key old m calls made starts are by.
    led g.H.Hive.keeps g.H.Hive.makes base g.met.H.Hive.staged cs cursor key old m
    (fold_laws g.H.Hive.keeps g.H.Hive.makes base g.met.H.Hive.empty g.met.H.Hive.owned g.met.H.Hive.staged cs starts.catalog.lawful) starts calls made are by

pub returns-clause-partly : goal.returns-clause-partly
returns-clause-partly g c = λ base cs cursor key old m left calls made starts are by after.
    partly_led g.H.Hive.keeps g.H.Hive.makes base g.met.H.Hive.staged cs cursor key old m
    (fold_laws g.H.Hive.keeps g.H.Hive.makes base g.met.H.Hive.empty g.met.H.Hive.owned g.met.H.Hive.staged cs starts.catalog.lawful) starts calls made left are by after
