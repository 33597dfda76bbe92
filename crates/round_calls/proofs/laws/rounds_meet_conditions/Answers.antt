use Rattle.catalog_core.specs.Opened.{IsOpenFor}
use Rattle.hive_laws.proofs.EveryHive.{fold_laws}
use Rattle.round_calls.proofs.Rounded.{round_calls_meet}
use Rattle.round_calls.proofs.laws.rounds_meet_conditions.Goals as goal

pub returns : goal.returns
returns g c = λ o old new cs cursor m result on rounds.
    round_calls_meet g.H.Hive.keeps g.H.Hive.makes o.base g.met.H.Hive.staged cs (IsOpenFor o (g.B.Blobs.seen o.area)) cursor m (g.B.Blobs.seen old)
    (g.B.Blobs.seen new)
    (fold_laws g.H.Hive.keeps g.H.Hive.makes o.base g.met.H.Hive.empty g.met.H.Hive.owned g.met.H.Hive.staged cs on.catalog.lawful) on result rounds
