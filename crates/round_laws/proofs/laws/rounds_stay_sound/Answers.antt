use Rattle.catalog_core.specs.Opened.{IsOpenFor}
use Rattle.hive_laws.proofs.EveryHive.{fold_laws}
use Rattle.round_laws.proofs.Leaving.{keeps_either, stays_sound}
use Rattle.round_laws.proofs.laws.rounds_stay_sound.Goals as goal

pub returns-clause-held : goal.returns-clause-held
returns-clause-held g c = λ o old new cs cursor m result on rounds.
    (keeps_either g.H.Hive.keeps g.H.Hive.makes o.base g.met.H.Hive.staged cs (IsOpenFor o (g.B.Blobs.seen o.area)) cursor m (g.B.Blobs.seen old)
    (g.B.Blobs.seen new)
    (fold_laws g.H.Hive.keeps g.H.Hive.makes o.base g.met.H.Hive.empty g.met.H.Hive.owned g.met.H.Hive.staged cs on.catalog.lawful) on result rounds).0

pub returns-clause-moments : goal.returns-clause-moments
returns-clause-moments g c = λ o old new cs cursor m result on rounds.
    (keeps_either g.H.Hive.keeps g.H.Hive.makes o.base g.met.H.Hive.staged cs (IsOpenFor o (g.B.Blobs.seen o.area)) cursor m (g.B.Blobs.seen old)
    (g.B.Blobs.seen new)
    (fold_laws g.H.Hive.keeps g.H.Hive.makes o.base g.met.H.Hive.empty g.met.H.Hive.owned g.met.H.Hive.staged cs on.catalog.lawful) on result rounds).1

pub returns-clause-stopped : goal.returns-clause-stopped
returns-clause-stopped g c = λ o old new cs cursor m error on rounds other.
    stays_sound g.H.Hive.keeps g.H.Hive.makes o.base g.met.H.Hive.staged cs (IsOpenFor o (g.B.Blobs.seen o.area)) cursor m (g.B.Blobs.seen old)
    (g.B.Blobs.seen new)
    (fold_laws g.H.Hive.keeps g.H.Hive.makes o.base g.met.H.Hive.empty g.met.H.Hive.owned g.met.H.Hive.staged cs on.catalog.lawful) on error rounds other
