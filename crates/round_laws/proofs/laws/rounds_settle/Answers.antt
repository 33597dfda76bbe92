use Rattle.catalog_core.specs.Opened.{IsOpenFor}
use Rattle.hive_laws.proofs.EveryHive.{fold_laws}
use Rattle.round_laws.proofs.Rounding.{idle_settled, settled}
use Rattle.round_laws.proofs.laws.rounds_settle.Goals as goal

pub returns-clause-done : goal.returns-clause-done
returns-clause-done g c = λ o old new cs cursor n m on rounds.
    settled g.H.Hive.keeps g.H.Hive.makes o.base g.met.H.Hive.staged cs (IsOpenFor o (g.B.Blobs.seen o.area)) cursor m (g.B.Blobs.seen old) (g.B.Blobs.seen new)
    (fold_laws g.H.Hive.keeps g.H.Hive.makes o.base g.met.H.Hive.empty g.met.H.Hive.owned g.met.H.Hive.staged cs on.catalog.lawful) on n rounds

pub returns-clause-idle : goal.returns-clause-idle
returns-clause-idle g c = λ o old new cs cursor n m on rounds.
    idle_settled g.H.Hive.keeps g.H.Hive.makes o.base g.met.H.Hive.staged cs (IsOpenFor o (g.B.Blobs.seen o.area)) cursor m (g.B.Blobs.seen old)
    (g.B.Blobs.seen new)
    (fold_laws g.H.Hive.keeps g.H.Hive.makes o.base g.met.H.Hive.empty g.met.H.Hive.owned g.met.H.Hive.staged cs on.catalog.lawful) on n rounds
