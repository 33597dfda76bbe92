use Rattle.catalog_core.specs.Opened.{IsOpenFor}
use Rattle.hive_laws.proofs.EveryHive.{fold_laws}
use Rattle.round_laws.proofs.Leaving.{cursor_or_last, keeps_cursor}
use Rattle.round_laws.proofs.laws.rounds_keep_cursors.Goals as goal

pub returns-clause-stands : goal.returns-clause-stands
returns-clause-stands g c = λ o old new cs cursor m error on rounds other.
    keeps_cursor g.H.Hive.keeps g.H.Hive.makes o.base g.met.H.Hive.staged cs (IsOpenFor o (g.B.Blobs.seen o.area)) cursor m (g.B.Blobs.seen old)
    (g.B.Blobs.seen new)
    (fold_laws g.H.Hive.keeps g.H.Hive.makes o.base g.met.H.Hive.empty g.met.H.Hive.owned g.met.H.Hive.staged cs on.catalog.lawful) on error rounds other

pub returns-clause-or_moved : goal.returns-clause-or_moved
returns-clause-or_moved g c = λ o old new cs cursor m error on rounds.
    cursor_or_last g.H.Hive.keeps g.H.Hive.makes o.base g.met.H.Hive.staged cs (IsOpenFor o (g.B.Blobs.seen o.area)) cursor m (g.B.Blobs.seen old)
    (g.B.Blobs.seen new)
    (fold_laws g.H.Hive.keeps g.H.Hive.makes o.base g.met.H.Hive.empty g.met.H.Hive.owned g.met.H.Hive.staged cs on.catalog.lawful) on error rounds
