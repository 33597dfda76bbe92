use Rattle.std.proofs.Common.{◌≡◌}
use Rattle.catalog_core.specs.Opened.{IsOpenFor}
use Rattle.fold_core.specs.Folds.{fold_of}
use Rattle.hive_laws.proofs.EveryHive.{fold_laws}
use Rattle.id_pass.specs.declared.error.RoundErr.TheVariants.{Damaged, HiveFault}
use Rattle.round_laws.proofs.Damage.{none_of_hive, of_catalog}
use Rattle.round_laws.proofs.Leaving.{stays_sound}
use Rattle.round_laws.proofs.Wholeness.{none_damaged}
use Rattle.round_laws.proofs.laws.sound_rounds_are_whole.Goals as goal

pub returns-clause-of_catalog : goal.returns-clause-of_catalog
returns-clause-of_catalog g c = λ o after old new cs cursor m text on rounds damaged.
    let held = stays_sound g.H.Hive.keeps g.H.Hive.makes o.base g.met.H.Hive.staged cs (IsOpenFor o (g.B.Blobs.seen o.area)) cursor m (g.B.Blobs.seen old)
    (g.B.Blobs.seen new)
    (fold_laws g.H.Hive.keeps g.H.Hive.makes o.base g.met.H.Hive.empty g.met.H.Hive.owned g.met.H.Hive.staged cs on.catalog.lawful) on (Damaged text) rounds
    (λ e. let no_ : Damaged text ≡ HiveFault = e in let no : ⊥ = cc in no) in
    of_catalog o after (g.B.Blobs.seen o.area) (g.B.Blobs.seen after.area) cs on.meant (fold_of g.H.Hive.keeps g.H.Hive.makes o.base) cursor held.0 held.2
    (g.B.Blobs.seen new).held text held.1 damaged

pub returns-clause-none_of_hive : goal.returns-clause-none_of_hive
returns-clause-none_of_hive g c = λ o old new cs cursor m error on rounds other.
    let held = stays_sound g.H.Hive.keeps g.H.Hive.makes o.base g.met.H.Hive.staged cs (IsOpenFor o (g.B.Blobs.seen o.area)) cursor m (g.B.Blobs.seen old)
    (g.B.Blobs.seen new)
    (fold_laws g.H.Hive.keeps g.H.Hive.makes o.base g.met.H.Hive.empty g.met.H.Hive.owned g.met.H.Hive.staged cs on.catalog.lawful) on error rounds other in
    λ name lost. none_of_hive o o (g.B.Blobs.seen o.area) (g.B.Blobs.seen o.area) cs on.meant (fold_of g.H.Hive.keeps g.H.Hive.makes o.base) cursor
    held.0 held.2 (g.B.Blobs.seen new).held name held.1 lost

pub returns-clause-none : goal.returns-clause-none
returns-clause-none g c = λ o after old new cs cursor m text on round.
    none_damaged g.H.Hive.keeps g.H.Hive.makes o.base g.met.H.Hive.staged o after (g.B.Blobs.seen o.area) (g.B.Blobs.seen after.area)
    (g.B.Blobs.seen old) (g.B.Blobs.seen new) cs cursor m
    (fold_laws g.H.Hive.keeps g.H.Hive.makes o.base g.met.H.Hive.empty g.met.H.Hive.owned g.met.H.Hive.staged cs on.catalog.lawful) on text round
