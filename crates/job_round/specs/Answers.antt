-- What a round answers.
use Rattle.std.specs.Prelude.{◌≡◌, ◌⊎◌, ◌++◌, ℕ, List, length, codes, Option, Some, IfSome, ⊤}
use Rattle.std.specs.FinMap.{get}
use Rattle.blob_store.specs.Area.{Area}
use Rattle.blob_store.specs.Seen.{Seen}
use Rattle.pkg_meta.specs.Catalog.{Catalog}
use Rattle.catalog_core.specs.Opened.{IsOpenFor, IsUnsettled, Opened}
use Rattle.cursor_doc.specs.Cursor.{cursor_name}
use Rattle.fold_core.specs.declared.hive.HiveName.{HiveName}
use Rattle.fold_core.specs.declared.hive.HiveName.TheVariants.{Plain, SemVer2, Content, Auto}
use Rattle.hive_state.specs.State.{state_name}
use Rattle.id_pass.specs.declared.error.RoundErr.{RoundErr}
use Rattle.id_pass.specs.declared.error.RoundErr.TheVariants as told
use Rattle.id_pass.specs.declared.error.RoundOut.{RoundOut}
use Rattle.id_pass.specs.declared.error.RoundOut.TheVariants.{Done, Idle}
use Rattle.job_round.specs.Cursors.{IsDamagedCursor, IsNoCursor}
use Rattle.job_round.specs.Items.{IsLostBlob}
use Rattle.job_round.specs.States.{IsNoState}
use Rattle.job_round.specs.declared.stop.Stop.{Stop}
use Rattle.job_round.specs.declared.stop.Stop.TheVariants.{CatalogFault, HiveFault, CatalogDamaged, HiveDamaged, Memory}

-- the number that a round answers
abbrev pub told_number : RoundOut → ℕ
told_number (Done n) = n
told_number (Idle n) = n

-- what holds of the number, where the round did something
abbrev pub IfDone : RoundOut → (ℕ → Type 0) → Type 0
IfDone (Done n) P = P n
IfDone (Idle n) P = ⊤

-- and where there was nothing to do
abbrev pub IfIdle : RoundOut → (ℕ → Type 0) → Type 0
IfIdle (Done n) P = ⊤
IfIdle (Idle n) P = P n

-- the word for a hive's area
abbrev pub hive_word : HiveName → List ℕ
hive_word Plain = codes "plain"
hive_word SemVer2 = codes "semver2"
hive_word Content = codes "content"
hive_word Auto = codes "auto"

-- the text for a blob of this area
abbrev pub in_area : List ℕ → List ℕ → List ℕ
in_area area name = area ++ (codes "/" ++ name)

-- for a blob of the catalog's area, and for one of a hive's
abbrev pub in_catalog : List ℕ → List ℕ
in_catalog name = in_area (codes "catalog") name

abbrev pub in_hive : HiveName → List ℕ → List ℕ
in_hive hive name = in_area (hive_word hive) name

-- this blob is told as damaged, or there was no memory for its name
abbrev pub TellsDamaged : List ℕ → RoundErr → Type 0
TellsDamaged name error = (error ≡ told.Damaged name) ⊎ (error ≡ told.Memory)

-- how a stop is told
abbrev pub IsStopTold : HiveName → Stop → RoundErr → Type 0
IsStopTold hive CatalogFault error = error ≡ told.CatalogFault
IsStopTold hive HiveFault error = error ≡ told.HiveFault
IsStopTold hive (CatalogDamaged name) error = TellsDamaged (in_catalog name) error
IsStopTold hive (HiveDamaged name) error = TellsDamaged (in_hive hive name) error
IsStopTold hive Memory error = error ≡ told.Memory

-- what holds of the text of a damaged blob, where the error tells one
abbrev pub IfDamagedText : RoundErr → (List ℕ → Type 0) → Type 0
IfDamagedText told.CatalogFault P = ⊤
IfDamagedText told.HiveFault P = ⊤
IfDamagedText (told.Damaged text) P = P text
IfDamagedText told.Memory P = ⊤

-- a blob of the catalog is damaged: it is why the catalog couldn't be settled, or a leaf or a publish's file isn't held as it should be
abbrev pub IsLostInCatalog : {B : Type 0} → (old new : Opened B) → (before after : Seen) → List ℕ → Type 0
IsLostInCatalog old new before after name = ((m : Area) → before.held ≡ Some m → IsUnsettled m old name) ⊎ IsLostBlob new after name

-- a blob of the hive is damaged: the cursor is none, or is beyond the last commit; or the state of an id is none that it may have
abbrev pub IsLostInHive : {B : Type 0} → Opened B → Seen → Option Area → List ℕ → Type 0
IsLostInHive old before held name = IfSome held (λ m. ((name ≡ cursor_name) × IsDamagedCursor (IsOpenFor old before) (get m cursor_name))
    ⊎ ((key : List ℕ) × (target : ℕ) × ((cs : Catalog) → IsOpenFor old before cs → target ≡ length cs) × (name ≡ state_name key)
    × IsNoState key target (get m name)))

-- why a round tells a blob as damaged, by the text that it tells
abbrev pub IsDamagedBlob : {B : Type 0} → (old new : Opened B) → (before after : Seen) → Option Area → List ℕ → Type 0
IsDamagedBlob old new before after held text = ((name : List ℕ) × (text ≡ in_catalog name) × IsLostInCatalog old new before after name)
    ⊎ ((hive : HiveName) × (name : List ℕ) × (text ≡ in_hive hive name) × IsLostInHive old before held name)

-- why the cursor's number isn't told: the store failed, memory ran out, or the cursor is none
abbrev pub IsNoNumber : HiveName → Option Area → RoundErr → Type 0
IsNoNumber hive held told.CatalogFault = ⊥
IsNoNumber hive held told.HiveFault = ⊤
IsNoNumber hive held (told.Damaged text) = (text ≡ in_hive hive cursor_name) × IfSome held (λ m. IsNoCursor (get m cursor_name))
IsNoNumber hive held told.Memory = ⊤
