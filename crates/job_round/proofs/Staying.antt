-- What a catalog's call leaves, told as a stop.
use Rattle.std.proofs.Common.{◌≡◌, ◌⊎◌, ℕ, List, Bool, true, Some, Ok, Err, IfErr, Result, inr, ⊎_elim, refl, sym, ◌∙◌, ap, subst}
use Rattle.std.specs.FinMap.{get}
use Rattle.std.specs.Prelude.{IsErrOf}
use Rattle.blob_store.specs.Area.{Area}
use Rattle.blob_store.specs.Seen.{IsSure, Seen}
use Rattle.catalog_doc.specs.Names.{staged_name}
use Rattle.catalog_opening.specs.Errors.{IfDamagedBy}
use Rattle.catalog_opening.specs.declared.error.ReadErr.{ReadErr}
use Rattle.catalog_opening.specs.declared.error.ReadErr.TheVariants as reading
use Rattle.catalog_core.specs.Framing.{StaysOpen}
use Rattle.catalog_core.specs.Opened.{IsUnsettled, Opened}
use Rattle.catalog_core.proofs.Frames.{stays_as, stays_iff}
use Rattle.catalog_items.specs.Reads.{IsAbsent}
use Rattle.job_round.specs.Items.{IsLostBlob, IsStagedAbsent}
use Rattle.job_round.specs.Stops.{IfDamaged, IsElse, IsStopOfCatalog, IsOfHive, catalog_stop_of}
use Rattle.job_round.specs.declared.stop.Stop.{Stop}
use Rattle.job_round.specs.declared.stop.Stop.TheVariants.{CatalogFault, HiveFault, CatalogDamaged, HiveDamaged, Memory}
use Rattle.job_round.proofs.Stays.{stays_then}

-- results of these errors
abbrev pub unread : (A : Type 0) → ReadErr → Result A ReadErr
unread A error = Err error

abbrev pub stopped : (A : Type 0) → Stop → Result A Stop
stopped A stop = Err stop

abbrev pub well : {A : Type 0} → A → Result A Stop
well x = Ok x

abbrev pub went_well : Result (Unit {0}) Stop
went_well = Ok tt

pub fault_of : (error : ReadErr) → catalog_stop_of error ≡ CatalogFault → error ≡ reading.Fault
fault_of (reading.Damaged name) is = cc
fault_of reading.Fault is = refl
fault_of reading.Memory is = cc

pub no_catalog_fault : {A : Type 0} (P : List ℕ → Type 0) (r : Result A Stop) → IfErr r (IsOfHive P) → IsErrOf r CatalogFault → ⊥
no_catalog_fault P r cause is = subst (λ (x : Result _ Stop). IfErr x (IsOfHive P)) is cause

module _ {B : Type 0} (o n : Opened B) (s t : Seen) where
  -- a read that gave no answer
  pub stays_told : {A C : Type 0} (error : ReadErr) (stop : Stop) → stop ≡ catalog_stop_of error → StaysOpen o n s t (IsErrOf (unread A error) reading.Fault) → StaysOpen o n s t (IsErrOf (stopped C stop) CatalogFault)
  stays_told error stop is stays = stays_iff o n s t _ _ stays
      (λ failed. let same : error ≡ reading.Fault = cc in ap Err (is ∙ ap catalog_stop_of same))
      (λ failed. let same : stop ≡ CatalogFault = cc in ap Err (fault_of error (sym is ∙ same)))

  -- one that did, and what isn't a fault of the catalog behind it
  pub stays_read : {A C : Type 0} (x : A) (r : Result C Stop) → (IsErrOf r CatalogFault → ⊥) → StaysOpen o n s t (IsErrOf (Ok x) reading.Fault) → StaysOpen o n s t (IsErrOf r CatalogFault)
  stays_read x r quiet stays = stays_iff o n s t _ _ stays (λ failed. let no : ⊥ = cc in absurd no) (λ failed. absurd (quiet failed))

  pub stays_well : {A C : Type 0} (x : A) (r : Result C Stop) → (IsErrOf r CatalogFault → ⊥) → StaysOpen o n s t (IsErrOf (Ok x) CatalogFault) → StaysOpen o n s t (IsErrOf r CatalogFault)
  stays_well x r quiet stays = stays_iff o n s t _ _ stays (λ failed. let no : ⊥ = cc in absurd no) (λ failed. absurd (quiet failed))

  -- a stop that is told on
  pub stays_on : {A C : Type 0} (stop : Stop) (r : Result A Stop) → r ≡ Err stop → StaysOpen o n s t (IsErrOf (stopped C stop) CatalogFault) → StaysOpen o n s t (IsErrOf r CatalogFault)
  stays_on stop r is stays = stays_iff o n s t _ _ stays
      (λ failed. let same : stop ≡ CatalogFault = cc in is ∙ ap Err same)
      (λ failed. let same : stop ≡ CatalogFault = cc in ap Err same)

pub memory_quiet : {A : Type 0} (r : Result A Stop) → r ≡ Err Memory → IsErrOf r CatalogFault → ⊥
memory_quiet r is failed = let no : ⊥ = cc in no

pub quiet_ok : {A : Type 0} (x : A) → IsErrOf (Ok x) CatalogFault → ⊥
quiet_ok x is = cc

-- behind what went well
pub stays_next : {A C B : Type 0} (o mid n : Opened B) (a b c : Seen) (x : A) (r : Result C Stop) → StaysOpen o mid a b (IsErrOf (Ok x) CatalogFault) → StaysOpen mid n b c (IsErrOf r CatalogFault)
    → StaysOpen o n a c (IsErrOf r CatalogFault)
stays_next o mid n a b c x r first second = stays_then o mid n a b c _ _ first (quiet_ok x) second

-- nothing was called
pub stays_still : {A B : Type 0} (o : Opened B) (a : Seen) (r : Result A Stop) → IsSure a → (IsErrOf r CatalogFault → ⊥) → StaysOpen o o a a (IsErrOf r CatalogFault)
stays_still o a r sure quiet = stays_as o a _ sure quiet

-- a stop of the hive
pub hive_if : (P R : List ℕ → Type 0) (stop : Stop) → IsOfHive (λ name. ⊥) stop → IfDamaged P R stop
hive_if P R CatalogFault cause = absurd cause
hive_if P R HiveFault cause = tt
hive_if P R (CatalogDamaged name) cause = absurd cause
hive_if P R (HiveDamaged name) cause = absurd cause
hive_if P R Memory cause = tt

pub hive_all : {A : Type 0} (P R : List ℕ → Type 0) (r : Result A Stop) → IfErr r (IsOfHive (λ name. ⊥)) → IfErr r (IfDamaged P R)
hive_all P R (Ok x) cause = tt
hive_all P R (Err stop) cause = hive_if P R stop cause

pub else_of_read : (error : ReadErr) → IsElse (catalog_stop_of error)
else_of_read (reading.Damaged name) = tt
else_of_read reading.Fault = tt
else_of_read reading.Memory = tt

-- a publish's file that wasn't read
pub staged_absent : {B : Type 0} (o : Opened B) (s t : Seen) (number place : ℕ) (nuspec : Bool) (error : ReadErr)
    → ((m now : Area) → s.held ≡ Some m → t.held ≡ Some now → IfDamagedBy error (λ n. IsUnsettled m o n ⊎ IsAbsent (staged_name number place nuspec) now n))
    → o.settled ≡ true → t.held ≡ s.held → IfDamaged (IsStagedAbsent t.held) (λ n. ⊥) (catalog_stop_of error)
staged_absent o s t number place nuspec (reading.Damaged name) damaged settled same = λ m is.
    ⊎_elim (λ here. let no : ⊥ = cc in absurd no) (λ there. (number, place, nuspec, there.0, ap (get m) there.0 ∙ there.1)) (damaged m m (sym same ∙ is) is)
staged_absent o s t number place nuspec reading.Fault damaged settled same = tt
staged_absent o s t number place nuspec reading.Memory damaged settled same = tt

pub hive_quiet : {A : Type 0} (P : List ℕ → Type 0) (stop : Stop) (r : Result A Stop) → r ≡ Err stop → IsOfHive P stop → IsErrOf r CatalogFault → ⊥
hive_quiet P stop r told cause failed = let same : stop ≡ CatalogFault = cc in subst (IsOfHive P) same cause

-- a blob of the catalog that is damaged, told of passes
catalog_if : (P R : List ℕ → Type 0) (stop : Stop) → IsStopOfCatalog P stop → IfDamaged P R stop
catalog_if P R CatalogFault cause = tt
catalog_if P R HiveFault cause = absurd cause
catalog_if P R (CatalogDamaged name) cause = cause
catalog_if P R (HiveDamaged name) cause = absurd cause
catalog_if P R Memory cause = tt

pub items_damaged : {A : Type 0} (P R : List ℕ → Type 0) (stop : Stop) (r : Result A Stop) → r ≡ Err stop → IsStopOfCatalog P stop → IfErr r (IfDamaged P R)
items_damaged {A} P R stop r told cause = subst (λ (x : Result A Stop). IfErr x (IfDamaged P R)) (sym told) (catalog_if P R stop cause)

staged_if : {B : Type 0} (o : Opened B) (s : Seen) (R : List ℕ → Type 0) (stop : Stop) → IfDamaged (IsStagedAbsent s.held) (λ n. ⊥) stop → IfDamaged (IsLostBlob o s) R stop
staged_if o s R CatalogFault cause = tt
staged_if o s R HiveFault cause = tt
staged_if o s R (CatalogDamaged name) cause = λ m is. inr (cause m is)
staged_if o s R (HiveDamaged name) cause = absurd cause
staged_if o s R Memory cause = tt

pub plan_damaged : {A B : Type 0} (o : Opened B) (s : Seen) (R : List ℕ → Type 0) (r : Result A Stop) → IfErr r (IfDamaged (IsStagedAbsent s.held) (λ n. ⊥)) → IfErr r (IfDamaged (IsLostBlob o s) R)
plan_damaged o s R (Ok x) cause = tt
plan_damaged o s R (Err stop) cause = staged_if o s R stop cause
