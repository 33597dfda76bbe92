-- What a round read, by what it answers.
use Rattle.std.proofs.Common.{◌≡◌, ◌++◌, ℕ, List, [], true, Some, Ok, Err, Result, inl, inr, refl, sym, subst}
use Rattle.blob_store.specs.Area.{Area}
use Rattle.blob_store.specs.Events.{Act}
use Rattle.blob_store.specs.Plans.{Makes}
use Rattle.blob_store.specs.Seen.{Seen}
use Rattle.blob_store.proofs.InMemory.{some_all}
use Rattle.pkg_meta.specs.Catalog.{Catalog}
use Rattle.catalog_doc.specs.declared.row.Row.{Row}
use Rattle.catalog_opening.specs.Errors.{IfDamagedBy}
use Rattle.catalog_opening.specs.Plans.{HaltsAt}
use Rattle.catalog_opening.specs.declared.error.ReadErr.{ReadErr}
use Rattle.catalog_opening.specs.declared.error.ReadErr.TheVariants as reading
use Rattle.catalog_core.specs.Opened.{IsUnsettled, Opened}
use Rattle.fold_core.specs.Folds.{Fold}
use Rattle.fold_core.specs.declared.hive.HiveName.{HiveName}
use Rattle.id_pass.specs.declared.error.RoundErr.{RoundErr}
use Rattle.id_pass.specs.declared.error.RoundErr.TheVariants as told
use Rattle.id_pass.specs.declared.error.RoundOut.{RoundOut}
use Rattle.id_pass.specs.declared.error.RoundOut.TheVariants.{Done, Idle}
use Rattle.job_round.specs.Answers.{IsStopTold}
use Rattle.job_round.specs.Reads.{EndsReading, ReadsRound, RoundReads, StopsReading, passes_reads}
use Rattle.job_round.specs.Stops.{IsDamage, catalog_stop_of}
use Rattle.job_round.specs.declared.stop.Stop.{Stop}
use Rattle.job_round.specs.declared.stop.Stop.TheVariants.{CatalogFault, HiveFault, CatalogDamaged, HiveDamaged, Memory}

-- a settled catalog that read nothing gave no answer
pub quiet_halts : {B : Type 0} (o : Opened B) (error : ReadErr) (stop : Stop) (a b : Seen) → stop ≡ catalog_stop_of error → o.settled ≡ true → HaltsAt [] error a b
    → ((m : Area) → a.held ≡ Some m → IfDamagedBy error (IsUnsettled m o)) → StopsReading [] stop a b
quiet_halts o error stop a b is settled halts damaged = subst (λ (s : Stop). StopsReading [] s a b) (sym is) (by error halts damaged)
  where
    by : (e : ReadErr) → HaltsAt [] e a b → ((m : Area) → a.held ≡ Some m → IfDamagedBy e (IsUnsettled m o)) → StopsReading [] (catalog_stop_of e) a b
    by (reading.Damaged name) some lost = (some, λ m held. let why : IsUnsettled m o name = lost m held in let no : ⊥ = cc in absurd no)
    by reading.Fault stops lost = stops
    by reading.Memory made lost = made

-- something of the hive is damaged
pub damage_reads : (P : List ℕ → Type 0) (plan : List Act) (stop : Stop) (a b : Seen) → IsDamage P stop → Makes plan a b → StopsReading plan stop a b
damage_reads P plan CatalogFault a b damage made = absurd damage
damage_reads P plan HiveFault a b damage made = absurd damage
damage_reads P plan (CatalogDamaged name) a b damage made = absurd damage
damage_reads P plan (HiveDamaged name) a b damage made = some_all plan a b made
damage_reads P plan Memory a b damage made = inr (some_all plan a b made)

-- a stop, as it is told
ends_reading : (hive : HiveName) (stop : Stop) (error : RoundErr) (plan : List Act) (a b : Seen) → IsStopTold hive stop error → StopsReading plan stop a b → EndsReading plan error a b
ends_reading hive CatalogFault error plan a b is halts = subst (λ (e : RoundErr). EndsReading plan e a b) (sym is) halts
ends_reading hive HiveFault error plan a b is halts = subst (λ (e : RoundErr). EndsReading plan e a b) (sym is) halts
ends_reading hive (CatalogDamaged name) error plan a b (inl is) (some, reach) = subst (λ (e : RoundErr). EndsReading plan e a b) (sym is) (some, inr (name, refl, reach))
ends_reading hive (CatalogDamaged name) error plan a b (inr is) (some, reach) = subst (λ (e : RoundErr). EndsReading plan e a b) (sym is) (inr some)
ends_reading hive (HiveDamaged name) error plan a b (inl is) some = subst (λ (e : RoundErr). EndsReading plan e a b) (sym is) (some, inl (hive, name, refl))
ends_reading hive (HiveDamaged name) error plan a b (inr is) some = subst (λ (e : RoundErr). EndsReading plan e a b) (sym is) (inr some)
ends_reading hive Memory error plan a b is halts = subst (λ (e : RoundErr). EndsReading plan e a b) (sym is) halts

module _ (f : Fold) (Q : Catalog → Type 0) (rows : List Row) (a b s t : Seen) where
  pub reads_ok : (out : RoundOut) → ReadsRound f Q rows a b s t (Ok out) → RoundReads f Q rows a b s t (Ok out)
  reads_ok (Done n) reads = reads
  reads_ok (Idle n) reads = reads

  pub reads_err : (hive : HiveName) (stop : Stop) (error : RoundErr) → IsStopTold hive stop error → ReadsRound f Q rows a b s t (Err stop) → RoundReads f Q rows a b s t (Err error)
  reads_err hive stop error is (inl early) = inl (ends_reading hive stop error [] s t is early)
  reads_err hive stop error is (inr (c, target, stamp, keys, task, own, (passes, rest, reads, same, all, next, halts))) =
      inr (c, target, stamp, keys, task, own, (passes, rest, reads, same, all, next, ends_reading hive stop error (passes_reads c rows passes ++ reads) s t is halts))
