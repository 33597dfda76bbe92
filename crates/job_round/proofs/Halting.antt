-- Plans that a job made, up to where it stopped.
use Rattle.std.proofs.Common.{◌≡◌, ℕ, List, [], ◌∷◌, ◌++◌, Err, Result, inl, inr, refl, sym, subst}
use Rattle.feed_base.specs.Counts.{CountsFault}
use Rattle.blob_store.specs.Events.{Act, Get}
use Rattle.blob_store.specs.Plans.{Makes, MakesSome, StopsAt}
use Rattle.blob_store.specs.Seen.{IsSure, Seen}
use Rattle.blob_store.specs.declared.error.BlobErr.{BlobErr}
use Rattle.blob_store.specs.declared.error.BlobErr.TheVariants as blob
use Rattle.blob_store.proofs.Following.{stops_behind, stops_early}
use Rattle.blob_store.proofs.InMemory.{some_all, some_behind, some_early}
use Rattle.blob_store.proofs.OneCall.{none}
use Rattle.blob_store.proofs.Told.{made_quietly, stop_counts}
use Rattle.catalog_items.proofs.Getting.{counts_as, counts_none}
use Rattle.job_round.specs.Stops.{JobHaltsAt, IsElse, IsOfHive, IsStopOfCatalog, RunsTo, hive_stop_of}
use Rattle.job_round.specs.declared.stop.Stop.{Stop}
use Rattle.job_round.specs.declared.stop.Stop.TheVariants.{CatalogFault, HiveFault, CatalogDamaged, HiveDamaged, Memory}

module _ (p q : List Act) where
  pub halts_then : (stop : Stop) (a b c : Seen) → Makes p a b → JobHaltsAt q stop b c → JobHaltsAt (p ++ q) stop a c
  halts_then CatalogFault a b c first second = some_behind p q a b c first second
  halts_then HiveFault a b c first second = stops_behind p q blob.Failed a b c first second
  halts_then (CatalogDamaged name) a b c first second = some_behind p q a b c first second
  halts_then (HiveDamaged name) a b c first second = some_behind p q a b c first second
  halts_then Memory a b c first (inl second) = inl (stops_behind p q blob.Memory a b c first second)
  halts_then Memory a b c first (inr second) = inr (some_behind p q a b c first second)

  pub halts_early : (stop : Stop) (a b : Seen) → JobHaltsAt p stop a b → JobHaltsAt (p ++ q) stop a b
  halts_early CatalogFault a b some = some_early p q a b some
  halts_early HiveFault a b stops = stops_early p q blob.Failed a b stops
  halts_early (CatalogDamaged name) a b some = some_early p q a b some
  halts_early (HiveDamaged name) a b some = some_early p q a b some
  halts_early Memory a b (inl stops) = inl (stops_early p q blob.Memory a b stops)
  halts_early Memory a b (inr some) = inr (some_early p q a b some)

module _ (plan : List Act) where
  -- the plan was made, and then something else stopped
  pub halts_behind : (stop : Stop) (a b : Seen) → IsElse stop → Makes plan a b → JobHaltsAt plan stop a b
  halts_behind CatalogFault a b other made = some_all plan a b made
  halts_behind HiveFault a b other made = absurd other
  halts_behind (CatalogDamaged name) a b other made = some_all plan a b made
  halts_behind (HiveDamaged name) a b other made = some_all plan a b made
  halts_behind Memory a b other made = inr (some_all plan a b made)

  -- nothing was called
  pub halts_before : (stop : Stop) (a : Seen) → IsElse stop → IsSure a → JobHaltsAt plan stop a a
  halts_before CatalogFault a other sure = ([], plan, refl, none a sure)
  halts_before HiveFault a other sure = absurd other
  halts_before (CatalogDamaged name) a other sure = ([], plan, refl, none a sure)
  halts_before (HiveDamaged name) a other sure = ([], plan, refl, none a sure)
  halts_before Memory a other sure = inr ([], plan, refl, none a sure)

  some_counts : (a b : Seen) (P : Type 0) → (P → ⊥) → MakesSome plan a b → CountsFault a.faults b.faults P
  some_counts a b P quiet (first, unmade, is, made) = subst (λ (n : ℕ). CountsFault a.faults n P) (sym (made_quietly first a b made)) (counts_none a.faults P quiet)

  made_counts : (a b : Seen) (P : Type 0) → (P → ⊥) → Makes plan a b → CountsFault a.faults b.faults P
  made_counts a b P quiet made = subst (λ (n : ℕ). CountsFault a.faults n P) (sym (made_quietly plan a b made)) (counts_none a.faults P quiet)

  pub halt_counts : (stop : Stop) (a b : Seen) → JobHaltsAt plan stop a b → CountsFault a.faults b.faults (stop ≡ HiveFault)
  halt_counts CatalogFault a b some = some_counts a b _ (λ is. let no : ⊥ = cc in no) some
  halt_counts HiveFault a b stops = counts_as a.faults b.faults _ _ (stop_counts plan blob.Failed a b stops) (λ is. refl) (λ is. refl)
  halt_counts (CatalogDamaged name) a b some = some_counts a b _ (λ is. let no : ⊥ = cc in no) some
  halt_counts (HiveDamaged name) a b some = some_counts a b _ (λ is. let no : ⊥ = cc in no) some
  halt_counts Memory a b (inl stops) = counts_as a.faults b.faults _ _ (stop_counts plan blob.Memory a b stops) (λ is. let no : ⊥ = cc in absurd no) (λ is. let no : ⊥ = cc in absurd no)
  halt_counts Memory a b (inr some) = some_counts a b _ (λ is. let no : ⊥ = cc in no) some

  -- what a call of the hive's store that stopped made
  pub halts_of : (error : BlobErr) (a b : Seen) → StopsAt plan error a b → JobHaltsAt plan (hive_stop_of error) a b
  halts_of blob.Failed a b stops = stops
  halts_of blob.Memory a b stops = inl stops

  -- behind a `?`
  pub halts_told : {A : Type 0} (r : Result A Stop) (stop : Stop) (a b : Seen) → r ≡ Err stop → JobHaltsAt plan stop a b → RunsTo plan a b r
  halts_told {A} r stop a b is halts = subst (λ (x : Result A Stop). RunsTo plan a b x) (sym is) halts

pub of_hive : (error : BlobErr) → IsOfHive (λ name. ⊥) (hive_stop_of error)
of_hive blob.Failed = tt
of_hive blob.Memory = tt

pub else_of_catalog : (P : List ℕ → Type 0) (stop : Stop) → IsStopOfCatalog P stop → IsElse stop
else_of_catalog P CatalogFault cause = tt
else_of_catalog P HiveFault cause = cause
else_of_catalog P (CatalogDamaged name) cause = tt
else_of_catalog P (HiveDamaged name) cause = tt
else_of_catalog P Memory cause = tt

pub got_as : (name other : List ℕ) (a b : Seen) → name ≡ other → Makes (Get name ∷ []) a b → Makes (Get other ∷ []) a b
got_as name other a b same made = subst (λ (n : List ℕ). Makes (Get n ∷ []) a b) same made
