-- What gets leave of a store, one behind the other.
use Rattle.std.proofs.Common.{◌≡◌, ◌<◌, ◌≤◌, ℕ, List, Some, Ok, Err, Result, inr, ⊎_elim, refl, sym, ◌∙◌, ap, subst, arith}
use Rattle.std.specs.Prelude.{IsErrOf}
use Rattle.std.proofs.lemmas.Bool.{cases_lt}
use Rattle.feed_base.specs.Counts.{CountsFault}
use Rattle.blob_store.specs.Area.{Area}
use Rattle.blob_store.specs.Events.{Act}
use Rattle.blob_store.specs.Moments.{LeavesOnly}
use Rattle.blob_store.specs.Plans.{Makes, RunsInMemory}
use Rattle.blob_store.specs.Seen.{Seen, IsSure}
use Rattle.blob_store.specs.Steps.{AfterPrefix}
use Rattle.blob_store.specs.declared.error.BlobErr.{BlobErr}
use Rattle.blob_store.specs.declared.error.BlobErr.TheVariants as blob
use Rattle.blob_store.proofs.Moments.{started, weaker}
use Rattle.blob_store.proofs.PlanFronts.{plan_leaves}
use Rattle.blob_store.proofs.Told.{made_quietly}
use Rattle.catalog_opening.specs.Plans.{HaltsAt, RunsReading}
use Rattle.catalog_opening.specs.declared.error.ReadErr.{ReadErr}
use Rattle.catalog_opening.specs.declared.error.ReadErr.TheVariants as read
use Rattle.catalog_opening.proofs.Halting.{AreGets, gets_keep, halt_counts, halt_keeps}
use Rattle.catalog_opening.proofs.Prefixes.{after_gets_alone}
use Rattle.catalog_items.specs.Framing.{OnlyGets}

pub leaves_then : (a b c : Seen) (P : Area → Type 0) → LeavesOnly a b P → LeavesOnly b c P → LeavesOnly a c P
leaves_then a b c P first second = record {
  later = omega (arith, first.later, second.later);
  each = λ few t m low high at. ⊎_elim
      (λ (early : t < b.calls). first.each (omega (arith, few, second.later)) t m low (omega (arith, early)) (second.before few t m early at))
      (λ (late : b.calls ≤ t). second.each few t m late high at)
      (cases_lt t b.calls);
  before = λ few t m early at. first.before (omega (arith, few, second.later)) t m early (second.before few t m (omega (arith, early, first.later)) at);
}

pub counts_as : (before now : ℕ) (P Q : Type 0) → CountsFault before now P → (P → Q) → (Q → P) → CountsFault before now Q
counts_as before now P Q count to from = record { later = count.later; risen = λ q. count.risen (from q); kept = λ no. count.kept (λ p. no (to p)) }

pub counts_then : (a b c : ℕ) (P Q : Type 0) → CountsFault a b P → (P → ⊥) → CountsFault b c Q → CountsFault a c Q
counts_then a b c P Q first quiet second = subst (λ (n : ℕ). CountsFault n c Q) (first.kept quiet) second

pub counts_none : (a : ℕ) (P : Type 0) → (P → ⊥) → CountsFault a a P
counts_none a P quiet = record { later = omega arith; risen = λ p. absurd (quiet p); kept = λ _. refl }

pub gets_as : (a b : Seen) (P Q : Type 0) → OnlyGets a b P → (P → Q) → (Q → P) → OnlyGets a b Q
gets_as a b P Q gets to from = record { counts = counts_as a.faults b.faults P Q gets.counts to from; area = gets.area; moments = gets.moments }

pub gets_then : (a b c : Seen) (P Q : Type 0) → OnlyGets a b P → (P → ⊥) → OnlyGets b c Q → OnlyGets a c Q
gets_then a b c P Q first quiet second = record {
  counts = counts_then a.faults b.faults c.faults P Q first.counts quiet second.counts;
  area = second.area ∙ first.area;
  moments = λ m is. leaves_then a b c (λ left. left ≡ m) (first.moments m is) (second.moments m (first.area ∙ is));
}

pub gets_none : (a : Seen) (P : Type 0) → IsSure a → (P → ⊥) → OnlyGets a a P
gets_none a P sure quiet = record {
  counts = counts_none a.faults P quiet;
  area = refl;
  moments = λ m is. started a m (λ left. left ≡ m) sure is refl;
}

-- a plan of gets, made as a read tells
module _ (plan : List Act) (a b : Seen) (gets : AreGets plan) where
  gets_moments : {A : Type 0} (r : Result A BlobErr) → RunsInMemory plan a b r → (m : Area) → a.held ≡ Some m → LeavesOnly a b (λ left. left ≡ m)
  gets_moments r runs m is = weaker a b (AfterPrefix plan m) (λ left. left ≡ m) (plan_leaves plan a b m r runs is) (λ left here. after_gets_alone plan m left gets here)

  halt_moments : (error : ReadErr) → HaltsAt plan error a b → (m : Area) → a.held ≡ Some m → LeavesOnly a b (λ left. left ≡ m)
  halt_moments (read.Damaged name) some = gets_moments {A = Unit {0}} (Err blob.Memory) (inr some)
  halt_moments read.Fault stops = gets_moments {A = Unit {0}} (Err blob.Failed) stops
  halt_moments read.Memory halts = gets_moments {A = Unit {0}} (Err blob.Memory) halts

  pub made_gets : (P : Type 0) → (P → ⊥) → Makes plan a b → OnlyGets a b P
  made_gets P quiet made = record {
    counts = subst (λ (n : ℕ). CountsFault a.faults n P) (sym (made_quietly plan a b made)) (counts_none a.faults P quiet);
    area = gets_keep plan a b gets made;
    moments = gets_moments {A = Unit {0}} (Ok tt) made;
  }

  pub only_gets : {A : Type 0} (r : Result A ReadErr) → RunsReading plan a b r → OnlyGets a b (IsErrOf r read.Fault)
  only_gets (Ok x) made = made_gets _ (λ is. let no : ⊥ = cc in no) made
  only_gets (Err error) halts = record {
    counts = counts_as a.faults b.faults _ _ (halt_counts plan error a b halts) (λ is. ap Err is) (λ is. let same : error ≡ read.Fault = cc in same);
    area = halt_keeps plan error a b gets halts;
    moments = halt_moments error halts;
  }

-- what a read that is done, or that wants memory, tells isn't a fault
pub done_quietly : {A : Type 0} (r : Result A ReadErr) (x : A) → r ≡ Ok x → IsErrOf r read.Fault → ⊥
done_quietly r x is failed = let no : ⊥ = cc in no

pub memory_quietly : {A : Type 0} (r : Result A ReadErr) → r ≡ Err read.Memory → IsErrOf r read.Fault → ⊥
memory_quietly r is failed = let no : ⊥ = cc in no

-- an error that is told on
pub fault_told : {A C : Type 0} (r : Result A ReadErr) (q : Result C ReadErr) (error : ReadErr) → r ≡ Err error → q ≡ Err error → IsErrOf r read.Fault → IsErrOf q read.Fault
fault_told r q error is told failed =
    let same : error ≡ read.Fault = cc in
    told ∙ ap Err same

pub gets_told : {A C : Type 0} (a b : Seen) (r : Result A ReadErr) (q : Result C ReadErr) (error : ReadErr) → r ≡ Err error → q ≡ Err error
    → OnlyGets a b (IsErrOf r read.Fault) → OnlyGets a b (IsErrOf q read.Fault)
gets_told a b r q error is told gets = gets_as a b _ _ gets (fault_told r q error is told) (fault_told q r error told is)

pub gets_done : {A : Type 0} (a b : Seen) (r : Result A ReadErr) (x : A) (P : Type 0) → r ≡ Ok x → (P → ⊥) → OnlyGets a b (IsErrOf r read.Fault) → OnlyGets a b P
gets_done a b r x P is quiet gets = gets_as a b _ P gets (λ failed. absurd (done_quietly r x is failed)) (λ p. absurd (quiet p))
