-- How much the relation tells of the events.
use Rattle.std.proofs.Common.{◌≡◌, ◌<◌, ℕ, List, [], ◌∷◌, ◌++◌, length, Some, Ok, Err, Result, option_map, refl, sym, ap, ◌∙◌, arith}
use Rattle.std.proofs.lemmas.List.{append_cancel_left}
use Rattle.std.specs.Prelude.{IsErrOf}
use Rattle.feed_base.specs.Counts.{most, raised, HasRisen, CountsFault}
use Rattle.blob_store.specs.declared.error.BlobErr.{BlobErr}
use Rattle.blob_store.specs.declared.error.BlobErr.TheVariants.{Failed}
use Rattle.blob_store.specs.Events.{Act, Event, Fate, Done, FailedOld, FailedNew, NoMemory, faults_after_one, faults_after_all, names_asked}
use Rattle.blob_store.specs.Plans.{all_done, IsToldAs, Makes, StopsAt, Runs}
use Rattle.blob_store.specs.Seen.{Seen}
use Rattle.blob_store.specs.Tracked.{Tracked}
use Rattle.blob_store.proofs.Compose.{faults_after_all-append}

-- two lists of events between the same stores are as long as each other: no call is hidden, and none stands for two
pub as_many : (xs ys : List Event) (a b : Seen) → b.calls < most → Tracked xs a b → Tracked ys a b → length xs ≡ length ys
as_many xs ys a b few first second = omega (arith, few, first.later, first.counted, second.counted)

-- where the store tells names, they are the same in both
pub names_alike : (xs ys : List Event) (a b : Seen) (l : List (List ℕ)) → a.asked ≡ Some l → Tracked xs a b → Tracked ys a b → names_asked xs ≡ names_asked ys
names_alike xs ys a b l is first second =
    let both : option_map (λ (k : List (List ℕ)). k ++ names_asked xs) a.asked ≡ option_map (λ (k : List (List ℕ)). k ++ names_asked ys) a.asked = sym first.names ∙ second.names in
    let told : Some (l ++ names_asked xs) ≡ Some (l ++ names_asked ys) = (rw is at both) in
    let same : l ++ names_asked xs ≡ l ++ names_asked ys = cc in
    append_cancel_left l (names_asked xs) (names_asked ys) same

-- a plan that was made counts no fault
pub faults_of_done : (plan : List Act) (faults : ℕ) → faults_after_all (all_done plan) faults ≡ faults
faults_of_done [] faults = refl
faults_of_done (act ∷ plan) faults = faults_of_done plan faults

pub made_quietly : (plan : List Act) (a b : Seen) → Makes plan a b → b.faults ≡ a.faults
made_quietly plan a b made = made.faults ∙ faults_of_done plan a.faults

failed_once : (fate : Fate) (error : BlobErr) (faults : ℕ) → IsToldAs fate error → error ≡ Failed → faults_after_one fate faults ≡ raised faults
failed_once Done error faults told is = absurd told
failed_once FailedOld error faults told is = refl
failed_once FailedNew error faults told is = refl
failed_once NoMemory error faults told is = absurd (let no : ⊥ = cc in no)

failed_not : (fate : Fate) (error : BlobErr) (faults : ℕ) → IsToldAs fate error → (error ≡ Failed → ⊥) → faults_after_one fate faults ≡ faults
failed_not Done error faults told other = absurd told
failed_not FailedOld error faults told other = absurd (other told)
failed_not FailedNew error faults told other = absurd (other told)
failed_not NoMemory error faults told other = refl

-- the count of a plan that was stopped: one fault where a call failed, else none
pub stop_counts : (plan : List Act) (error : BlobErr) (a b : Seen) → StopsAt plan error a b → CountsFault a.faults b.faults (error ≡ Failed)
stop_counts plan error a b (events, ends, tracked) =
    let last_one : b.faults ≡ faults_after_one ends.fate a.faults =
    tracked.faults ∙ ap (λ (es : List Event). faults_after_all es a.faults) ends.made
    ∙ faults_after_all-append (all_done ends.first) ((record { act = ends.last; fate = ends.fate }) ∷ []) a.faults
    ∙ ap (faults_after_one ends.fate) (faults_of_done ends.first a.faults) in
    record {
      later = tracked.faults_grow;
      risen = λ is. last_one ∙ failed_once ends.fate error a.faults ends.told is;
      kept = λ no. last_one ∙ failed_not ends.fate error a.faults ends.told no;
    }

-- the count of a run
pub run_counts : {A : Type 0} (plan : List Act) (a b : Seen) (result : Result A BlobErr) → Runs plan a b result → CountsFault a.faults b.faults (IsErrOf result Failed)
run_counts plan a b (Ok x) made = record { later = made.faults_grow; risen = λ no. absurd (let none : ⊥ = cc in none); kept = λ _. made_quietly plan a b made }
run_counts plan a b (Err error) stops =
    let count = stop_counts plan error a b stops in
    record { later = count.later; risen = λ is. count.risen (let same : error ≡ Failed = cc in same); kept = λ no. count.kept (λ is. no (ap Err is)) }

-- the cause of a plan that failed
pub stop_has_risen : (plan : List Act) (a b : Seen) → StopsAt plan Failed a b → HasRisen a.faults b.faults
stop_has_risen plan a b stops = omega (arith, (stop_counts plan Failed a b stops).risen refl)

pub run_has_risen : {A : Type 0} (plan : List Act) (a b : Seen) (result : Result A BlobErr) → Runs plan a b result → IsErrOf result Failed → HasRisen a.faults b.faults
run_has_risen plan a b result runs is = omega (arith, (run_counts plan a b result runs).risen is)
