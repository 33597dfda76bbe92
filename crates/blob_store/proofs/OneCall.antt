-- No call, and one call.
use Rattle.std.proofs.Common.{◌≡◌, ◌⊎◌, ◌<◌, ◌≤◌, ◌+◌, min, ℕ, zero, suc, List, [], ◌∷◌, ◌++◌, Option, Some, None, Ok, Err, Result, option_map, inl, inr, refl, sym, ◌∙◌, ap, subst, arith, append-nil, Bool, true, false, nat_lt}
use Rattle.std.proofs.lemmas.Bool.Decides.{nat_tests}
use Rattle.std.specs.Prelude.{IfSome, IsErrOf}
use Rattle.feed_base.specs.Counts.{most, CountsFault}
use Rattle.feed_base.proofs.Options.{at_some}
use Rattle.blob_store.specs.Asked.{Asks}
use Rattle.blob_store.specs.Area.{Area}
use Rattle.blob_store.specs.Blobs.{IsAfter, IsImage, IsImageOf}
use Rattle.blob_store.specs.Moments.{Elapses}
use Rattle.blob_store.specs.Runs.{after_call, name_of}
use Rattle.blob_store.specs.declared.call.Call.{Call}
use Rattle.blob_store.specs.declared.error.BlobErr.{BlobErr}
use Rattle.blob_store.specs.declared.error.BlobErr.TheVariants.{Failed, Memory}
use Rattle.blob_store.specs.Events.{Act, Get, Change, Fate, Done, FailedOld, FailedNew, NoMemory, with_effect, after_act, faults_after_one, told_name, MayLeaveWithin, MayLeave}
use Rattle.blob_store.specs.Seen.{Seen, IsSure}
use Rattle.blob_store.specs.Tracked.{Tracked}
use Rattle.blob_store.specs.Plans.{IsToldAs, StopsAt, Runs}

count_one : (a b : ℕ) → a ≤ b → (a < most → b ≡ a + 1) → (few : Bool) → nat_lt a most ≡ few → min b most ≡ min (a + 1) most
count_one a b le more true e =
    let few : a < most = grind (arith, nat_tests) in
    ap (λ (n : ℕ). min n most) (more few)
count_one a b le more false e =
    let many : most ≤ a = grind (arith, nat_tests) in
    omega (arith, le, many)

unchanged : (o : Option Area) → o ≡ option_map (λ m. m) o
unchanged None = refl
unchanged (Some m) = refl

unasked : (o : Option (List (List ℕ))) → o ≡ option_map (λ (l : List (List ℕ)). l ++ []) o
unasked None = refl
unasked (Some l) = ap Some (sym (append-nil l))

pub none : (a : Seen) → IsSure a → Tracked [] a a
none a sure = record {
  later = omega arith;
  counted = omega arith;
  faults_grow = omega arith;
  faults = refl;
  area = unchanged a.held;
  names = unasked a.asked;
  moments = λ m is few k crashed within at. sure m crashed few is (subst (λ (t : ℕ). a.left t crashed) (let same : a.calls + k ≡ a.calls = omega (arith, within) in same) at);
  before = λ few t crashed low at. at;
}

-- what the trait says of a call, as an event
pub one : (act : Act) (fate : Fate) (images : Area → Type 0) (a b : Seen) → IsSure b → Elapses a.calls b.calls a.left b.left images
    → ((m crashed : Area) → a.held ≡ Some m → images crashed → MayLeaveWithin act fate m crashed)
    → b.held ≡ option_map (after_act act fate) a.held → a.faults ≤ b.faults → b.faults ≡ faults_after_one fate a.faults → b.asked ≡ option_map (λ (l : List (List ℕ)). l ++ (told_name act fate ++ [])) a.asked
    → Tracked ((record { act = act; fate = fate }) ∷ []) a b
one act fate images a b sure time within_call after grow faults names = record {
  later = time.later;
  counted = count_one a.calls b.calls time.later time.one_more (nat_lt a.calls most) refl;
  faults_grow = grow;
  faults = faults;
  area = after;
  names = names;
  moments = λ m is few k crashed within at. in_time m is few k crashed within at;
  before = λ few t crashed low at. time.earlier (omega (arith, few, time.later)) t crashed low at;
}
  where
    in_time : (m : Area) → a.held ≡ Some m → b.calls < most → (k : ℕ) (crashed : Area) → k ≤ 1 → b.left (a.calls + k) crashed → MayLeave ((record { act = act; fate = fate }) ∷ []) m k crashed
    in_time m is few zero crashed within at =
        within_call m crashed is
        (time.within (omega (arith, few, time.later)) crashed (subst (λ (t : ℕ). b.left t crashed) (let same : a.calls + 0 ≡ a.calls = omega arith in same) at))
    in_time m is few (suc k) crashed within at =
        sure (after_act act fate m) crashed few (after ∙ ap (option_map (after_act act fate)) is)
        (subst (λ (t : ℕ). b.left t crashed) (let same : a.calls + suc k ≡ b.calls = omega (arith, within, time.one_more (omega (arith, few, time.later))) in same) at)

pub stops : (act : Act) (fate : Fate) (error : BlobErr) (a b : Seen) → Tracked ((record { act = act; fate = fate }) ∷ []) a b
    → IsToldAs fate error → StopsAt (act ∷ []) error a b
stops act fate error a b tracked told = (_, record { first = []; last = act; unmade = []; fate = fate; planned = refl; made = refl; told = told }, tracked)

-- what a crash within a call leaves, at the area before it
module _ (act : Act) (a : Seen) (m crashed : Area) (is : a.held ≡ Some m) where
  either : IsImage (with_effect act) a.held crashed → MayLeaveWithin act Done m crashed
  either here = at_some a.held (λ h. (crashed ≡ h) ⊎ (crashed ≡ with_effect act h)) m is here

  unmoved : IfSome a.held (λ h. crashed ≡ h) → MayLeaveWithin act NoMemory m crashed
  unmoved here = at_some a.held (λ h. crashed ≡ h) m is here

pub got : {A : Type 0} (name : List ℕ) (a b : Seen) (result : Result A BlobErr) → IsSure b → Elapses a.calls b.calls a.left b.left (IsImageOf result (λ m. m) a.held)
    → b.held ≡ a.held → CountsFault a.faults b.faults (IsErrOf result Failed) → Asks name a.asked b.asked result → Runs (Get name ∷ []) a b result
got name a b (Ok x) sure time same count asks =
    one (Get name) Done _ a b sure time (λ m crashed is here. either (Get name) a m crashed is here) (same ∙ unchanged a.held) count.later (count.kept (λ no. let none : ⊥ = cc in none)) asks
got name a b (Err Failed) sure time same count asks =
    stops (Get name) FailedOld Failed a b (one (Get name) FailedOld _ a b sure time (λ m crashed is here. either (Get name) a m crashed is here) (same ∙ unchanged a.held) count.later (count.risen refl) asks) refl
got name a b (Err Memory) sure time same count asks =
    stops (Get name) NoMemory Memory a b (one (Get name) NoMemory _ a b sure time (λ m crashed is here. unmoved (Get name) a m crashed is here) (same ∙ unchanged a.held) count.later (count.kept (λ no. let none : ⊥ = cc in none)) (asks ∙ unasked a.asked)) refl

pub changed : (call : Call) (a b : Seen) (result : Result Unit BlobErr) → IsSure b → Elapses a.calls b.calls a.left b.left (IsImageOf result (after_call call) a.held)
    → IsAfter (after_call call) a.held b.held result → CountsFault a.faults b.faults (IsErrOf result Failed) → Asks (name_of call) a.asked b.asked result → Runs (Change call ∷ []) a b result
changed call a b (Ok x) sure time after count asks =
    one (Change call) Done _ a b sure time (λ m crashed is here. either (Change call) a m crashed is here) after count.later (count.kept (λ no. let none : ⊥ = cc in none)) asks
changed call a b (Err Failed) sure time (inl kept) count asks =
    stops (Change call) FailedOld Failed a b (one (Change call) FailedOld _ a b sure time (λ m crashed is here. either (Change call) a m crashed is here) (kept ∙ unchanged a.held) count.later (count.risen refl) asks) refl
changed call a b (Err Failed) sure time (inr made) count asks =
    stops (Change call) FailedNew Failed a b (one (Change call) FailedNew _ a b sure time (λ m crashed is here. either (Change call) a m crashed is here) made count.later (count.risen refl) asks) refl
changed call a b (Err Memory) sure time kept count asks =
    stops (Change call) NoMemory Memory a b (one (Change call) NoMemory _ a b sure time (λ m crashed is here. unmoved (Change call) a m crashed is here) (kept ∙ unchanged a.held) count.later (count.kept (λ no. let none : ⊥ = cc in none)) (asks ∙ unasked a.asked)) refl
