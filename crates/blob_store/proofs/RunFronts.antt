-- What a crash leaves of events, and of plans of changes.
use Rattle.std.proofs.Common.{◌≡◌, ◌⊎◌, ◌≤◌, ◌+◌, ◌-◌, ℕ, zero, suc, List, [], ◌∷◌, ◌++◌, length, map, Option, None, Some, option_map, Ok, Err, Result, inl, inr, ⊎_elim, refl, ◌∙◌, ap, subst, arith}
use Rattle.blob_store.specs.Seen.{Seen}
use Rattle.blob_store.specs.Area.{Area}
use Rattle.blob_store.specs.Moments.{LeavesOnly}
use Rattle.blob_store.specs.Runs.{after_call, after_calls, IsAfterSome}
use Rattle.blob_store.specs.declared.call.Call.{Call}
use Rattle.blob_store.specs.declared.error.BlobErr.{BlobErr}
use Rattle.blob_store.proofs.Fronts.{front_more}
use Rattle.blob_store.specs.Events.{Act, Change, Event, Fate, Done, FailedOld, FailedNew, NoMemory, with_effect, after_act, after_events, MayLeaveWithin, MayLeave}
use Rattle.blob_store.specs.Tracked.{Tracked}
use Rattle.blob_store.specs.Plans.{all_done, Makes, Runs}
use Rattle.blob_store.proofs.Compose.{leave_end}

pub front_of_done : (cs : List Call) (m : Area) (k : ℕ) (crashed : Area) → MayLeave (all_done (map Change cs)) m k crashed → IsAfterSome cs m crashed
front_of_done [] m k crashed here = (0, omega arith, here)
front_of_done (c ∷ cs) m zero crashed (inl old) = (0, omega arith, old)
front_of_done (c ∷ cs) m zero crashed (inr new) = front_more c cs m crashed (0, omega arith, new)
front_of_done (c ∷ cs) m (suc k) crashed here = front_more c cs m crashed (front_of_done cs (after_call c m) k crashed here)

-- one of the two areas, whatever became of the call
pub one_of_two : (act : Act) (fate : Fate) (m crashed : Area) → MayLeaveWithin act fate m crashed → (crashed ≡ m) ⊎ (crashed ≡ with_effect act m)
one_of_two act Done m crashed here = here
one_of_two act FailedOld m crashed here = here
one_of_two act FailedNew m crashed here = here
one_of_two act NoMemory m crashed here = inl here

by_fate : (c : Call) (cs : List Call) (fate : Fate) (m crashed : Area) → crashed ≡ after_act (Change c) fate m → IsAfterSome (c ∷ cs) m crashed
by_fate c cs Done m crashed is = front_more c cs m crashed (0, omega arith, is)
by_fate c cs FailedOld m crashed is = (0, omega arith, is)
by_fate c cs FailedNew m crashed is = front_more c cs m crashed (0, omega arith, is)
by_fate c cs NoMemory m crashed is = (0, omega arith, is)

pub front_of_early : (cs : List Call) (first : List Act) (last : Act) (unmade : List Act) (fate : Fate) → map Change cs ≡ first ++ last ∷ unmade
    → (m : Area) (k : ℕ) (crashed : Area) → MayLeave (all_done first ++ (record { act = last; fate = fate }) ∷ []) m k crashed → IsAfterSome cs m crashed
front_of_early [] [] last unmade fate planned m k crashed here = absurd (let no : ⊥ = cc in no)
front_of_early [] (f ∷ first) last unmade fate planned m k crashed here = absurd (let no : ⊥ = cc in no)
front_of_early (c ∷ cs) [] last unmade fate planned m zero crashed here =
    let same : last ≡ Change c = cc in
    ⊎_elim
    (λ old. (0, omega arith, old))
    (λ new. front_more c cs m crashed (0, omega arith, new ∙ ap (λ (a : Act). with_effect a m) same))
    (one_of_two last fate m crashed here)
front_of_early (c ∷ cs) [] last unmade fate planned m (suc k) crashed here =
    let same : last ≡ Change c = cc in
    by_fate c cs fate m crashed (here ∙ ap (λ (a : Act). after_act a fate m) same)
front_of_early (c ∷ cs) (f ∷ first) last unmade fate planned m zero crashed (inl old) = (0, omega arith, old)
front_of_early (c ∷ cs) (f ∷ first) last unmade fate planned m zero crashed (inr new) =
    let same : f ≡ Change c = cc in
    front_more c cs m crashed (0, omega arith, new ∙ ap (λ (a : Act). with_effect a m) same)
front_of_early (c ∷ cs) (f ∷ first) last unmade fate planned m (suc k) crashed here =
    let same : f ≡ Change c = cc in
    let rest : map Change cs ≡ first ++ last ∷ unmade = cc in
    front_more c cs m crashed (front_of_early cs first last unmade fate rest (after_call c m) k crashed
    (subst (λ (a : Act). MayLeave (all_done first ++ (record { act = last; fate = fate }) ∷ []) (with_effect a m) k crashed) same here))

-- from events to a fact of each moment
pub leaves_only : (events : List Event) (a b : Seen) (m : Area) (P : Area → Type 0) → Tracked events a b → a.held ≡ Some m
    → ((k : ℕ) (crashed : Area) → k ≤ length events → MayLeave events m k crashed → P crashed) → LeavesOnly a b P
leaves_only events a b m P tracked is to = record {
  later = tracked.later;
  each = λ few t crashed low high at.
      let within : t - a.calls ≤ length events = omega (arith, low, high, few, tracked.counted) in
      let same : t ≡ a.calls + (t - a.calls) = omega (arith, low) in
      to (t - a.calls) crashed within (tracked.moments m is few (t - a.calls) crashed within (subst (λ (n : ℕ). b.left n crashed) same at));
  before = tracked.before;
}

-- a run of changes
pub run_leaves : {A : Type 0} (cs : List Call) (a b : Seen) (m : Area) (result : Result A BlobErr) → Runs (map Change cs) a b result → a.held ≡ Some m
    → LeavesOnly a b (IsAfterSome cs m)
run_leaves cs a b m (Ok x) tracked is = leaves_only (all_done (map Change cs)) a b m (IsAfterSome cs m) tracked is (λ k crashed within here. front_of_done cs m k crashed here)
run_leaves cs a b m (Err error) (events, ends, tracked) is = leaves_only events a b m (IsAfterSome cs m) tracked is (λ k crashed within here.
    front_of_early cs ends.first ends.last ends.unmade ends.fate ends.planned m k crashed (subst (λ (es : List Event). MayLeave es m k crashed) ends.made here))

pub run_holds : {A : Type 0} (cs : List Call) (a b : Seen) (m : Area) (result : Result A BlobErr) → Runs (map Change cs) a b result → a.held ≡ Some m
    → (now : Area) × (b.held ≡ Some now) × IsAfterSome cs m now
run_holds cs a b m (Ok x) tracked is = (
  after_events (all_done (map Change cs)) m,
  tracked.area ∙ ap (option_map (after_events (all_done (map Change cs)))) is,
  front_of_done cs m (length (all_done (map Change cs))) _ (leave_end (all_done (map Change cs)) m _ refl),
)
run_holds cs a b m (Err error) (events, ends, tracked) is = (
  after_events events m,
  tracked.area ∙ ap (option_map (after_events events)) is,
  front_of_early cs ends.first ends.last ends.unmade ends.fate ends.planned m (length events) (after_events events m)
      (subst (λ (es : List Event). MayLeave es m (length events) (after_events events m)) ends.made (leave_end events m _ refl)),
)

-- a whole run of changes
pub after_done : (cs : List Call) (m : Area) → after_events (all_done (map Change cs)) m ≡ after_calls cs m
after_done [] m = refl
after_done (c ∷ cs) m = after_done cs (after_call c m)

mapped : (o : Option Area) (f g : Area → Area) → ((m : Area) → f m ≡ g m) → option_map f o ≡ option_map g o
mapped None f g same = refl
mapped (Some m) f g same = ap Some (same m)

-- the area after a run that was done
pub run_done : (cs : List Call) (a b : Seen) → Makes (map Change cs) a b → b.held ≡ option_map (after_calls cs) a.held
run_done cs a b made = made.area ∙ mapped a.held _ _ (after_done cs)
