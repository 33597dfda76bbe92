-- What prefixes of plans leave, and what a store tells after them.
use Rattle.std.proofs.Common.{◌≡◌, ◌⊎◌, inl, inr, ⊎_elim, ℕ, List, [], ◌∷◌, ◌++◌, length, map, Some, option_map, Ok, Err, Result, refl, sym, ◌∙◌, ap, subst}
use Rattle.std.proofs.Common.{append-nil, arith}
use Rattle.blob_store.specs.Area.{Area}
use Rattle.blob_store.specs.Events.{Act, Change, Event, Fate, FailedOld, FailedNew, Get, MayLeave, NoMemory, after_events, with_effect}
use Rattle.blob_store.specs.Events.{Done as WasDone}
use Rattle.blob_store.specs.Moments.{LeavesOnly}
use Rattle.blob_store.specs.Plans.{IsToldAs, RunsInMemory, StopsAt, all_done}
use Rattle.blob_store.specs.Runs.{IsAfterSome, after_call}
use Rattle.blob_store.specs.Seen.{Seen}
use Rattle.blob_store.specs.Steps.{AfterPrefix, after_plan}
use Rattle.blob_store.specs.declared.call.Call.{Call as StoreCall}
use Rattle.blob_store.specs.declared.error.BlobErr.{BlobErr}
use Rattle.blob_store.specs.declared.error.BlobErr.TheVariants as blob
use Rattle.blob_store.proofs.Compose.{after_events-append, leave_end}
use Rattle.blob_store.proofs.Fronts.{front_more}
use Rattle.blob_store.proofs.PlanFronts.{front_of_stop, plan_leaves}
use Rattle.blob_store.proofs.Stepping.{holds}
use Rattle.round_laws.specs.OnAreas.{HoldsArea}

more_front : (act : Act) (plan : List Act) (m left : Area) → AfterPrefix plan (with_effect act m) left → AfterPrefix (act ∷ plan) m left
more_front act plan m left (first, rest, is, here) = (act ∷ first, rest, ap (λ (l : List Act). act ∷ l) is, here)

-- a prefix is empty, or begins with the first call
front_cases : (act : Act) (plan : List Act) (m left : Area) → AfterPrefix (act ∷ plan) m left → (left ≡ m) ⊎ AfterPrefix plan (with_effect act m) left
front_cases act plan m left ([], rest, is, here) = inl here
front_cases act plan m left (a ∷ first, rest, is, here) =
    let same : a ≡ act = cc in
    let tail : plan ≡ first ++ rest = cc in
    inr (first, rest, tail, here ∙ ap (λ (x : Act). after_plan first (with_effect x m)) same)

pub front_none : (m left : Area) → AfterPrefix [] m left → left ≡ m
front_none m left ([], rest, is, here) = here
front_none m left (a ∷ first, rest, is, here) = absurd (let no : ⊥ = cc in no)

-- a prefix of two plans is one of the first, or one of the second behind the first
pub front_split : (p q : List Act) (m left : Area) → AfterPrefix (p ++ q) m left → AfterPrefix p m left ⊎ AfterPrefix q (after_plan p m) left
front_split [] q m left here = inr here
front_split (act ∷ p) q m left here = ⊎_elim
    (λ none. inl ([], act ∷ p, refl, none))
    (λ more. ⊎_elim (λ first. inl (more_front act p m left first)) (λ second. inr second) (front_split p q (with_effect act m) left more))
    (front_cases act (p ++ q) m left here)

pub front_got : (name : List ℕ) (plan : List Act) (m left : Area) → AfterPrefix (Get name ∷ plan) m left → AfterPrefix plan m left
front_got name plan m left here = ⊎_elim (λ none. ([], plan, refl, none)) (λ more. more) (front_cases (Get name) plan m left here)

pub front_changes : (made : List StoreCall) (m left : Area) → AfterPrefix (map Change made) m left → IsAfterSome made m left
front_changes [] m left here = (0, omega arith, front_none m left here)
front_changes (call ∷ made) m left here = ⊎_elim
    (λ none. (0, omega arith, none))
    (λ more. front_more call made m left (front_changes made (after_call call m) left more))
    (front_cases (Change call) (map Change made) m left here)

pub front_last : (act : Act) (m left : Area) → AfterPrefix (act ∷ []) m left → (left ≡ m) ⊎ (left ≡ with_effect act m)
front_last act m left here = ⊎_elim (λ none. inl none) (λ more. inr (front_none (with_effect act m) left more)) (front_cases act [] m left here)

pub whole_front : (plan : List Act) (m : Area) → AfterPrefix plan m (after_plan plan m)
whole_front plan m = (plan, [], sym (append-nil plan), refl)

pub weaken : (P R : Area → Type 0) (a b : Seen) → ((left : Area) → P left → R left) → LeavesOnly a b P → LeavesOnly a b R
weaken P R a b to leaves = record {
  later = leaves.later;
  each = λ few t crashed low high at. to crashed (leaves.each few t crashed low high at);
  before = leaves.before;
}

-- what holds at each moment, and in the end
abbrev pub Keeps : (Area → Type 0) → Seen → Seen → Type 0
Keeps P a b = HoldsArea b P × LeavesOnly a b P

module _ (plan : List Act) (a b : Seen) (m : Area) (is : a.held ≡ Some m) where
  stop_holds : (error : BlobErr) → StopsAt plan error a b → HoldsArea b (AfterPrefix plan m)
  stop_holds error (events, ends, tracked) = (
    after_events events m,
    tracked.area ∙ ap (option_map (after_events events)) is,
    subst (λ (l : List Act). AfterPrefix l m (after_events events m)) (sym ends.planned)
        (front_of_stop ends.first ends.last ends.unmade ends.fate m (length events) (after_events events m)
        (subst (λ (es : List Event). MayLeave es m (length events) (after_events events m)) ends.made (leave_end events m (length events) refl))),
  )

  run_holds : {A : Type 0} (r : Result A BlobErr) → RunsInMemory plan a b r → HoldsArea b (AfterPrefix plan m)
  run_holds (Ok x) made = (after_plan plan m, holds plan a b m made is, whole_front plan m)
  run_holds (Err blob.Failed) stops = stop_holds blob.Failed stops
  run_holds (Err blob.Memory) (inl stops) = stop_holds blob.Memory stops
  run_holds (Err blob.Memory) (inr (first, unmade, planned, made)) = (after_plan first m, holds first a b m made is, (first, unmade, planned, refl))

  pub run_keeps : {A : Type 0} (P : Area → Type 0) (r : Result A BlobErr) → RunsInMemory plan a b r → ((left : Area) → AfterPrefix plan m left → P left)
      → Keeps P a b
  run_keeps P r runs to =
      let held = run_holds r runs in
      ((held.0, held.1, to held.0 held.2), weaken (AfterPrefix plan m) P a b to (plan_leaves plan a b m r runs is))

-- where memory ran out at the last call of a plan, a prefix of those before it was made
within_all : (p : List Act) (last : Act) (first : List Act) (l : Act) (unmade : List Act) → p ++ last ∷ [] ≡ first ++ l ∷ unmade → (rest : List Act)
    × (p ≡ first ++ rest)
within_all p last [] l unmade is = (p, refl)
within_all [] last (f ∷ []) l unmade is = absurd (let no : ⊥ = cc in no)
within_all [] last (f ∷ g ∷ first) l unmade is = absurd (let no : ⊥ = cc in no)
within_all (x ∷ p) last (f ∷ first) l unmade is =
    let same : x ≡ f = cc in
    let tail : p ++ last ∷ [] ≡ first ++ l ∷ unmade = cc in
    let more = within_all p last first l unmade tail in
    (more.0, (λ i. same i ∷ more.1 i))

no_effect : (act : Act) (fate : Fate) (m : Area) → IsToldAs fate blob.Memory → after_events ((record { act = act; fate = fate }) ∷ []) m ≡ m
no_effect act WasDone m told = absurd told
no_effect act FailedOld m told = absurd (let no : ⊥ = cc in no)
no_effect act FailedNew m told = absurd (let no : ⊥ = cc in no)
no_effect act NoMemory m told = refl

pub memory_holds : (p : List Act) (last : Act) (a b : Seen) (m : Area) → a.held ≡ Some m → StopsAt (p ++ last ∷ []) blob.Memory a b
    → HoldsArea b (AfterPrefix p m)
memory_holds p last a b m is (events, ends, tracked) =
    let within = within_all p last ends.first ends.last ends.unmade ends.planned in
    let same : after_events events m ≡ after_plan ends.first m =
    ap (λ (es : List Event). after_events es m) ends.made
    ∙ after_events-append (all_done ends.first) ((record { act = ends.last; fate = ends.fate }) ∷ []) m
    ∙ no_effect ends.last ends.fate (after_plan ends.first m) ends.told in
    (after_events events m, tracked.area ∙ ap (option_map (after_events events)) is, (ends.first, within.0, within.1, same))
