-- A loop whose step makes a plan of several calls.
use Rattle.std.proofs.Common.{◌≡◌, ◌<◌, ◌+◌, ℕ, List, [], ◌∷◌, ◌++◌, length, take, drop, get_or, Err, Some, option_map, refl, sym, ◌∙◌, ap, subst, append_assoc, append-nil}
use Rattle.std.proofs.lemmas.List.{map-append, take_more, take-append-drop}
use Rattle.std.proofs.lemmas.Grind.{flat_map-append}
use Rattle.std.specs.List.{flat_map}
use Rattle.blob_store.specs.Seen.{Seen}
use Rattle.blob_store.specs.Area.{Area}
use Rattle.blob_store.specs.declared.error.BlobErr.{BlobErr}
use Rattle.blob_store.specs.Events.{Act, after_events}
use Rattle.blob_store.specs.Plans.{done, all_done, Makes, StopsAt}
use Rattle.blob_store.proofs.Compose.{after_events-append}
use Rattle.blob_store.proofs.Following.{makes_then, stops_behind, stops_early}
use Rattle.blob_store.specs.Steps.{InPairs, ToEach, after_plan, steps, together}
use Rattle.blob_store.proofs.InMemory.{Stopped, in_memory_then, stopped_early}

pub after_plan-append : (p q : List Act) (m : Area) → after_plan (p ++ q) m ≡ after_plan q (after_plan p m)
after_plan-append p q m = ap (λ es. after_events es m) (map-append done p q) ∙ after_events-append (all_done p) (all_done q) m

-- what is held after a plan
pub holds : (plan : List Act) (a b : Seen) (m : Area) → Makes plan a b → a.held ≡ Some m → b.held ≡ Some (after_plan plan m)
holds plan a b m made is = made.area ∙ ap (option_map (after_events (all_done plan))) is

pub steps-append : {X : Type 0} (step : X → Area → List Act) (xs ys : List X) (m : Area) → steps step (xs ++ ys) m ≡ steps step xs m ++ steps step ys (after_plan (steps step xs m) m)
steps-append step [] ys m = refl
steps-append step (x ∷ xs) ys m =
    let now = after_plan (step x m) m in
    ap (λ (l : List Act). step x m ++ l) (steps-append step xs ys now)
    ∙ sym (append_assoc (step x m) (steps step xs now) (steps step ys (after_plan (steps step xs now) now)))
    ∙ ap (λ (n : Area). (step x m ++ steps step xs now) ++ steps step ys n) (sym (after_plan-append (step x m) (steps step xs now) m))

-- Where a step leaves the plans of the items behind it as they are, each plan is as over the area at the start.
module _ {X : Type 0} (step : X → Area → List Act) (R : X → X → Type 0) (stays : (x y : X) (m : Area) → R x y → step y (after_plan (step x m) m) ≡ step y m) where
  together_stays : (x : X) (ys : List X) (m : Area) → ToEach R x ys → together step ys (after_plan (step x m) m) ≡ together step ys m
  together_stays x [] m apart = refl
  together_stays x (y ∷ ys) m apart =
      ap (λ (l : List Act). l ++ together step ys (after_plan (step x m) m)) (stays x y m apart.0)
      ∙ ap (λ (l : List Act). step y m ++ l) (together_stays x ys m apart.1)

  pub steps_together : (xs : List X) (m : Area) → InPairs R xs → steps step xs m ≡ together step xs m
  steps_together [] m apart = refl
  steps_together (x ∷ xs) m apart =
      ap (λ (l : List Act). step x m ++ l) (steps_together xs (after_plan (step x m) m) apart.1 ∙ together_stays x xs m apart.0)

-- plans that don't depend on the area
module _ {X : Type 0} (plan : X → List Act) (xs : List X) (i : ℕ) (x : X) (within : i < length xs) (is : x ≡ get_or xs i x) where
  next_is : flat_map plan (take i xs) ++ plan x ≡ flat_map plan (take (i + 1) xs)
  next_is = ap (λ (y : X). flat_map plan (take i xs) ++ plan y) is ∙ ap (λ (l : List Act). flat_map plan (take i xs) ++ l) (sym (append-nil (plan (get_or xs i x))))
      ∙ sym (ap (flat_map plan) (take_more xs i x within) ∙ flat_map-append plan (take i xs) (get_or xs i x ∷ []))

  whole : flat_map plan (take (i + 1) xs) ++ flat_map plan (drop (i + 1) xs) ≡ flat_map plan xs
  whole = sym (flat_map-append plan (take (i + 1) xs) (drop (i + 1) xs)) ∙ ap (flat_map plan) (take-append-drop (i + 1) xs)

  pub next_plan_made : (a b c : Seen) → Makes (flat_map plan (take i xs)) a b → Makes (plan x) b c → Makes (flat_map plan (take (i + 1) xs)) a c
  next_plan_made a b c first second = subst (λ (l : List Act). Makes l a c) next_is (makes_then (flat_map plan (take i xs)) (plan x) a b c first second)

  pub next_plan_stopped : (error : BlobErr) (a b c : Seen) → Makes (flat_map plan (take i xs)) a b → StopsAt (plan x) error b c → StopsAt (flat_map plan xs) error a c
  next_plan_stopped error a b c first second = subst (λ (l : List Act). StopsAt l error a c) whole
      (stops_early (flat_map plan (take (i + 1) xs)) (flat_map plan (drop (i + 1) xs)) error a c
      (subst (λ (l : List Act). StopsAt l error a c) next_is (stops_behind (flat_map plan (take i xs)) (plan x) error a b c first second)))

  -- where own memory may run out within the step
  pub next_plan_cut : (error : BlobErr) (a b c : Seen) → Makes (flat_map plan (take i xs)) a b → Stopped (plan x) b c error → Stopped (flat_map plan xs) a c error
  next_plan_cut error a b c first second = subst (λ (l : List Act). Stopped l a c error) whole
      (stopped_early (flat_map plan (take (i + 1) xs)) (flat_map plan (drop (i + 1) xs)) a c error
      (subst (λ (l : List Act). Stopped l a c error) next_is (in_memory_then {A = Unit {0}} (flat_map plan (take i xs)) (plan x) a b c (Err error) first second)))

-- plans over the area that stands when their step begins
module _ {X : Type 0} (step : X → Area → List Act) (xs : List X) (i : ℕ) (x : X) (within : i < length xs) (is : x ≡ get_or xs i x) (m : Area) where
  next_step : steps step (take i xs) m ++ step x (after_plan (steps step (take i xs) m) m) ≡ steps step (take (i + 1) xs) m
  next_step = ap (λ (y : X). steps step (take i xs) m ++ step y (after_plan (steps step (take i xs) m) m)) is
      ∙ ap (λ (l : List Act). steps step (take i xs) m ++ l) (sym (append-nil (step (get_or xs i x) (after_plan (steps step (take i xs) m) m))))
      ∙ sym (ap (λ (l : List X). steps step l m) (take_more xs i x within) ∙ steps-append step (take i xs) (get_or xs i x ∷ []) m)

  all_steps : steps step (take (i + 1) xs) m ++ steps step (drop (i + 1) xs) (after_plan (steps step (take (i + 1) xs) m) m) ≡ steps step xs m
  all_steps = sym (steps-append step (take (i + 1) xs) (drop (i + 1) xs) m) ∙ ap (λ (l : List X). steps step l m) (take-append-drop (i + 1) xs)

  pub next_step_made : (a b c : Seen) → Makes (steps step (take i xs) m) a b → Makes (step x (after_plan (steps step (take i xs) m) m)) b c → Makes (steps step (take (i + 1) xs) m) a c
  next_step_made a b c first second = subst (λ (l : List Act). Makes l a c) next_step
      (makes_then (steps step (take i xs) m) (step x (after_plan (steps step (take i xs) m) m)) a b c first second)

  pub next_step_stopped : (error : BlobErr) (a b c : Seen) → Makes (steps step (take i xs) m) a b → Stopped (step x (after_plan (steps step (take i xs) m) m)) b c error → Stopped (steps step xs m) a c error
  next_step_stopped error a b c first second = subst (λ (l : List Act). Stopped l a c error) all_steps
      (stopped_early (steps step (take (i + 1) xs) m) (steps step (drop (i + 1) xs) (after_plan (steps step (take (i + 1) xs) m) m)) a c error
      (subst (λ (l : List Act). Stopped l a c error) next_step
      (in_memory_then {A = Unit {0}} (steps step (take i xs) m) (step x (after_plan (steps step (take i xs) m) m)) a b c (Err error) first second)))
