-- What plans of gets, with an index put behind them, leave.
use Rattle.std.proofs.Common.{◌≡◌, ◌⊎◌, List, [], ◌∷◌, ◌++◌, length, Option, Some, None, Ok, Err, Result, inl, inr, ⊎_elim, refl, sym, ◌∙◌, ap, subst, option_map}
use Rattle.blob_store.specs.Area.{Area}
use Rattle.blob_store.specs.Events.{Act, Event, Fate, Get, Change, Done, FailedOld, FailedNew, NoMemory, after_act, after_events, with_effect, MayLeave}
use Rattle.blob_store.specs.Plans.{all_done, Makes, MakesSome, StopsAt, RunsInMemory}
use Rattle.blob_store.specs.Runs.{after_call}
use Rattle.blob_store.specs.Seen.{Seen}
use Rattle.blob_store.specs.Steps.{AfterPrefix, after_plan}
use Rattle.blob_store.specs.declared.call.Call.{Call}
use Rattle.blob_store.specs.declared.error.BlobErr.{BlobErr}
use Rattle.blob_store.specs.declared.error.BlobErr.TheVariants as blob
use Rattle.blob_store.proofs.Compose.{leave_end}
use Rattle.blob_store.proofs.PlanFronts.{front_of_plan, front_of_stop}
use Rattle.catalog_opening.proofs.Halting.{AreGets}

-- a plan, or a front of it, leaves the area after a prefix
made_holds : (plan : List Act) (a b : Seen) (m : Area) → Makes plan a b → a.held ≡ Some m → (now : Area) × (b.held ≡ Some now) × AfterPrefix plan m now
made_holds plan a b m made is = (
  after_events (all_done plan) m,
  made.area ∙ ap (option_map (after_events (all_done plan))) is,
  front_of_plan plan m (length (all_done plan)) _ (leave_end (all_done plan) m _ refl),
)

stop_holds : (plan : List Act) (error : BlobErr) (a b : Seen) (m : Area) → StopsAt plan error a b → a.held ≡ Some m → (now : Area) × (b.held ≡ Some now) × AfterPrefix plan m now
stop_holds plan error a b m (events, ends, tracked) is = (
  after_events events m,
  tracked.area ∙ ap (option_map (after_events events)) is,
  subst (λ (l : List Act). AfterPrefix l m (after_events events m)) (sym ends.planned)
      (front_of_stop ends.first ends.last ends.unmade ends.fate m (length events) (after_events events m)
      (subst (λ (es : List Event). MayLeave es m (length events) (after_events events m)) ends.made (leave_end events m _ refl))),
)

some_holds : (plan : List Act) (a b : Seen) (m : Area) → MakesSome plan a b → a.held ≡ Some m → (now : Area) × (b.held ≡ Some now) × AfterPrefix plan m now
some_holds plan a b m (first, unmade, planned, made) is = (
  after_events (all_done first) m,
  made.area ∙ ap (option_map (after_events (all_done first))) is,
  (first, unmade, planned, refl),
)

pub plan_holds : {A : Type 0} (plan : List Act) (a b : Seen) (m : Area) (result : Result A BlobErr) → RunsInMemory plan a b result → a.held ≡ Some m
    → (now : Area) × (b.held ≡ Some now) × AfterPrefix plan m now
plan_holds plan a b m (Ok x) made is = made_holds plan a b m made is
plan_holds plan a b m (Err blob.Failed) stops is = stop_holds plan blob.Failed a b m stops is
plan_holds plan a b m (Err blob.Memory) (inl stops) is = stop_holds plan blob.Memory a b m stops is
plan_holds plan a b m (Err blob.Memory) (inr some) is = some_holds plan a b m some is

-- a prefix of gets and a change behind them
module _ (call : Call) (m : Area) where
  prefix_of : (p first rest : List Act) → AreGets p → p ++ Change call ∷ [] ≡ first ++ rest → (after_plan first m ≡ m) ⊎ (after_plan first m ≡ after_call call m)
  prefix_of [] [] rest gets is = inl refl
  prefix_of [] (act ∷ []) rest gets is =
      let same : act ≡ Change call = cc in
      inr (ap (λ (x : Act). with_effect x m) same)
  prefix_of [] (act ∷ other ∷ first) rest gets is = cc
  prefix_of (Get name ∷ p) [] rest gets is = inl refl
  prefix_of (Get name ∷ p) (act ∷ first) rest gets is =
      let same : act ≡ Get name = cc in
      let behind : p ++ Change call ∷ [] ≡ first ++ rest = cc in
      subst (λ (x : Act). (after_plan first (with_effect x m) ≡ m) ⊎ (after_plan first (with_effect x m) ≡ after_call call m)) (sym same) (prefix_of p first rest gets behind)
  prefix_of (Change other ∷ p) first rest gets is = absurd gets

  pub after_prefix : (p : List Act) (left : Area) → AreGets p → AfterPrefix (p ++ Change call ∷ []) m left → (left ≡ m) ⊎ (left ≡ after_call call m)
  after_prefix p left gets (first, rest, is, here) = ⊎_elim (λ old. inl (here ∙ old)) (λ new. inr (here ∙ new)) (prefix_of p first rest gets is)

prefix_gets : (m : Area) (p first rest : List Act) → AreGets p → p ≡ first ++ rest → after_plan first m ≡ m
prefix_gets m p [] rest gets is = refl
prefix_gets m [] (act ∷ first) rest gets is = absurd (let no : ⊥ = cc in no)
prefix_gets m (Get name ∷ p) (act ∷ first) rest gets is =
    let same : act ≡ Get name = cc in
    let behind : p ≡ first ++ rest = cc in
    subst (λ (x : Act). after_plan first (with_effect x m) ≡ m) (sym same) (prefix_gets m p first rest gets behind)
prefix_gets m (Change call ∷ p) (act ∷ first) rest gets is = absurd gets

pub after_gets_alone : (p : List Act) (m left : Area) → AreGets p → AfterPrefix p m left → left ≡ m
after_gets_alone p m left gets (first, rest, is, here) = here ∙ prefix_gets m p first rest gets is

-- one call that wasn't done
by_fate : (act : Act) (fate : Fate) (o : Option Area) → (option_map (after_act act fate) o ≡ o) ⊎ (option_map (after_act act fate) o ≡ option_map (with_effect act) o)
by_fate act Done o = inr refl
by_fate act FailedOld None = inl refl
by_fate act FailedOld (Some m) = inl refl
by_fate act FailedNew o = inr refl
by_fate act NoMemory None = inl refl
by_fate act NoMemory (Some m) = inl refl

one_stopped : (act : Act) (first : List Act) (last : Act) (unmade : List Act) (fate : Fate) (o : Option Area) → act ∷ [] ≡ first ++ last ∷ unmade
    → (option_map (after_events (all_done first ++ (record { act = last; fate = fate }) ∷ [])) o ≡ o) ⊎ (option_map (after_events (all_done first ++ (record { act = last; fate = fate }) ∷ [])) o ≡ option_map (with_effect act) o)
one_stopped act [] last unmade fate o is =
    let same : last ≡ act = cc in
    subst (λ (x : Act). (option_map (after_act x fate) o ≡ o) ⊎ (option_map (after_act x fate) o ≡ option_map (with_effect act) o)) (sym same) (by_fate act fate o)
one_stopped act (x ∷ []) last unmade fate o is = cc
one_stopped act (x ∷ y ∷ first) last unmade fate o is = cc

pub stopped_one : (act : Act) (error : BlobErr) (a b : Seen) → StopsAt (act ∷ []) error a b → (b.held ≡ a.held) ⊎ (b.held ≡ option_map (with_effect act) a.held)
stopped_one act error a b (events, ends, tracked) =
    let area : b.held ≡ option_map (after_events (all_done ends.first ++ (record { act = ends.last; fate = ends.fate }) ∷ [])) a.held =
    tracked.area ∙ ap (λ (es : List Event). option_map (after_events es) a.held) ends.made in
    ⊎_elim (λ kept. inl (area ∙ kept)) (λ new. inr (area ∙ new)) (one_stopped act ends.first ends.last ends.unmade ends.fate a.held ends.planned)

some_of_one : (act : Act) (first unmade : List Act) (o : Option Area) → act ∷ [] ≡ first ++ unmade
    → (option_map (after_events (all_done first)) o ≡ o) ⊎ (option_map (after_events (all_done first)) o ≡ option_map (with_effect act) o)
some_of_one act [] unmade None is = inl refl
some_of_one act [] unmade (Some m) is = inl refl
some_of_one act (x ∷ []) unmade o is =
    let same : x ≡ act = cc in
    inr (ap (λ (y : Act). option_map (with_effect y) o) same)
some_of_one act (x ∷ y ∷ first) unmade o is = cc

pub some_one : (act : Act) (a b : Seen) → MakesSome (act ∷ []) a b → (b.held ≡ a.held) ⊎ (b.held ≡ option_map (with_effect act) a.held)
some_one act a b (first, unmade, is, made) = ⊎_elim (λ kept. inl (made.area ∙ kept)) (λ new. inr (made.area ∙ new)) (some_of_one act first unmade a.held is)
