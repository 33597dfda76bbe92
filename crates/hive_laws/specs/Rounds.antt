-- The calls of passes on a hive's area, id by id.
use Rattle.std.specs.Prelude.{◌≡◌, ◌≢◌, ◌⊎◌, ◌<◌, ◌≤◌, ℕ, List, [], ◌∷◌, length, map, false, Contains, Option, Some, None, IfSome, option_map}
use Rattle.std.specs.FinMap.{get}
use Rattle.blob_store.specs.Area.{Area}
use Rattle.blob_store.specs.Runs.{IsAfterSome, after_calls}
use Rattle.blob_store.specs.declared.call.Call.{Call}
use Rattle.blob_store.specs.declared.call.Call.TheVariants.{Put, Remove}
use Rattle.pkg_meta.specs.Catalog.{Catalog}
use Rattle.pkg_meta.specs.declared.state.StateDoc.{StateDoc}
use Rattle.hive_state.specs.Reading.{IsStateValue}
use Rattle.hive_state.specs.State.{state_name, state_text}
use Rattle.fold_core.specs.Docs.{owner}
use Rattle.fold_core.specs.Folds.{Fold, Look, touched_by}
use Rattle.hive_laws.specs.Areas.{IsSoundArea}
use Rattle.hive_laws.specs.Plans.{IsPassPlan, PassPlan, pass_steps}
use Rattle.hive_laws.specs.Steps.{Step, PutState, PutDoc, RemoveDoc}

-- the call that makes a step
abbrev pub call_of : List ℕ → Step → Call
call_of key (PutState s) = Put (state_name key) (state_text s)
call_of key (PutDoc name bytes) = Put name bytes
call_of key (RemoveDoc name) = Remove name

-- the calls of a plan, in order
abbrev pub plan_calls : List ℕ → PassPlan → List Call
plan_calls key plan = map (call_of key) (pass_steps key plan)

-- only the id's state and its documents may have changed
abbrev pub ChangesOneId : List ℕ → Area → Area → Type 0
ChangesOneId key old new = (name : List ℕ) → name ≢ state_name key → owner name ≢ Some key → get new name ≡ get old name

-- the stored state isn't dirty, and no item of the id stands behind it and up to commit k
abbrev pub IsUpToDate : Catalog → List ℕ → ℕ → Option StateDoc → Type 0
IsUpToDate cs key k None = ⊥
IsUpToDate cs key k (Some s) = (s.dirty ≡ false) × (s.at ≤ k) × (touched_by cs key k ≤ s.at)

-- the area holds this state of the id, of the values of the code's types, or none
pub record IsStored (key : List ℕ) (m : Area) (stored : Option StateDoc) : Type 0 where
  pub value : IfSome stored IsStateValue
  pub held : get m (state_name key) ≡ option_map state_text stored

-- the plan leads the id from this state and the area to commit k, and its states have the values of the code's types
pub record IsAreaPlan (f : Fold) (cs : Catalog) (key : List ℕ) (k : ℕ) (stored : Option StateDoc) (m : Area) (plan : PassPlan) : Type 0 where
  pub leads : IsPassPlan f cs key k stored (get m) plan
  pub dirty : IsStateValue plan.dirty
  pub clean : IsStateValue plan.clean

-- an area is that of a sound hive, an id has an item behind the cursor and up to commit k, and this is a plan that leads it there
pub record StartsAreaPass (f : Fold) (cs : Catalog) (c k : ℕ) (key : List ℕ) (states : Look StateDoc) (m : Area) (plan : PassPlan) : Type 0 where
  pub area : IsSoundArea f cs c states m
  pub item : c < touched_by cs key k
  pub reached : k ≤ length cs
  pub leads : IsAreaPlan f cs key k (states key) m plan

-- the calls of such a plan were made
pub record IsPassed (f : Fold) (cs : Catalog) (key : List ℕ) (k : ℕ) (m new : Area) : Type 0 where
  pub stored : Option StateDoc
  pub is_stored : IsStored key m stored
  pub plan : PassPlan
  pub is_plan : IsAreaPlan f cs key k stored m plan
  pub calls : new ≡ after_calls (plan_calls key plan) m

-- a prefix of them was made
pub record IsPartlyPassed (f : Fold) (cs : Catalog) (key : List ℕ) (k : ℕ) (m left : Area) : Type 0 where
  pub stored : Option StateDoc
  pub is_stored : IsStored key m stored
  pub plan : PassPlan
  pub is_plan : IsAreaPlan f cs key k stored m plan
  pub calls : IsAfterSome (plan_calls key plan) m left

-- the id was up to date, and no call was made
pub record IsSkipped (cs : Catalog) (key : List ℕ) (k : ℕ) (m new : Area) : Type 0 where
  pub stored : Option StateDoc
  pub is_stored : IsStored key m stored
  pub up : IsUpToDate cs key k stored
  pub same : new ≡ m

-- the id was led to commit k: by the calls of a plan, or by none where it was up to date
abbrev pub IsLed : Fold → Catalog → List ℕ → ℕ → Area → Area → Type 0
IsLed f cs key k m new = IsPassed f cs key k m new ⊎ IsSkipped cs key k m new

-- so were the ids with these keys, one after the other
abbrev pub AreLed : Fold → Catalog → ℕ → List (List ℕ) → Area → Area → Type 0
AreLed f cs k [] m new = new ≡ m
AreLed f cs k (key ∷ keys) m new = (mid : Area) × IsLed f cs key k m mid × AreLed f cs k keys mid new

-- some of these ids were led, from the first on, and of the next one perhaps a part of its calls was made
abbrev pub IsOnTheWay : Fold → Catalog → ℕ → List (List ℕ) → Area → Area → Type 0
IsOnTheWay f cs k [] m left = left ≡ m
IsOnTheWay f cs k (key ∷ keys) m left =
    (left ≡ m) ⊎ (IsPartlyPassed f cs key k m left ⊎ ((mid : Area) × IsLed f cs key k m mid × IsOnTheWay f cs k keys mid left))

-- only states and documents of these ids may have changed
abbrev pub ChangesIds : List (List ℕ) → Area → Area → Type 0
ChangesIds keys old new = (name : List ℕ) → ((key : List ℕ) → Contains keys key → (name ≢ state_name key) × (owner name ≢ Some key))
    → get new name ≡ get old name

-- each of the ids has an item behind commit c and up to commit k
abbrev pub HaveItems : Catalog → (c k : ℕ) → List (List ℕ) → Type 0
HaveItems cs c k keys = (key : List ℕ) → Contains keys key → c < touched_by cs key k

-- these are the keys of the ids with an item behind commit c and up to commit k
pub record AreDue (cs : Catalog) (c k : ℕ) (keys : List (List ℕ)) : Type 0 where
  pub some : HaveItems cs c k keys
  pub all : (key : List ℕ) → c < touched_by cs key k → Contains keys key
