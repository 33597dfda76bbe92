-- The calls of a pass and of a round on the hive's store.
use Rattle.std.specs.Prelude.{◌≡◌, ◌⊎◌, ℕ, List, [], ◌∷◌, ◌++◌, flat_map, map, true, false, Option, IfSome, option_map, Result, ⊤}
use Rattle.std.specs.declared.result.Result.TheVariants.{Ok, Err}
use Rattle.std.specs.FinMap.{get}
use Rattle.blob_store.specs.Area.{Area}
use Rattle.blob_store.specs.Events.{Act, Get, Change}
use Rattle.blob_store.specs.Plans.{Makes}
use Rattle.blob_store.specs.Seen.{Seen}
use Rattle.blob_store.specs.Steps.{after_plan}
use Rattle.blob_store.specs.declared.call.Call.{Call as StoreCall}
use Rattle.pkg_meta.specs.Catalog.{Catalog}
use Rattle.pkg_meta.specs.Lawful.{Placed}
use Rattle.pkg_meta.specs.declared.state.StateDoc.{StateDoc}
use Rattle.catalog_core.specs.Opened.{Opened}
use Rattle.catalog_rows.specs.Last.{placed_row}
use Rattle.fold_core.specs.Folds.{Fold}
use Rattle.hive_state.specs.State.{state_name}
use Rattle.id_pass.specs.Passes.{ArePassCalls, is_idle}
use Rattle.id_pass.specs.declared.call.Call.{Call}
use Rattle.std.specs.List.{AllByRecursion}
use Rattle.job_round.specs.Items.{IsLostBlob, items_after, items_behind}
use Rattle.job_round.specs.Made.{AreMade, AreSomeMade}
use Rattle.job_round.specs.States.{IsNoState, IsStoredState, at_in}
use Rattle.job_round.specs.Stops.{JobHaltsAt, IfDamaged}
use Rattle.job_round.specs.declared.ids.IdRows.{IdRows}
use Rattle.job_round.specs.declared.stop.Stop.{Stop}

-- a pass: its id, the state that was found, the items that are taken up, its calls, and these as they are made
pub record Pass : Type 0 where
  pub key : List ℕ
  pub stored : Option StateDoc
  pub items : List Placed
  pub calls : List Call
  pub made : List StoreCall

-- the state is got, and the calls are made
abbrev pub pass_plan : Pass → List Act
pass_plan p = Get (state_name p.key) ∷ map Change p.made

-- one pass behind the other
abbrev pub passes_plan : List Pass → List Act
passes_plan passes = flat_map pass_plan passes

-- what is held after a plan, where it is told
abbrev pub held_after : List Act → Option Area → Option Area
held_after plan held = option_map (after_plan plan) held

-- the calls are those of a pass from this state, over these items, to the target, and none where there is nothing to do
pub record IsPlanned (f : Fold) (target : ℕ) (p : Pass) : Type 0 where
  pub idle : is_idle p.stored p.items ≡ true → p.calls ≡ []
  pub calls : is_idle p.stored p.items ≡ false → ArePassCalls f.keeps f.makes f.base p.key p.stored p.items target p.calls

-- A pass takes up its id: the state is the one held, the items are those of the catalog behind the cursor c and the state, for each catalog
-- that may be meant.
pub record TakesUp (f : Fold) (Q : Catalog → Type 0) (c target : ℕ) (held : Option Area) (p : Pass) : Type 0 where
  pub stored : IfSome held (λ m. IsStoredState p.key target (get m (state_name p.key)) p.stored)
  pub items : (cs : Catalog) → Q cs → p.items ≡ items_behind c (at_in p.stored) cs p.key
  pub planned : IsPlanned f target p

-- a pass that is made whole
pub record IsWholePass (f : Fold) (Q : Catalog → Type 0) (c target : ℕ) (held : Option Area) (p : Pass) : Type 0 where
  pub takes : TakesUp f Q c target held p
  pub whole : AreMade Q p.calls p.made

-- one that is made in part: nothing is changed, or some of the calls are made
abbrev pub IsPartPass : Fold → (Catalog → Type 0) → (c target : ℕ) → Option Area → Pass → Type 0
IsPartPass f Q c target held p = (p.made ≡ []) ⊎ (TakesUp f Q c target held p × AreSomeMade Q p.calls p.made)

-- passes, each over what is held when it begins
abbrev pub AreWholePasses : Fold → (Catalog → Type 0) → (c target : ℕ) → Option Area → List Pass → Type 0
AreWholePasses f Q c target held [] = ⊤
AreWholePasses f Q c target held (p ∷ passes) =
    IsWholePass f Q c target held p × AreWholePasses f Q c target (held_after (pass_plan p) held) passes

-- the ids of these passes
abbrev pub keys_in : List Pass → List (List ℕ)
keys_in passes = map (λ (p : Pass). p.key) passes

-- The passes of these ids were made, one after the other.
abbrev pub PassesMade : Fold → (Catalog → Type 0) → (c target : ℕ) → List (List ℕ) → Seen → Seen → Type 0
PassesMade f Q c target keys old new =
    (passes : List Pass) × (keys_in passes ≡ keys) × AreWholePasses f Q c target old.held passes × Makes (passes_plan passes) old new

-- Those of some ids were made, from the first, and the next one stopped.
abbrev pub PassesHalt : Fold → (Catalog → Type 0) → (c target : ℕ) → List (List ℕ) → Stop → Seen → Seen → Type 0
PassesHalt f Q c target keys stop old new =
    (passes : List Pass) × (last : Pass) × (rest : List (List ℕ)) × (keys ≡ keys_in passes ++ last.key ∷ rest)
    × AreWholePasses f Q c target old.held passes × IsPartPass f Q c target (held_after (passes_plan passes) old.held) last
    × JobHaltsAt (passes_plan passes ++ pass_plan last) stop old new

-- The passes of these ids were made as the result tells.
abbrev pub RunsPasses : {A : Type 0} → Fold → (Catalog → Type 0) → (c target : ℕ) → List (List ℕ) → Seen → Seen → Result A Stop → Type 0
RunsPasses f Q c target keys old new (Ok a) = PassesMade f Q c target keys old new
RunsPasses f Q c target keys old new (Err stop) = PassesHalt f Q c target keys stop old new

-- The pass of an id was made as the result tells.
abbrev pub RunsPass : {A : Type 0} → Fold → (Catalog → Type 0) → (c target : ℕ) → List ℕ → Seen → Seen → Result A Stop → Type 0
RunsPass f Q c target key old new (Ok a) = (p : Pass) × (p.key ≡ key) × IsWholePass f Q c target old.held p × Makes (pass_plan p) old new
RunsPass f Q c target key old new (Err stop) = (p : Pass) × (p.key ≡ key) × IsPartPass f Q c target old.held p × JobHaltsAt (pass_plan p) stop old new

-- a catalog that may be meant, of which the id's rows behind the cursor c are these
abbrev pub IsTold : ℕ → IdRows → (Catalog → Type 0) → Catalog → Type 0
IsTold c id Q cs = Q cs × (id.rows ≡ map placed_row (items_after c cs id.key))

-- and so are those of each of these ids
abbrev pub AreTold : ℕ → List IdRows → (Catalog → Type 0) → Catalog → Type 0
AreTold c ids Q cs = Q cs × AllByRecursion (λ (id : IdRows). id.rows ≡ map placed_row (items_after c cs id.key)) ids

-- the state of this name isn't one that an id may have at the target, in the area that is told
abbrev pub IsStateLost : ℕ → Option Area → List ℕ → Type 0
IsStateLost target held name = (key : List ℕ) × (name ≡ state_name key) × IfSome held (λ m. IsNoState key target (get m name))

-- what is told as damaged in passes: a blob of the catalog, or a state
abbrev pub IsOfPasses : {B : Type 0} → Opened B → Seen → Seen → ℕ → Stop → Type 0
IsOfPasses o s hive target stop = IfDamaged (IsLostBlob o s) (IsStateLost target hive.held) stop
