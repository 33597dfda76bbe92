-- The calls of a pass lead a sound id by a plan.
use Rattle.std.proofs.Common.{◌≡◌, ◌≤◌, ◌⊎◌, inl, inr, ◌<◌, ℕ, zero, suc, List, ◌∷◌, [], length, Bool, true, false, not, IsUtf8, Option, None, Some, IfSome, IsSome, refl, sym, ap, ◌∙◌, subst, arith}
use Rattle.std.proofs.lemmas.List.{take_all}
use Rattle.std.specs.FinMap.{get, keys}
use Rattle.std.specs.List.{Contains}
use Rattle.blob_store.specs.Area.{Area}
use Rattle.blob_store.specs.Runs.{IsAfterSome, after_calls}
use Rattle.blob_store.specs.declared.call.Call.{Call as StoreCall}
use Rattle.pkg_meta.specs.Catalog.{Catalog}
use Rattle.pkg_meta.specs.Lawful.{IsLawful, Placed}
use Rattle.pkg_meta.specs.declared.commit.Commit.{Commit}
use Rattle.pkg_meta.specs.declared.entry.Entry.{Entry}
use Rattle.pkg_meta.specs.declared.state.StateDoc.{StateDoc}
use Rattle.fold_core.specs.Docs.{MakesDocs, body_bytes, id_index_name}
use Rattle.fold_core.specs.Entries.{Keeps}
use Rattle.fold_core.specs.Events.{names_in}
use Rattle.fold_core.specs.Folds.{Fold, fold_of, touched_by}
use Rattle.fold_core.specs.Items.{commits_of, last_placed, touched}
use Rattle.fold_core.specs.Laws.{AreOfEntries}
use Rattle.fold_core.specs.Sound.{IsScratch}
use Rattle.fold_core.specs.declared.doc.Body.{Body}
use Rattle.fold_core.proofs.Touches.{touched_within}
use Rattle.hive_laws.specs.FoldLaws.{FoldLaws}
use Rattle.hive_laws.specs.Plans.{IsPassPlan, PassPlan}
use Rattle.hive_laws.specs.Rounds.{IsAreaPlan, IsLed, IsPartlyPassed, IsPassed, IsSkipped, IsUpToDate, plan_calls}
use Rattle.hive_state.specs.Reading.{IsStateValue}
use Rattle.id_pass.specs.Passes.{HasStates, docs_by, docs_given, is_idle, number_after, pass_calls, written}
use Rattle.id_pass.specs.declared.call.Call.{Call}
use Rattle.pass_laws.specs.Making.{AreMadeBy, AreSomeMadeBy, HaveCallBytes}
use Rattle.pass_laws.specs.Starting.{AreCallsOf, StartsPassOf, state_at, items_behind_state}
use Rattle.pass_laws.proofs.Behind.{AreBehind, are_behind}
use Rattle.pass_laws.proofs.Calls.{all_made, calls_have, calls_made, some_made}
use Rattle.pass_laws.proofs.Plan.{has_bytes, is_plan, is_written, plan_of}
use Rattle.pass_laws.proofs.Taken.{IsOld, fronts, is_old, last_item, number_is, scratch_of}
use Rattle.pass_laws.proofs.Values.{state_value, text_in, texts_of}

names_are_texts : (old : Option StateDoc) → IfSome old IsStateValue → (name : List ℕ) → Contains (names_in old) name → IsUtf8 name
names_are_texts None value name is = absurd (let none : is.0 < 0 = is.1 in let no : ⊥ = omega arith in no)
names_are_texts (Some s) value name is = text_in s.names name value.names is

-- nothing to do: no item, and a state that isn't dirty
idle_items : (old : Option StateDoc) (items : List Placed) → is_idle old items ≡ true → items ≡ []
idle_items None [] is = refl
idle_items None (x ∷ items) is = absurd (let no : ⊥ = cc in no)
idle_items (Some s) [] is = refl
idle_items (Some s) (x ∷ items) is = absurd (let no : ⊥ = cc in no)

not_true : (b : Bool) → not b ≡ true → b ≡ false
not_true true is = absurd (let no : ⊥ = cc in no)
not_true false is = refl

idle_clean : (s : StateDoc) (items : List Placed) → is_idle (Some s) items ≡ true → s.dirty ≡ false
idle_clean s [] is = not_true s.dirty is
idle_clean s (x ∷ items) is = absurd (let no : ⊥ = cc in no)

module _ (keeps : Keeps) (makes : MakesDocs) (base : List ℕ) (staged : (base key : List ℕ) (number stamp : ℕ) (es : List Entry) → AreOfEntries es (makes base key number stamp es))
    (cs : Catalog) (c : ℕ) (key : List ℕ) (old : Option StateDoc) (m : Area) (laws : FoldLaws (fold_of keeps makes base) cs)
    (starts : StartsPassOf (fold_of keeps makes base) cs c key old m) where
  abbrev f : Fold
  f = fold_of keeps makes base

  abbrev k : ℕ
  k = length cs

  abbrev items : List Placed
  items = items_behind_state c (state_at old) cs key

  lawful : IsLawful cs
  lawful = starts.catalog.lawful

  old_is : IsOld keeps cs key old
  old_is = is_old f cs c key old (get m) starts.sound.state

  behind : AreBehind cs key (state_at old) items
  behind = are_behind cs key c (state_at old) lawful (last_item f cs c key old (get m) starts.sound.state)

  module _ (dirty clean : StateDoc) (states : HasStates keeps makes base key old items k dirty clean) where
    abbrev pub plan : PassPlan
    plan = plan_of cs key (docs_given makes base key old) (docs_by makes base key clean) (names_in old) dirty clean

    dirty_scratch : IsScratch f cs key dirty
    dirty_scratch = scratch_of f cs key lawful old old_is items behind dirty states.dirty_taken

    clean_scratch : IsScratch f cs key clean
    clean_scratch = scratch_of f cs key lawful old old_is items behind clean states.clean_taken

    leads : IsPassPlan f cs key k old (get m) plan
    leads = is_plan keeps makes base key (staged base key) cs lawful laws c (get m) old starts.sound.state items dirty clean states dirty_scratch clean_scratch

    found_has : (name : List ℕ) (body : Body) → get (docs_by makes base key clean) name ≡ Some body → IsSome (body_bytes cs body)
    found_has = has_bytes keeps makes base key (staged base key) cs lawful laws c (get m) old starts.sound.state items dirty clean states dirty_scratch clean_scratch

    written_has : (e : List ℕ × Body) → Contains (written (id_index_name key) (docs_given makes base key old) (docs_by makes base key clean)) e → IsSome (body_bytes cs e.1)
    written_has e is =
        found_has e.0 e.1 (is_written keeps makes base key (staged base key) cs lawful laws c (get m) old starts.sound.state items dirty clean states dirty_scratch clean_scratch e is).1

    have : HaveCallBytes cs (pass_calls makes base key old dirty clean)
    have = calls_have cs key (docs_given makes base key old) (docs_by makes base key clean) (names_in old) dirty clean written_has (found_has (id_index_name key))

    are_plan_calls : (made : List StoreCall) → AreMadeBy cs (pass_calls makes base key old dirty clean) made → made ≡ plan_calls key plan
    are_plan_calls made are =
        all_made cs (pass_calls makes base key old dirty clean) made have are
        ∙ calls_made cs key (docs_given makes base key old) (docs_by makes base key clean) (names_in old) dirty clean

    dirty_text : (name : List ℕ) → Contains (names_in old) name ⊎ Contains (keys (docs_by makes base key clean)) name → IsUtf8 name
    dirty_text name (inl was) = names_are_texts old starts.stored.value name was
    dirty_text name (inr is) = text_in clean.names name states.texts (subst (λ (ns : List (List ℕ)). Contains ns name) (sym states.new_names) is)

    is_area_plan : IsAreaPlan f cs key k old m plan
    is_area_plan = record {
      leads = leads;
      dirty = state_value f cs key dirty starts.catalog states.dirty_taken.at dirty_scratch (texts_of dirty.names (λ name is. dirty_text name ((states.all_names name).0 is)));
      clean = state_value f cs key clean starts.catalog states.clean_taken.at clean_scratch states.texts;
    }

    passed : (made : List StoreCall) → AreMadeBy cs (pass_calls makes base key old dirty clean) made → IsPassed f cs key k m (after_calls made m)
    passed made are = record {
      stored = old;
      is_stored = starts.stored;
      plan = plan;
      is_plan = is_area_plan;
      calls = ap (λ (l : List StoreCall). after_calls l m) (are_plan_calls made are);
    }

    partly : (made : List StoreCall) (left : Area) → AreSomeMadeBy cs (pass_calls makes base key old dirty clean) made → IsAfterSome made m left → IsPartlyPassed f cs key k m left
    partly made left are after = record {
      stored = old;
      is_stored = starts.stored;
      plan = plan;
      is_plan = is_area_plan;
      calls = subst (λ (l : List StoreCall). IsAfterSome l m left)
          (calls_made cs key (docs_given makes base key old) (docs_by makes base key clean) (names_in old) dirty clean)
          (some_made cs (pass_calls makes base key old dirty clean) made m left have are after);
    }

  -- an id with nothing to do
  all_touched : touched_by cs key k ≡ touched (commits_of cs) key
  all_touched = ap (λ (l : List Commit). touched l key) (sym (fronts cs k)) ∙ ap (λ (l : Catalog). touched (commits_of l) key) (take_all k cs (omega arith))

  up_to_date : (o : Option StateDoc) → old ≡ o → is_idle o items ≡ true → IsUpToDate cs key k o
  up_to_date None is idle =
      let none : items ≡ [] = idle_items None items idle in
      let same : 0 ≡ touched (commits_of cs) key = (λ i. number_after (sym is i) (last_placed (sym none i))) ∙ number_is f cs key lawful old old_is items behind in
      absurd (let no : ⊥ = omega (arith, same, all_touched, starts.item) in no)
  up_to_date (Some s) is idle =
      let none : items ≡ [] = idle_items (Some s) items idle in
      let same : s.touched ≡ touched (commits_of cs) key = (λ i. number_after (sym is i) (last_placed (sym none i))) ∙ number_is f cs key lawful old old_is items behind in
      let state = subst (λ (x : Option StateDoc). StartsPassOf f cs c key x m) is starts in
      let within : touched_by cs key s.at ≤ s.at = touched_within (commits_of cs) key s.at in
      let last : s.touched ≡ touched_by cs key s.at = state.sound.state.0.scratch.touched in (
        idle_clean s items idle,
        state.sound.state.0.reached,
        omega (arith, same, all_touched, within, last),
      )

  skipped : is_idle old items ≡ true → IsSkipped cs key k m m
  skipped idle = record { stored = old; is_stored = starts.stored; up = up_to_date old refl idle; same = refl }

  -- by whether there is something to do
  pub calls_have_bytes : (calls : List Call) → AreCallsOf f cs c key old calls → HaveCallBytes cs calls
  calls_have_bytes calls are =
      elim (is_idle old items) as (λ (b : Bool). is_idle old items ≡ b → HaveCallBytes cs calls) [
        | true ↦ λ idle. subst (HaveCallBytes cs) (sym (are.idle idle)) tt
        | false ↦ λ busy. let own = are.planned busy in subst (HaveCallBytes cs) (sym own.3) (have own.0 own.1 own.2)
      ] refl

  no_made : (made : List StoreCall) → AreSomeMadeBy cs [] made → made ≡ []
  no_made [] are = refl
  no_made (x ∷ made) are = absurd are

  all_some : (calls : List Call) (made : List StoreCall) → AreMadeBy cs calls made → AreSomeMadeBy cs calls made
  all_some [] [] are = tt
  all_some [] (x ∷ made) are = absurd are
  all_some (call ∷ calls) [] are = absurd are
  all_some (call ∷ calls) (x ∷ made) are = (are.0, all_some calls made are.1)

  pub led : (calls : List Call) (made : List StoreCall) → AreCallsOf f cs c key old calls → AreMadeBy cs calls made → IsLed f cs key k m (after_calls made m)
  led calls made are by =
      elim (is_idle old items) as (λ (b : Bool). is_idle old items ≡ b → IsLed f cs key k m (after_calls made m)) [
        | true ↦ λ idle.
            let none : made ≡ [] = no_made made (subst (λ (l : List Call). AreSomeMadeBy cs l made) (are.idle idle) (all_some calls made by)) in
            inr (subst (λ (l : List StoreCall). IsSkipped cs key k m (after_calls l m)) (sym none) (skipped idle))
        | false ↦ λ busy. let own = are.planned busy in inl (passed own.0 own.1 own.2 made (subst (λ (l : List Call). AreMadeBy cs l made) own.3 by))
      ] refl

  none_after : (left : Area) → IsAfterSome [] m left → left ≡ m
  none_after left (zero, few, is) = is
  none_after left (suc n, few, is) = is

  pub partly_led : (calls : List Call) (made : List StoreCall) (left : Area) → AreCallsOf f cs c key old calls → AreSomeMadeBy cs calls made → IsAfterSome made m left
      → (left ≡ m) ⊎ IsPartlyPassed f cs key k m left
  partly_led calls made left are by after =
      elim (is_idle old items) as (λ (b : Bool). is_idle old items ≡ b → (left ≡ m) ⊎ IsPartlyPassed f cs key k m left) [
        | true ↦ λ idle.
            let none : made ≡ [] = no_made made (subst (λ (l : List Call). AreSomeMadeBy cs l made) (are.idle idle) by) in
            inl (none_after left (subst (λ (l : List StoreCall). IsAfterSome l m left) none after))
        | false ↦ λ busy. let own = are.planned busy in inr (partly own.0 own.1 own.2 made left (subst (λ (l : List Call). AreSomeMadeBy cs l made) own.3 by) after)
      ] refl
