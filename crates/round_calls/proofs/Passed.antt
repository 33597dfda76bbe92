-- The calls of a pass meet their conditions.
use Rattle.std.proofs.Common.{◌≡◌, ◌<◌, ◌⊎◌, inl, inr, ℕ, List, [], ◌∷◌, ◌++◌, length, map, Bool, true, false, IsUtf8, Option, None, Some, IfSome, IsSome, refl, sym, ◌∙◌, ap, subst, arith}
use Rattle.std.proofs.lemmas.List.{map-append}
use Rattle.std.specs.FinMap.{get, keys}
use Rattle.std.specs.List.{Contains}
use Rattle.blob_store.specs.Area.{Area}
use Rattle.blob_store.specs.Events.{Act, Change}
use Rattle.blob_store.specs.Plans.{all_done}
use Rattle.blob_store.specs.declared.call.Call.{Call as StoreCall}
use Rattle.blob_store.specs.declared.call.Call.TheVariants as store
use Rattle.pkg_meta.specs.Catalog.{Catalog}
use Rattle.pkg_meta.specs.Lawful.{IsLawful, Placed}
use Rattle.pkg_meta.specs.declared.entry.Entry.{Entry}
use Rattle.pkg_meta.specs.declared.state.StateDoc.{StateDoc}
use Rattle.fold_core.specs.Docs.{MakesDocs}
use Rattle.fold_core.specs.Entries.{Keeps}
use Rattle.fold_core.specs.Events.{names_in}
use Rattle.fold_core.specs.Folds.{Fold, fold_of}
use Rattle.fold_core.specs.Laws.{AreOfEntries}
use Rattle.fold_core.specs.Sound.{IsScratch}
use Rattle.feed_laws.specs.Calls.{MeetAllOnHive}
use Rattle.feed_laws.proofs.HiveCalled.{front, pass_meets}
use Rattle.hive_laws.specs.FoldLaws.{FoldLaws}
use Rattle.hive_laws.specs.Plans.{PassPlan}
use Rattle.hive_laws.specs.Rounds.{IsAreaPlan, plan_calls}
use Rattle.hive_state.specs.Reading.{IsStateValue}
use Rattle.id_pass.specs.Passes.{HasStates, docs_by, docs_given, is_idle, pass_calls}
use Rattle.id_pass.specs.declared.call.Call.{Call}
use Rattle.id_pass.specs.declared.call.Call.TheVariants.{Put, Remove}
use Rattle.pass_laws.specs.Making.{AreMadeBy, AreSomeMadeBy, HasCallBytes, HaveCallBytes, IsMadeBy}
use Rattle.pass_laws.specs.Starting.{AreCallsOf, StartsPassOf, state_at, items_behind_state}
use Rattle.pass_laws.proofs.Behind.{AreBehind, are_behind}
use Rattle.pass_laws.proofs.Calls.{all_made, calls_made}
use Rattle.pass_laws.proofs.Leads.{calls_have_bytes}
use Rattle.pass_laws.proofs.Plan.{is_plan, plan_of}
use Rattle.pass_laws.proofs.Taken.{IsOld, is_old, last_item, scratch_of}
use Rattle.pass_laws.proofs.Values.{state_value, text_in, texts_of}

names_are_texts : (old : Option StateDoc) → IfSome old IsStateValue → (name : List ℕ) → Contains (names_in old) name → IsUtf8 name
names_are_texts None value name is = absurd (let none : is.0 < 0 = is.1 in let no : ⊥ = omega arith in no)
names_are_texts (Some s) value name is = text_in s.names name value.names is

-- some calls that were made, and the others beside them
bytes_call : (name : List ℕ) (o : Option (List ℕ)) → IsSome o → (made : StoreCall) × ((bytes : List ℕ) → o ≡ Some bytes → made ≡ store.Put name bytes)
bytes_call name None is = absurd (let no : ⊥ = cc in no)
bytes_call name (Some own) is = (store.Put name own, λ bytes e. ap (store.Put name) (let same : own ≡ bytes = cc in same))

one_call : (cs : Catalog) (call : Call) → HasCallBytes cs call → (made : StoreCall) × IsMadeBy cs call made
one_call cs (Put name body) has = bytes_call name _ has
one_call cs (Remove name) has = (store.Remove name, refl)

all_calls : (cs : Catalog) (calls : List Call) → HaveCallBytes cs calls → (made : List StoreCall) × AreMadeBy cs calls made
all_calls cs [] have = ([], tt)
all_calls cs (call ∷ calls) have =
    let one = one_call cs call have.0 in
    let rest = all_calls cs calls have.1 in
    (one.0 ∷ rest.0, (one.1, rest.1))

with_others : (cs : Catalog) (calls : List Call) (made : List StoreCall) → HaveCallBytes cs calls → AreSomeMadeBy cs calls made
    → (others : List StoreCall) × AreMadeBy cs calls (made ++ others)
with_others cs calls [] have are = all_calls cs calls have
with_others cs [] (x ∷ made) have are = absurd are
with_others cs (call ∷ calls) (x ∷ made) have are =
    let rest = with_others cs calls made have.1 are.1 in (rest.0, (are.0, rest.1))

module _ (keeps : Keeps) (makes : MakesDocs) (base : List ℕ) (staged : (base key : List ℕ) (number stamp : ℕ) (es : List Entry) → AreOfEntries es (makes base key number stamp es))
    (cs : Catalog) (c : ℕ) (key : List ℕ) (old : Option StateDoc) (m : Area) (laws : FoldLaws (fold_of keeps makes base) cs)
    (starts : StartsPassOf (fold_of keeps makes base) cs c key old m) where
  abbrev f : Fold
  f = fold_of keeps makes base

  abbrev k : ℕ
  k = length cs

  abbrev items : List Placed
  items = items_behind_state c (state_at old) cs key

  lawful : IsLawful cs
  lawful = starts.catalog.lawful

  old_is : IsOld keeps cs key old
  old_is = is_old f cs c key old (get m) starts.sound.state

  behind : AreBehind cs key (state_at old) items
  behind = are_behind cs key c (state_at old) lawful (last_item f cs c key old (get m) starts.sound.state)

  module _ (dirty clean : StateDoc) (states : HasStates keeps makes base key old items k dirty clean) where
    abbrev plan : PassPlan
    plan = plan_of cs key (docs_given makes base key old) (docs_by makes base key clean) (names_in old) dirty clean

    dirty_scratch : IsScratch f cs key dirty
    dirty_scratch = scratch_of f cs key lawful old old_is items behind dirty states.dirty_taken

    clean_scratch : IsScratch f cs key clean
    clean_scratch = scratch_of f cs key lawful old old_is items behind clean states.clean_taken

    dirty_text : (name : List ℕ) → Contains (names_in old) name ⊎ Contains (keys (docs_by makes base key clean)) name → IsUtf8 name
    dirty_text name (inl was) = names_are_texts old starts.stored.value name was
    dirty_text name (inr is) = text_in clean.names name states.texts (subst (λ (ns : List (List ℕ)). Contains ns name) (sym states.new_names) is)

    is_area_plan : IsAreaPlan f cs key k old m plan
    is_area_plan = record {
      leads = is_plan keeps makes base key (staged base key) cs lawful laws c (get m) old starts.sound.state items dirty clean states dirty_scratch clean_scratch;
      dirty = state_value f cs key dirty starts.catalog states.dirty_taken.at dirty_scratch (texts_of dirty.names (λ name is. dirty_text name ((states.all_names name).0 is)));
      clean = state_value f cs key clean starts.catalog states.clean_taken.at clean_scratch states.texts;
    }

    plan_meets : MeetAllOnHive f cs k m (all_done (map Change (plan_calls key plan)))
    plan_meets = pass_meets f cs k laws c key old m plan starts.sound starts.stored starts.item (omega arith) is_area_plan

    made_meet : (made : List StoreCall) → HaveCallBytes cs (pass_calls makes base key old dirty clean) → AreMadeBy cs (pass_calls makes base key old dirty clean) made
        → MeetAllOnHive f cs k m (all_done (map Change made))
    made_meet made have are = subst (λ (l : List StoreCall). MeetAllOnHive f cs k m (all_done (map Change l)))
        (sym (all_made cs (pass_calls makes base key old dirty clean) made have are
        ∙ calls_made cs key (docs_given makes base key old) (docs_by makes base key clean) (names_in old) dirty clean)) plan_meets

  none_made : (made : List StoreCall) → AreMadeBy cs [] made → MeetAllOnHive f cs k m (all_done (map Change made))
  none_made [] are = tt
  none_made (x ∷ made) are = absurd are

  pub calls_meet : (calls : List Call) (made : List StoreCall) → AreCallsOf f cs c key old calls → AreMadeBy cs calls made
      → MeetAllOnHive f cs k m (all_done (map Change made))
  calls_meet calls made are by =
      let have : HaveCallBytes cs calls = calls_have_bytes keeps makes base staged cs c key old m laws starts calls are in
      elim (is_idle old items) as (λ (b : Bool). is_idle old items ≡ b → MeetAllOnHive f cs k m (all_done (map Change made))) [
        | true ↦ λ idle. none_made made (subst (λ (l : List Call). AreMadeBy cs l made) (are.idle idle) by)
        | false ↦ λ busy. let own = are.planned busy in
            made_meet own.0 own.1 own.2 made (subst (HaveCallBytes cs) own.3 have) (subst (λ (l : List Call). AreMadeBy cs l made) own.3 by)
      ] refl

  pub some_meet : (calls : List Call) (made : List StoreCall) → AreCallsOf f cs c key old calls → AreSomeMadeBy cs calls made
      → MeetAllOnHive f cs k m (all_done (map Change made))
  some_meet calls made are by =
      let have : HaveCallBytes cs calls = calls_have_bytes keeps makes base staged cs c key old m laws starts calls are in
      let rest = with_others cs calls made have by in
      front f cs k (map Change made) (map Change rest.0) m (subst (λ (l : List Act). MeetAllOnHive f cs k m (all_done l)) (map-append Change made rest.0)
      (calls_meet calls (made ++ rest.0) are rest.1))
