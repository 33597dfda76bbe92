-- The passes of a round lead the ids of a sound area.
use Rattle.std.proofs.Common.{◌≡◌, ⊎_elim, ◌<◌, ◌≤◌, ℕ, List, [], ◌∷◌, ◌++◌, length, Option, Some, None, option_map, IfSome, refl, sym, ◌∙◌, ap, subst, arith}
use Rattle.std.specs.FinMap.{get}
use Rattle.std.specs.List.{slice_get}
use Rattle.blob_store.specs.Area.{Area}
use Rattle.blob_store.specs.Steps.{after_plan}
use Rattle.blob_store.specs.declared.call.Call.{Call as StoreCall}
use Rattle.blob_store.specs.declared.call.Call.TheVariants as store
use Rattle.blob_store.proofs.RunFronts.{after_done}
use Rattle.blob_store.proofs.Stepping.{after_plan-append}
use Rattle.pkg_meta.specs.Catalog.{Catalog}
use Rattle.pkg_meta.specs.Lawful.{IsLawful, Placed, newest}
use Rattle.pkg_meta.specs.declared.commit.Stored.{Stored}
use Rattle.pkg_meta.specs.declared.entry.Entry.{Entry}
use Rattle.pkg_meta.specs.declared.state.StateDoc.{StateDoc}
use Rattle.catalog_doc.specs.Catalogs.{IsCatalog}
use Rattle.cursor_doc.specs.Cursor.{cursor_name, cursor_text}
use Rattle.hive_state.specs.Reading.{IsStateValue}
use Rattle.hive_state.specs.State.{state_name, state_text}
use Rattle.fold_core.specs.Docs.{MakesDocs}
use Rattle.fold_core.specs.Entries.{Keeps}
use Rattle.fold_core.specs.Folds.{Fold, fold_of, touched_by}
use Rattle.fold_core.specs.Items.{commits_of, stamp_in}
use Rattle.fold_core.specs.Laws.{AreOfEntries}
use Rattle.fold_core.specs.Sound.{IsSoundId}
use Rattle.fold_core.specs.declared.doc.Body.TheVariants.{Made, Staged as FromPublish}
use Rattle.hive_laws.specs.Areas.{SettledArea, SoundArea, cursor_at}
use Rattle.hive_laws.specs.FoldLaws.{FoldLaws}
use Rattle.hive_laws.specs.Rounds.{AreDue, AreLed, HaveItems, IsLed}
use Rattle.hive_laws.proofs.AreaRounds.{round_settles, round_sound}
use Rattle.hive_laws.proofs.AreaTells.{cursor_tells, no_cursor_tells}
use Rattle.hive_laws.proofs.Listed.{first, later, nothing_in, split}
use Rattle.id_pass.specs.Passes.{ArePassCalls, is_idle}
use Rattle.id_pass.specs.declared.call.Call.{Call}
use Rattle.id_pass.specs.declared.call.Call.TheVariants.{Put, Remove}
use Rattle.pass_laws.specs.Making.{AreMadeBy, AreSomeMadeBy, IsMadeBy}
use Rattle.pass_laws.specs.Starting.{AreCallsOf, StartsPassOf}
use Rattle.pass_laws.specs.Starting.{state_at as at_of, items_behind_state as items_of_id}
use Rattle.pass_laws.proofs.Leads.{led}
use Rattle.job_round.specs.Cursors.{IsCursor}
use Rattle.job_round.specs.Items.{items_behind, keys_after}
use Rattle.job_round.specs.Made.{AreMade, AreSomeMade, IsMadeCall}
use Rattle.job_round.specs.Plans.{AreWholePasses, IsWholePass, Pass, TakesUp, keys_in, pass_plan, passes_plan}
use Rattle.job_round.specs.Rounds.{IsTask, cursor_put, round_plan}
use Rattle.job_round.specs.States.{IsStoredState, at_in}
use Rattle.round_laws.proofs.Ids.{are_due}

some_inside : {A : Type 0} (x y : A) → Some x ≡ Some y → x ≡ y
some_inside x y e = cc

same_at : (o : Option StateDoc) → at_in o ≡ at_of o
same_at None = refl
same_at (Some s) = refl

-- the state that is read is the one that the area has
told_state : (key : List ℕ) (target : ℕ) (found : Option (List ℕ)) (o p : Option StateDoc) → IfSome o IsStateValue → found ≡ option_map state_text o
    → IsStoredState key target found p → o ≡ p
told_state key target found None None value e is = refl
told_state key target found None (Some s) value e is = absurd (let no_ : None ≡ Some (state_text s) = sym e ∙ is.0 in let no : ⊥ = cc in no)
told_state key target found (Some t) None value e is = absurd (let no_ : Some (state_text t) ≡ None = sym e ∙ is in let no : ⊥ = cc in no)
told_state key target found (Some t) (Some s) value e is = ap Some (is.1 t value e)

-- the cursor that is read is the one that the area has
pub cursor_is : (cs : Catalog) (c n : ℕ) (found : Option (List ℕ)) → IsLawful cs → c ≤ length cs → found ≡ cursor_at cs c → IsCursor found n → n ≡ c
cursor_is cs c n None lawful le e is = is ∙ sym (no_cursor_tells cs c (sym e))
cursor_is cs c n (Some bytes) lawful le e (mark, value, text, number) = sym number ∙ cursor_tells cs c lawful le mark value (sym e ∙ ap Some text)

last_stamp : (x : Stored) (cs : Catalog) → stamp_in (slice_get (commits_of (x ∷ cs)) (length cs)) ≡ newest (x ∷ cs)
last_stamp x [] = refl
last_stamp x (y ∷ cs) = last_stamp y cs

pub cursor_last : (cs : Catalog) (c : ℕ) → c < length cs → cursor_at cs (length cs) ≡ Some (cursor_text (length cs) (newest cs))
cursor_last [] c less = absurd (omega (arith, less))
cursor_last (x ∷ cs) c less = ap (λ (s : ℕ). Some (cursor_text (length (x ∷ cs)) s)) (last_stamp x cs)

module _ (keeps : Keeps) (makes : MakesDocs) (base : List ℕ) (staged : (base key : List ℕ) (number stamp : ℕ) (es : List Entry)
    → AreOfEntries es (makes base key number stamp es))
    (cs : Catalog) (catalog : IsCatalog cs) (laws : FoldLaws (fold_of keeps makes base) cs) (Q : Catalog → Type 0) (meant : Q cs) (c : ℕ) where
  abbrev f : Fold
  f = fold_of keeps makes base

  made_by : (call : Call) (made : StoreCall) → IsMadeCall Q call made → IsMadeBy cs call made
  made_by (Put name (Made own)) made is = λ bytes has. is ∙ ap (store.Put name) (some_inside own bytes has)
  made_by (Put name (FromPublish number place nuspec)) made is = λ bytes has. is.1 ∙ ap (store.Put name) (is.2 cs meant bytes has)
  made_by (Remove name) made is = is

  all_by : (calls : List Call) (made : List StoreCall) → AreMade Q calls made → AreMadeBy cs calls made
  all_by [] [] are = tt
  all_by [] (x ∷ made) are = are
  all_by (call ∷ calls) [] are = are
  all_by (call ∷ calls) (x ∷ made) are = (made_by call x are.0, all_by calls made are.1)

  pub some_by : (calls : List Call) (made : List StoreCall) → AreSomeMade Q calls made → AreSomeMadeBy cs calls made
  some_by calls [] are = tt
  some_by [] (x ∷ made) are = are
  some_by (call ∷ calls) (x ∷ made) are = (made_by call x are.0, some_by calls made are.1)

  module _ (target : ℕ) (ends : target ≡ length cs) (p : Pass) (m : Area) (sound : SoundArea f cs c m) (item : c < touched_by cs p.key (length cs))
      (takes : TakesUp f Q c target (Some m) p) where
    same : sound.0 p.key ≡ p.stored
    same = told_state p.key target (get m (state_name p.key)) (sound.0 p.key) p.stored (sound.1.area.values p.key) (sound.1.area.held p.key) takes.stored

    pub starts : StartsPassOf f cs c p.key p.stored m
    starts = record {
      catalog = catalog;
      sound = subst (λ (o : Option StateDoc). IsSoundId f cs c p.key o (get m)) same (sound.1.sound.ids p.key);
      item = item;
      stored = record {
        value = subst (λ (o : Option StateDoc). IfSome o IsStateValue) same (sound.1.area.values p.key);
        held = sound.1.area.held p.key ∙ ap (option_map state_text) same;
      };
    }

    items_are : p.items ≡ items_of_id c (at_of p.stored) cs p.key
    items_are = takes.items cs meant ∙ ap (λ (at : ℕ). items_behind c at cs p.key) (same_at p.stored)

    pub are_calls : AreCallsOf f cs c p.key p.stored p.calls
    are_calls = record {
      idle = λ is. takes.planned.idle (ap (is_idle p.stored) items_are ∙ is);
      planned = λ is. subst (λ (k : ℕ). ArePassCalls f.keeps f.makes f.base p.key p.stored (items_of_id c (at_of p.stored) cs p.key) k p.calls) ends
          (subst (λ (items : List Placed). ArePassCalls f.keeps f.makes f.base p.key p.stored items target p.calls) items_are
          (takes.planned.calls (ap (is_idle p.stored) items_are ∙ is)));
    }

  module _ (target : ℕ) (ends : target ≡ length cs) where
    pass_led : (p : Pass) (m : Area) → SoundArea f cs c m → c < touched_by cs p.key (length cs) → IsWholePass f Q c target (Some m) p
        → IsLed f cs p.key (length cs) m (after_plan (pass_plan p) m)
    pass_led p m sound item whole = subst (λ (a : Area). IsLed f cs p.key (length cs) m a) (sym (after_done p.made m))
        (led keeps makes base staged cs c p.key p.stored m laws (starts target ends p m sound item whole.takes) p.calls p.made
        (are_calls target ends p m sound item whole.takes) (all_by p.calls p.made whole.whole))

    pub only : (key : List ℕ) → c < touched_by cs key (length cs) → HaveItems cs c (length cs) (key ∷ [])
    only key item = λ j is. ⊎_elim (λ e. subst (λ (x : List ℕ). c < touched_by cs x (length cs)) (sym e) item) (λ none. absurd (nothing_in j none))
        (split key j [] is)

    pub pass_sound : (p : Pass) (m : Area) → SoundArea f cs c m → c < touched_by cs p.key (length cs) → IsWholePass f Q c target (Some m) p
        → SoundArea f cs c (after_plan (pass_plan p) m)
    pass_sound p m sound item whole = round_sound f cs laws c (p.key ∷ []) m (after_plan (pass_plan p) m) sound (only p.key item)
        (after_plan (pass_plan p) m, pass_led p m sound item whole, refl)

    pub passes_led : (passes : List Pass) (m : Area) → SoundArea f cs c m → HaveItems cs c (length cs) (keys_in passes)
        → AreWholePasses f Q c target (Some m) passes
        → AreLed f cs (length cs) (keys_in passes) m (after_plan (passes_plan passes) m)
    passes_led [] m sound items all = refl
    passes_led (p ∷ passes) m sound items all =
        let item : c < touched_by cs p.key (length cs) = items p.key (first p.key (keys_in passes)) in
        let mid : Area = after_plan (pass_plan p) m in (
          mid,
          pass_led p m sound item all.0,
          subst (λ (a : Area). AreLed f cs (length cs) (keys_in passes) mid a) (sym (after_plan-append (pass_plan p) (passes_plan passes) m))
              (passes_led passes mid (pass_sound p m sound item all.0) (λ j is. items j (later p.key j (keys_in passes) is)) all.1),
        )

  -- what a task tells
  module _ (m : Area) (sound : SoundArea f cs c m) where
    pub task_cursor : (n target stamp : ℕ) (keys : List (List ℕ)) → IsTask Q (Some m) n target stamp keys → n ≡ c
    task_cursor n target stamp keys task = cursor_is cs c n (get m cursor_name) catalog.lawful sound.1.sound.cursor sound.1.area.cursor task.cursor

    module _ (target stamp : ℕ) (passes : List Pass) (task : IsTask Q (Some m) c target stamp (keys_in passes))
        (all : AreWholePasses f Q c target (Some m) passes) where
      -- the whole round
      pub settles : SettledArea f cs (length cs) (after_plan (round_plan passes ++ cursor_put target stamp ∷ []) m)
      settles =
          let ends : target ≡ length cs = task.ends cs meant in
          let keys : keys_in passes ≡ keys_after c cs = task.ids cs meant in
          let due = subst (λ (l : List (List ℕ)). AreDue cs c (length cs) l) (sym keys) (are_due cs c catalog.lawful) in
          let made = passes_led target ends passes m sound due.some all in
          let text : cursor_at cs (length cs) ≡ Some (cursor_text target stamp) =
          cursor_last cs c (task.behind cs meant) ∙ (λ i. Some (cursor_text (sym ends i) (sym (task.newest_is cs meant) i))) in
          subst (λ (a : Area). SettledArea f cs (length cs) a) (sym (after_plan-append (round_plan passes) (cursor_put target stamp ∷ []) m))
          (round_settles f cs laws c (keys_in passes) m (after_plan (passes_plan passes) m) sound due made (cursor_text target stamp) text)
