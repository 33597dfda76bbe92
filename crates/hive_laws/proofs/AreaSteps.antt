-- What the calls of steps do to a hive's area.
use Rattle.std.proofs.Common.{◌≡◌, ◌≢◌, inl, inr, ⊎_elim, ◌<◌, ◌≤◌, ℕ, zero, suc, List, [], ◌∷◌, ◌++◌, length, map, take, Option, None, Some, refl, sym, ◌∙◌, ap, subst}
use Rattle.std.specs.Prelude.{IfSome, option_map, ⊤}
use Rattle.std.specs.FinMap.{get}
use Rattle.blob_store.specs.Area.{Area, changed}
use Rattle.blob_store.specs.Runs.{after_call, after_calls}
use Rattle.blob_store.proofs.Areas.{get_changed_other, get_changed_same}
use Rattle.pkg_meta.specs.Catalog.{Catalog}
use Rattle.pkg_meta.specs.declared.state.StateDoc.{StateDoc}
use Rattle.cursor_doc.specs.Cursor.{cursor_name}
use Rattle.hive_state.specs.Reading.{IsStateValue}
use Rattle.hive_state.specs.State.{state_name, state_text}
use Rattle.fold_core.specs.Docs.{owner}
use Rattle.fold_core.specs.Folds.{Fold, Look, touched_by}
use Rattle.fold_core.specs.Sound.{IsSoundId}
use Rattle.hive_laws.specs.Areas.{IsHiveArea, IsSoundArea}
use Rattle.hive_laws.specs.FoldLaws.{FoldLaws}
use Rattle.hive_laws.specs.Rounds.{ChangesOneId, call_of}
use Rattle.hive_laws.specs.Steps.{AreAllowed, IsAllowed, KeptOfId, Step, PutState, PutDoc, RemoveDoc, after_step, after_steps, with_found}
use Rattle.hive_laws.proofs.Looks.{decide, is_some_by, some_by, with_found_here, with_found_other}
use Rattle.hive_laws.proofs.OneId.{carry}
use Rattle.hive_laws.proofs.OnePass.{step_keeps}
use Rattle.hive_laws.proofs.StateNames.{cursor_unowned, names_tell, no_state_of_cursor, not_owned, owned_by_none}

module _ (key : List ℕ) where
  -- a step on the id's own documents, and one that puts a state of the code's values
  abbrev IsOwn : Step → Type 0
  IsOwn (PutState s) = ⊤
  IsOwn (PutDoc name bytes) = owner name ≡ Some key
  IsOwn (RemoveDoc name) = owner name ≡ Some key

  abbrev pub AreOwn : List Step → Type 0
  AreOwn [] = ⊤
  AreOwn (step ∷ steps) = IsOwn step × AreOwn steps

  abbrev HasValue : Step → Type 0
  HasValue (PutState s) = IsStateValue s
  HasValue (PutDoc name bytes) = ⊤
  HasValue (RemoveDoc name) = ⊤

  abbrev pub HaveValues : List Step → Type 0
  HaveValues [] = ⊤
  HaveValues (step ∷ steps) = HasValue step × HaveValues steps

  pub own_front : (n : ℕ) (steps : List Step) → AreOwn steps → AreOwn (take n steps)
  own_front zero steps own = tt
  own_front (suc n) [] own = tt
  own_front (suc n) (step ∷ steps) own = (own.0, own_front n steps own.1)

  pub values_front : (n : ℕ) (steps : List Step) → HaveValues steps → HaveValues (take n steps)
  values_front zero steps values = tt
  values_front (suc n) [] values = tt
  values_front (suc n) (step ∷ steps) values = (values.0, values_front n steps values.1)

  pub values_joined : (some more : List Step) → HaveValues some → HaveValues more → HaveValues (some ++ more)
  values_joined [] more a b = b
  values_joined (step ∷ some) more a b = (a.0, values_joined some more a.1 b)

  -- the documents of ids are those that the steps leave
  Agrees : Look (List ℕ) → Area → Type 0
  Agrees held m = (q j : List ℕ) → owner q ≡ Some j → get m q ≡ held q

  doc_agrees : (name : List ℕ) (found : Option (List ℕ)) (held : Look (List ℕ)) (m : Area) → Agrees held m → Agrees (with_found name found held) (changed name found m)
  unfolding Agrees
  doc_agrees name found held m agrees q j own = ⊎_elim
      (λ e. subst (λ (x : List ℕ). get (changed name found m) x ≡ with_found name found held x) (sym e) (get_changed_same m name found ∙ sym (with_found_here name found held)))
      (λ o. get_changed_other m name found q o ∙ agrees q j own ∙ sym (with_found_other name found held q o)) (decide q name)

  step_agrees : (step : Step) (kept : KeptOfId) (m : Area) → Agrees kept.held m → Agrees (after_step step kept).held (after_call (call_of key step) m)
  unfolding Agrees
  step_agrees (PutState s) kept m agrees = λ q j own.
      get_changed_other m (state_name key) (Some (state_text s)) q (not_owned (state_name key) q j (owned_by_none key) own) ∙ agrees q j own
  step_agrees (PutDoc name bytes) kept m agrees = doc_agrees name (Some bytes) kept.held m agrees
  step_agrees (RemoveDoc name) kept m agrees = doc_agrees name None kept.held m agrees

  steps_agree_from : (steps : List Step) (kept : KeptOfId) (m : Area) → Agrees kept.held m → Agrees (after_steps steps kept).held (after_calls (map (call_of key) steps) m)
  steps_agree_from [] kept m agrees = agrees
  steps_agree_from (step ∷ steps) kept m agrees = steps_agree_from steps (after_step step kept) (after_call (call_of key step) m) (step_agrees step kept m agrees)

  pub steps_agree : (steps : List Step) (stored : Option StateDoc) (m : Area) (q j : List ℕ) → owner q ≡ Some j
      → get (after_calls (map (call_of key) steps) m) q ≡ (after_steps steps (record { stored = stored; held = get m })).held q
  unfolding Agrees
  steps_agree steps stored m = steps_agree_from steps (record { stored = stored; held = get m }) m (λ q j own. refl)

  -- every other name is left alone
  one_changes : (step : Step) (m : Area) → IsOwn step → ChangesOneId key m (after_call (call_of key step) m)
  one_changes (PutState s) m own q other unowned = get_changed_other m (state_name key) (Some (state_text s)) q other
  one_changes (PutDoc name bytes) m own q other unowned = get_changed_other m name (Some bytes) q (λ e. unowned (ap owner e ∙ own))
  one_changes (RemoveDoc name) m own q other unowned = get_changed_other m name None q (λ e. unowned (ap owner e ∙ own))

  pub steps_change : (steps : List Step) (m : Area) → AreOwn steps → ChangesOneId key m (after_calls (map (call_of key) steps) m)
  steps_change [] m own q other unowned = refl
  steps_change (step ∷ steps) m own q other unowned =
      steps_change steps (after_call (call_of key step) m) own.1 q other unowned ∙ one_changes step m own.0 q other unowned

  -- the states are those with the id's own
  module _ (cs : Catalog) (c : ℕ) (states : Look StateDoc) where
    doc_area : (name : List ℕ) (found : Option (List ℕ)) (now : Look StateDoc) (m : Area) → owner name ≡ Some key → IsHiveArea cs c now m → IsHiveArea cs c now (changed name found m)
    doc_area name found now m own area = record {
      cursor = get_changed_other m name found cursor_name (λ e. not_owned cursor_name name key cursor_unowned own (sym e)) ∙ area.cursor;
      held = λ j. get_changed_other m name found (state_name j) (λ e. not_owned (state_name j) name key (owned_by_none j) own (sym e)) ∙ area.held j;
      values = area.values;
      known = λ q is. ⊎_elim (λ e. inr (inr (key, ap owner e ∙ own)))
          (λ o. area.known q (is_some_by _ _ (sym (get_changed_other m name found q o)) is)) (decide q name);
    }

    step_area : (step : Step) (kept : KeptOfId) (m : Area) → IsOwn step → HasValue step → IsHiveArea cs c (with_found key kept.stored states) m
        → IsHiveArea cs c (with_found key (after_step step kept).stored states) (after_call (call_of key step) m)
    step_area (PutState s) kept m own value area = record {
      cursor = get_changed_other m (state_name key) (Some (state_text s)) cursor_name (no_state_of_cursor key) ∙ area.cursor;
      held = λ j. ⊎_elim
          (λ e. subst (λ (x : List ℕ). get (changed (state_name key) (Some (state_text s)) m) (state_name x) ≡ option_map state_text (with_found key (Some s) states x)) (sym e)
          (get_changed_same m (state_name key) (Some (state_text s)) ∙ sym (ap (option_map state_text) (with_found_here key (Some s) states))))
          (λ o. get_changed_other m (state_name key) (Some (state_text s)) (state_name j) (λ e. o (names_tell j key e)) ∙ area.held j
          ∙ ap (option_map state_text) (with_found_other key kept.stored states j o ∙ sym (with_found_other key (Some s) states j o))) (decide j key);
      values = λ j. ⊎_elim
          (λ e. subst (λ (x : List ℕ). IfSome (with_found key (Some s) states x) IsStateValue) (sym e)
          (subst (λ (o : Option StateDoc). IfSome o IsStateValue) (sym (with_found_here key (Some s) states)) value))
          (λ o. subst (λ (x : Option StateDoc). IfSome x IsStateValue) (with_found_other key kept.stored states j o ∙ sym (with_found_other key (Some s) states j o)) (area.values j)) (decide j key);
      known = λ q is. ⊎_elim (λ e. inr (inl (key, e)))
          (λ o. area.known q (is_some_by _ _ (sym (get_changed_other m (state_name key) (Some (state_text s)) q o)) is)) (decide q (state_name key));
    }
    step_area (PutDoc name bytes) kept m own value area = doc_area name (Some bytes) (with_found key kept.stored states) m own area
    step_area (RemoveDoc name) kept m own value area = doc_area name None (with_found key kept.stored states) m own area

    steps_area : (steps : List Step) (kept : KeptOfId) (m : Area) → AreOwn steps → HaveValues steps → IsHiveArea cs c (with_found key kept.stored states) m
        → IsHiveArea cs c (with_found key (after_steps steps kept).stored states) (after_calls (map (call_of key) steps) m)
    steps_area [] kept m own values area = area
    steps_area (step ∷ steps) kept m own values area =
        steps_area steps (after_step step kept) (after_call (call_of key step) m) own.1 values.1 (step_area step kept m own.0 values.0 area)

    same_states : (j : List ℕ) → with_found key (states key) states j ≡ states j
    same_states j = ⊎_elim (λ e. subst (λ (x : List ℕ). with_found key (states key) states x ≡ states x) (sym e) (with_found_here key (states key) states))
        (λ o. with_found_other key (states key) states j o) (decide j key)

    start_area : (m : Area) → IsHiveArea cs c states m → IsHiveArea cs c (with_found key (states key) states) m
    start_area m area = record {
      cursor = area.cursor;
      held = λ j. area.held j ∙ ap (option_map state_text) (sym (same_states j));
      values = λ j. subst (λ (o : Option StateDoc). IfSome o IsStateValue) (sym (same_states j)) (area.values j);
      known = area.known;
    }

-- what another id has is left as it was
pub others_same : (key j : List ℕ) (old new : Area) → ChangesOneId key old new → j ≢ key → (q : List ℕ) → owner q ≡ Some j → get new q ≡ get old q
others_same key j old new changes other q own = changes q (not_owned (state_name key) q j (owned_by_none key) own)
    (λ mine. other (let same : Some j ≡ Some key = sym own ∙ mine in cc))

module _ (f : Fold) (cs : Catalog) (laws : FoldLaws f cs) (c : ℕ) (key : List ℕ) (states : Look StateDoc) (m : Area) (area : IsSoundArea f cs c states m) where
  abbrev kept_here : KeptOfId
  kept_here = record { stored = states key; held = get m }

  -- after own steps that keep the id sound the area is that of a sound hive
  pub steps_sound : (steps : List Step) → AreOwn key steps → HaveValues key steps
      → IsSoundId f cs c key (after_steps steps kept_here).stored (after_steps steps kept_here).held
      → IsSoundArea f cs c (with_found key (after_steps steps kept_here).stored states) (after_calls (map (call_of key) steps) m)
  steps_sound steps own values sound = record {
    area = steps_area key cs c states steps kept_here m own values (start_area key cs c states m area.area);
    sound = record {
      cursor = area.sound.cursor;
      ids = λ j. ⊎_elim
          (λ e. subst (λ (x : List ℕ). IsSoundId f cs c x (with_found key (after_steps steps kept_here).stored states x) (get (after_calls (map (call_of key) steps) m))) (sym e)
          (subst (λ (o : Option StateDoc). IsSoundId f cs c key o (get (after_calls (map (call_of key) steps) m))) (sym (with_found_here key (after_steps steps kept_here).stored states))
          (carry f cs laws key (after_steps steps kept_here).held (get (after_calls (map (call_of key) steps) m))
          (λ q mine. steps_agree key steps (states key) m q key mine) c (after_steps steps kept_here).stored sound)))
          (λ o. subst (λ (x : Option StateDoc). IsSoundId f cs c j x (get (after_calls (map (call_of key) steps) m))) (sym (with_found_other key (after_steps steps kept_here).stored states j o))
          (carry f cs laws j (get m) (get (after_calls (map (call_of key) steps) m))
          (others_same key j m (after_calls (map (call_of key) steps) m) (steps_change key steps m own) o) c (states j) (area.sound.ids j))) (decide j key);
    };
  }

-- allowed steps are on the id's own documents
module _ (f : Fold) (cs : Catalog) (laws : FoldLaws f cs) (c k : ℕ) (key : List ℕ) (item : c < touched_by cs key k) (reached : k ≤ length cs) where
  own_step : (step : Step) (kept : KeptOfId) → IsSoundId f cs c key kept.stored kept.held → IsAllowed f cs key k step kept → IsOwn key step
  own_step (PutState s) kept sound allowed = tt
  own_step (PutDoc name bytes) kept sound allowed = laws.owned key allowed.0.at name (some_by _ bytes allowed.3.made)
  own_step (RemoveDoc name) kept sound allowed =
      (subst (λ (o : Option StateDoc). IsSoundId f cs c key o kept.held) allowed.2 sound).state.0.owned name allowed.3.named

  pub own_steps : (steps : List Step) (kept : KeptOfId) → IsSoundId f cs c key kept.stored kept.held → AreAllowed f cs key k steps kept → AreOwn key steps
  own_steps [] kept sound allowed = tt
  own_steps (step ∷ steps) kept sound allowed =
      (own_step step kept sound allowed.0, own_steps steps (after_step step kept) (step_keeps f cs laws c k key item reached step kept sound allowed.0) allowed.1)
