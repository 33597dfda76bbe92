-- Calls on a hive's area that meet their conditions: one list behind another, a front of a list, and those of a pass.
use Rattle.std.proofs.Common.{◌≡◌, ◌<◌, ◌≤◌, inl, inr, ⊎_elim, ℕ, List, [], ◌∷◌, ◌++◌, length, map, codes, Option, None, Some, refl, sym, ◌∙◌, subst, arith}
use Rattle.std.specs.Prelude.{IsSome, take}
use Rattle.std.specs.FinMap.{get}
use Rattle.blob_store.specs.Area.{Area, changed}
use Rattle.blob_store.specs.Events.{Act, Change, Done, Event, Fate, after_event}
use Rattle.blob_store.specs.Plans.{Makes, MakesSome, StopsAt, all_done}
use Rattle.blob_store.specs.Runs.{after_call}
use Rattle.blob_store.specs.Seen.{Seen}
use Rattle.blob_store.specs.Steps.{after_plan}
use Rattle.blob_store.specs.declared.error.BlobErr.{BlobErr}
use Rattle.blob_store.proofs.Areas.{get_changed_other, get_changed_same}
use Rattle.pkg_meta.specs.Catalog.{Catalog}
use Rattle.pkg_meta.specs.declared.state.StateDoc.{StateDoc}
use Rattle.hive_state.specs.State.{state_name, state_text}
use Rattle.fold_core.specs.Docs.{id_index_name, owner}
use Rattle.fold_core.specs.Events.{IsIndexDone}
use Rattle.fold_core.specs.Folds.{Fold, Look, made_at, touched_by}
use Rattle.fold_core.specs.Items.{commits_of}
use Rattle.fold_core.specs.Sound.{IsSoundId}
use Rattle.fold_core.proofs.DocNames.{owner_of}
use Rattle.hive_laws.specs.FoldLaws.{FoldLaws}
use Rattle.hive_laws.specs.Plans.{PassPlan, pass_steps}
use Rattle.hive_laws.specs.Rounds.{IsAreaPlan, IsStored, call_of, plan_calls}
use Rattle.hive_laws.specs.Steps.{AreAllowed, IsAllowed, KeptOfId, Step, PutState, PutDoc, RemoveDoc, after_step, with_found}
use Rattle.hive_laws.proofs.AreaSteps.{AreOwn, HaveValues, own_steps}
use Rattle.hive_laws.proofs.EveryHive.{item_whole}
use Rattle.hive_laws.proofs.Looks.{decide, with_found_here, with_found_other}
use Rattle.hive_laws.proofs.OnePass.{pass_allowed}
use Rattle.hive_laws.proofs.PassValues.{plan_values}
use Rattle.hive_laws.proofs.StateNames.{not_owned, owned_by_none}
use Rattle.feed_laws.specs.Calls.{CallsMeetOnHive, MeetAllOnHive, MeetsOnHive}

module _ (f : Fold) (cs : Catalog) (k : ℕ) where
  -- one list behind another
  pub joined : (xs ys : List Act) (m : Area) → MeetAllOnHive f cs k m (all_done xs) → MeetAllOnHive f cs k (after_plan xs m) (all_done ys)
      → MeetAllOnHive f cs k m (all_done (xs ++ ys))
  joined [] ys m meet more = more
  joined (x ∷ xs) ys m meet more = (meet.0, joined xs ys (after_event (record { act = x; fate = Done }) m) meet.1 more)

  -- the first calls alone, and with one behind them that has another fate
  pub front : (xs ys : List Act) (m : Area) → MeetAllOnHive f cs k m (all_done (xs ++ ys)) → MeetAllOnHive f cs k m (all_done xs)
  front [] ys m meet = tt
  front (x ∷ xs) ys m meet = (meet.0, front xs ys (after_event (record { act = x; fate = Done }) m) meet.1)

  ended : (xs : List Act) (x : Act) (ys : List Act) (fate : Fate) (m : Area) → MeetAllOnHive f cs k m (all_done (xs ++ x ∷ ys))
      → MeetAllOnHive f cs k m (all_done xs ++ (record { act = x; fate = fate }) ∷ [])
  ended [] x ys fate m meet = (meet.0, tt)
  ended (w ∷ xs) x ys fate m meet = (meet.0, ended xs x ys fate (after_event (record { act = w; fate = Done }) m) meet.1)

  module _ (plan : List Act) (m : Area) (meet : MeetAllOnHive f cs k m (all_done plan)) (old new : Seen) where
    pub plan_meets : Makes plan old new → CallsMeetOnHive f cs k m old new
    plan_meets made = (all_done plan, made, meet)

    pub some_meet : MakesSome plan old new → CallsMeetOnHive f cs k m old new
    some_meet (first, unmade, planned, made) =
        (all_done first, made, front first unmade m (subst (λ (l : List Act). MeetAllOnHive f cs k m (all_done l)) planned meet))

    pub stop_meets : (error : BlobErr) → StopsAt plan error old new → CallsMeetOnHive f cs k m old new
    stop_meets error (events, ends, tracked) = (
      events,
      tracked,
      subst (λ (l : List Event). MeetAllOnHive f cs k m l) (sym ends.made) (ended ends.first ends.last ends.unmade ends.fate m
          (subst (λ (l : List Act). MeetAllOnHive f cs k m (all_done l)) ends.planned meet)),
    )

  -- the steps of a pass over an id
  module _ (laws : FoldLaws f cs) (key : List ℕ) (mine : owner (id_index_name key) ≡ Some key) where
    -- the id's documents are those that the steps leave
    abbrev Agrees : Look (List ℕ) → Area → Type 0
    Agrees held m = (q : List ℕ) → owner q ≡ Some key → get m q ≡ held q

    doc_agrees : (name : List ℕ) (found : Option (List ℕ)) (held : Look (List ℕ)) (m : Area) → Agrees held m → Agrees (with_found name found held) (changed name found m)
    doc_agrees name found held m agrees q own = ⊎_elim
        (λ e. subst (λ (x : List ℕ). get (changed name found m) x ≡ with_found name found held x) (sym e) (get_changed_same m name found ∙ sym (with_found_here name found held)))
        (λ o. get_changed_other m name found q o ∙ agrees q own ∙ sym (with_found_other name found held q o)) (decide q name)

    step_agrees : (step : Step) (kept : KeptOfId) (m : Area) → Agrees kept.held m → Agrees (after_step step kept).held (after_call (call_of key step) m)
    step_agrees (PutState s) kept m agrees = λ q own.
        get_changed_other m (state_name key) (Some (state_text s)) q (not_owned (state_name key) q key (owned_by_none key) own) ∙ agrees q own
    step_agrees (PutDoc name bytes) kept m agrees = doc_agrees name (Some bytes) kept.held m agrees
    step_agrees (RemoveDoc name) kept m agrees = doc_agrees name None kept.held m agrees

    stored_beside : (name : List ℕ) (found : Option (List ℕ)) (stored : Option StateDoc) (m : Area) → owner name ≡ Some key → IsStored key m stored
        → IsStored key (changed name found m) stored
    stored_beside name found stored m own is = record {
      value = is.value;
      held = get_changed_other m name found (state_name key) (λ e. not_owned (state_name key) name key (owned_by_none key) own (sym e)) ∙ is.held;
    }

    step_stored : (step : Step) (steps : List Step) (kept : KeptOfId) (m : Area) → AreOwn key (step ∷ steps) → HaveValues key (step ∷ steps) → IsStored key m kept.stored
        → IsStored key (after_call (call_of key step) m) (after_step step kept).stored
    step_stored (PutState s) steps kept m own values is = record { value = values.0; held = get_changed_same m (state_name key) (Some (state_text s)) }
    step_stored (PutDoc name bytes) steps kept m own values is = stored_beside name (Some bytes) kept.stored m own.0 is
    step_stored (RemoveDoc name) steps kept m own values is = stored_beside name None kept.stored m own.0 is

    made_own : (n : ℕ) (name : List ℕ) → IsSome (made_at f cs key n name) → owner name ≡ Some key
    made_own n name is = laws.owned key n name is

    index_done : (n : ℕ) (name : List ℕ) (held : Look (List ℕ)) (m : Area) → Agrees held m → IsIndexDone f cs key n name held → IsIndexDone f cs key n name (get m)
    index_done n name held m agrees (inl all) = inl (all.0, λ q is. agrees q (made_own n q is) ∙ all.1 q is)
    index_done n name held m agrees (inr (none, inl e)) = inr (none, inl e)
    index_done n name held m agrees (inr (none, inr gone)) = inr (none, inr (agrees (id_index_name key) mine ∙ gone))

    step_meets : (step : Step) (kept : KeptOfId) (m : Area) → Agrees kept.held m → IsStored key m kept.stored → IsAllowed f cs key k step kept
        → MeetsOnHive f cs k m (Change (call_of key step))
    step_meets (PutState s) kept m agrees is allowed = inl (
      key,
      kept.stored,
      s,
      is,
      refl,
      refl,
      allowed.0,
      ⊎_elim
          (λ dirty. inl dirty)
          (λ clean. inr (record {
            scratch = clean.scratch;
            clean = clean.clean;
            names = clean.names;
            holds = λ name own. agrees name own ∙ clean.holds name own;
          }))
          allowed.1,
    )
    step_meets (PutDoc name bytes) kept m agrees is allowed = inr (inl (
      key,
      allowed.0,
      subst (IsStored key m) allowed.2 is,
      allowed.1,
      record {
        dirty = allowed.3.dirty;
        named = allowed.3.named;
        made = allowed.3.made;
        index = λ e q other made. agrees q (made_own allowed.0.at q made) ∙ allowed.3.index e q other made;
      },
    ))
    step_meets (RemoveDoc name) kept m agrees is allowed = (
      key,
      allowed.0,
      subst (IsStored key m) allowed.2 is,
      allowed.1,
      record {
        dirty = allowed.3.dirty;
        named = allowed.3.named;
        unmade = allowed.3.unmade;
        index = index_done allowed.0.at name kept.held m agrees allowed.3.index;
      },
    )

    steps_meet : (steps : List Step) (kept : KeptOfId) (m : Area) → AreOwn key steps → HaveValues key steps → Agrees kept.held m → IsStored key m kept.stored
        → AreAllowed f cs key k steps kept → MeetAllOnHive f cs k m (all_done (map Change (map (call_of key) steps)))
    steps_meet [] kept m own values agrees is allowed = tt
    steps_meet (step ∷ steps) kept m own values agrees is allowed = (
      step_meets step kept m agrees is allowed.0,
      steps_meet steps (after_step step kept) (after_call (call_of key step) m) own.1 values.1 (step_agrees step kept m agrees) (step_stored step steps kept m own values is) allowed.1,
    )

  -- the calls of a pass by its plan
  module _ (laws : FoldLaws f cs) (c : ℕ) (key : List ℕ) (stored : Option StateDoc) (m : Area) (plan : PassPlan) (sound : IsSoundId f cs c key stored (get m))
      (is_stored : IsStored key m stored) (item : c < touched_by cs key k) (reached : k ≤ length cs) (is_plan : IsAreaPlan f cs key k stored m plan) where
    abbrev kept_before : KeptOfId
    kept_before = record { stored = stored; held = get m }

    allowed : AreAllowed f cs key k (pass_steps key plan) kept_before
    allowed = pass_allowed f cs laws c k key kept_before plan sound item is_plan.leads

    whole : owner (id_index_name key) ≡ Some key
    whole = owner_of key (codes "index.json") (item_whole (take k (commits_of cs)) key (omega arith))

    pub pass_meets : MeetAllOnHive f cs k m (all_done (map Change (plan_calls key plan)))
    pass_meets = steps_meet laws key whole (pass_steps key plan) kept_before m
        (own_steps f cs laws c k key item reached (pass_steps key plan) kept_before sound allowed)
        (plan_values key plan is_plan.dirty is_plan.clean) (λ q own. refl) is_stored allowed
