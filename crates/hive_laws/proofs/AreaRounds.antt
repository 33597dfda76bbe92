-- What passes and the cursor's put do to a hive's area.
use Rattle.std.proofs.Common.{◌≡◌, ◌≢◌, inl, inr, ⊎_elim, ◌<◌, ◌≤◌, ℕ, List, [], ◌∷◌, length, take, Option, None, Some, refl, sym, ◌∙◌, ap, subst, arith}
use Rattle.std.proofs.lemmas.Bool.{cases_lt}
use Rattle.std.proofs.lemmas.List.{take_all, take-map}
use Rattle.std.specs.Cmp.Lexicographic.{slice_cmp}
use Rattle.std.specs.FinMap.{empty, get, get-empty}
use Rattle.std.specs.Ordering.{nat_cmp}
use Rattle.std.specs.Prelude.{Contains}
use Rattle.blob_store.specs.Area.{Area, with_blob}
use Rattle.blob_store.specs.Runs.{after_calls}
use Rattle.blob_store.specs.declared.call.Call.{Call}
use Rattle.blob_store.proofs.Areas.{get_put_other, get_put_same}
use Rattle.pkg_meta.specs.Catalog.{Catalog}
use Rattle.pkg_meta.specs.declared.state.StateDoc.{StateDoc}
use Rattle.cursor_doc.specs.Cursor.{cursor_name}
use Rattle.hive_state.specs.State.{state_name}
use Rattle.fold_core.specs.Docs.{owner}
use Rattle.fold_core.specs.Folds.{Clean, Fold, Look, Settled, touched_by}
use Rattle.fold_core.specs.Items.{commits_of}
use Rattle.fold_core.specs.Sound.{IsAtMost, IsSoundId}
use Rattle.fold_core.proofs.Touches.{touched_within}
use Rattle.hive_laws.specs.Areas.{IsSettledArea, IsSoundArea, SettledArea, SoundArea, cursor_at}
use Rattle.hive_laws.specs.FoldLaws.{FoldLaws}
use Rattle.hive_laws.specs.Plans.{PassPlan, pass_steps}
use Rattle.hive_laws.specs.Rounds.{AreDue, AreLed, ChangesIds, ChangesOneId, HaveItems, IsAreaPlan, IsLed, IsSkipped, IsOnTheWay, IsPartlyPassed, IsPassed, IsUpToDate, call_of, plan_calls}
use Rattle.hive_laws.specs.Steps.{AreAllowed, KeptOfId, Step, after_steps, with_found}
use Rattle.hive_laws.proofs.AreaSteps.{AreOwn, others_same, own_front, own_steps, steps_agree, steps_change, steps_sound, values_front}
use Rattle.hive_laws.proofs.AreaTells.{stored_is}
use Rattle.hive_laws.proofs.Listed.{first, later, nothing_in, split}
use Rattle.hive_laws.proofs.Looks.{decide, is_some_by, no_some, with_found_here, with_found_other}
use Rattle.hive_laws.proofs.OneId.{advance, carry, carry_clean, empty_sound, idle, taken_up}
use Rattle.hive_laws.proofs.OnePass.{pass_allowed, pass_cleans, pass_stored, steps_keep}
use Rattle.hive_laws.proofs.PassValues.{plan_values}
use Rattle.hive_laws.proofs.StateNames.{cursor_unowned, no_state_of_cursor, not_owned}

-- one pass
module _ (f : Fold) (cs : Catalog) (laws : FoldLaws f cs) (c k : ℕ) (key : List ℕ) (states : Look StateDoc) (m : Area) (plan : PassPlan)
    (area : IsSoundArea f cs c states m) (item : c < touched_by cs key k) (reached : k ≤ length cs) (is_plan : IsAreaPlan f cs key k (states key) m plan) where
  abbrev kept_before : KeptOfId
  kept_before = record { stored = states key; held = get m }

  abbrev steps : List Step
  steps = pass_steps key plan

  abbrev passed : Area
  passed = after_calls (plan_calls key plan) m

  allowed : AreAllowed f cs key k steps kept_before
  allowed = pass_allowed f cs laws c k key kept_before plan (area.sound.ids key) item is_plan.leads

  own : AreOwn key steps
  own = own_steps f cs laws c k key item reached steps kept_before (area.sound.ids key) allowed

  sound_after : (n : ℕ) → IsSoundId f cs c key (after_steps (take n steps) kept_before).stored (after_steps (take n steps) kept_before).held
  sound_after n = steps_keep f cs laws c k key item reached steps kept_before (area.sound.ids key) allowed n

  pub prefix_sound : (n : ℕ)
      → IsSoundArea f cs c (with_found key (after_steps (take n steps) kept_before).stored states) (after_calls (take n (plan_calls key plan)) m)
  prefix_sound n =
      subst (λ (calls : List Call). IsSoundArea f cs c (with_found key (after_steps (take n steps) kept_before).stored states) (after_calls calls m)) (sym (take-map (call_of key) n steps))
      (steps_sound f cs laws c key states m area (take n steps) (own_front key n steps own) (values_front key n steps (plan_values key plan is_plan.dirty is_plan.clean)) (sound_after n))

  pub prefix_changes : (n : ℕ) → ChangesOneId key m (after_calls (take n (plan_calls key plan)) m)
  prefix_changes n = subst (λ (calls : List Call). ChangesOneId key m (after_calls calls m)) (sym (take-map (call_of key) n steps))
      (steps_change key (take n steps) m (own_front key n steps own))

  pub pass_changes : ChangesOneId key m passed
  pass_changes = steps_change key steps m own

  all_sound : IsSoundId f cs c key (after_steps steps kept_before).stored (after_steps steps kept_before).held
  all_sound = subst (λ (l : List Step). IsSoundId f cs c key (after_steps l kept_before).stored (after_steps l kept_before).held)
      (take_all (length steps) steps (omega arith)) (sound_after (length steps))

  clean_stored : (after_steps steps kept_before).stored ≡ Some plan.clean
  clean_stored = pass_stored f cs laws c k key kept_before plan (area.sound.ids key) item is_plan.leads

  pub pass_sound : IsSoundArea f cs c (with_found key (Some plan.clean) states) passed
  pass_sound = subst (λ (o : Option StateDoc). IsSoundArea f cs c (with_found key o states) passed) clean_stored
      (steps_sound f cs laws c key states m area steps own (plan_values key plan is_plan.dirty is_plan.clean) all_sound)

  pub pass_clean : Clean f cs key k (Some plan.clean) (get passed)
  pass_clean = carry_clean f cs laws key (after_steps steps kept_before).held (get passed) (λ q mine. steps_agree key steps (states key) m q key mine) k (Some plan.clean)
      (subst (λ (o : Option StateDoc). Clean f cs key k o (after_steps steps kept_before).held) clean_stored
      (pass_cleans f cs laws c k key kept_before plan (area.sound.ids key) item is_plan.leads))

-- one id that is led
record Led (f : Fold) (cs : Catalog) (c k : ℕ) (key : List ℕ) (states : Look StateDoc) (m mid : Area) : Type 0 where
  now : Look StateDoc
  area : IsSoundArea f cs c now mid
  clean : Clean f cs key k (now key) (get mid)
  others : (j : List ℕ) → j ≢ key → now j ≡ states j
  changes : ChangesOneId key m mid

-- several
pub record AllLed (f : Fold) (cs : Catalog) (c k : ℕ) (keys : List (List ℕ)) (states : Look StateDoc) (m new : Area) : Type 0 where
  pub now : Look StateDoc
  pub area : IsSoundArea f cs c now new
  pub clean : (j : List ℕ) → Contains keys j → Clean f cs j k (now j) (get new)
  pub still : (j : List ℕ) → Clean f cs j k (states j) (get m) → Clean f cs j k (now j) (get new)

module _ (f : Fold) (cs : Catalog) (laws : FoldLaws f cs) (c k : ℕ) (reached : k ≤ length cs) where
  up_to_date : (key : List ℕ) (o : Option StateDoc) (held : Look (List ℕ)) → IsSoundId f cs c key o held → IsUpToDate cs key k o → Clean f cs key k o held
  up_to_date key None held sound up = absurd up
  up_to_date key (Some s) held sound up = taken_up f cs laws key c k s held sound up.0 up.1 up.2

  passed_led : (key : List ℕ) (states : Look StateDoc) (m mid : Area) → IsSoundArea f cs c states m → c < touched_by cs key k
      → IsPassed f cs key k m mid → Led f cs c k key states m mid
  passed_led key states m mid area item passed =
      let is : states key ≡ passed.stored = stored_is cs c states m area.area key passed.stored passed.is_stored.value passed.is_stored.held in
      let plan : IsAreaPlan f cs key k (states key) m passed.plan = subst (λ (o : Option StateDoc). IsAreaPlan f cs key k o m passed.plan) (sym is) passed.is_plan in
      subst (λ (a : Area). Led f cs c k key states m a) (sym passed.calls) (record {
        now = with_found key (Some passed.plan.clean) states;
        area = pass_sound f cs laws c k key states m passed.plan area item reached plan;
        clean = subst (λ (o : Option StateDoc). Clean f cs key k o (get (after_calls (plan_calls key passed.plan) m))) (sym (with_found_here key (Some passed.plan.clean) states))
            (pass_clean f cs laws c k key states m passed.plan area item reached plan);
        others = λ j other. with_found_other key (Some passed.plan.clean) states j other;
        changes = pass_changes f cs laws c k key states m passed.plan area item reached plan;
      })

  skipped_led : (key : List ℕ) (states : Look StateDoc) (m mid : Area) → IsSoundArea f cs c states m → IsSkipped cs key k m mid → Led f cs c k key states m mid
  skipped_led key states m mid area skipped =
      let is : states key ≡ skipped.stored = stored_is cs c states m area.area key skipped.stored skipped.is_stored.value skipped.is_stored.held in
      subst (λ (a : Area). Led f cs c k key states m a) (sym skipped.same) (record {
        now = states;
        area = area;
        clean = up_to_date key (states key) (get m) (area.sound.ids key) (subst (λ (o : Option StateDoc). IsUpToDate cs key k o) (sym is) skipped.up);
        others = λ j other. refl;
        changes = λ q other unowned. refl;
      })

  led_one : (key : List ℕ) (states : Look StateDoc) (m mid : Area) → IsSoundArea f cs c states m → c < touched_by cs key k → IsLed f cs key k m mid → Led f cs c k key states m mid
  led_one key states m mid area item led = ⊎_elim (λ passed. passed_led key states m mid area item passed) (λ skipped. skipped_led key states m mid area skipped) led

  still_one : (key : List ℕ) (states : Look StateDoc) (m mid : Area) (led : Led f cs c k key states m mid) (j : List ℕ)
      → Clean f cs j k (states j) (get m) → Clean f cs j k (led.now j) (get mid)
  still_one key states m mid led j clean = ⊎_elim
      (λ e. subst (λ (x : List ℕ). Clean f cs x k (led.now x) (get mid)) (sym e) led.clean)
      (λ o. subst (λ (s : Option StateDoc). Clean f cs j k s (get mid)) (sym (led.others j o))
      (carry_clean f cs laws j (get m) (get mid) (others_same key j m mid led.changes o) k (states j) clean)) (decide j key)

  pub led_all : (keys : List (List ℕ)) (states : Look StateDoc) (m new : Area) → IsSoundArea f cs c states m
      → ((key : List ℕ) → Contains keys key → c < touched_by cs key k) → AreLed f cs k keys m new → AllLed f cs c k keys states m new
  led_all [] states m new area items led = subst (λ (a : Area). AllLed f cs c k [] states m a) (sym led) (record {
    now = states;
    area = area;
    clean = λ j is. absurd (nothing_in j is);
    still = λ j clean. clean;
  })
  led_all (key ∷ keys) states m new area items led =
      let one = led_one key states m led.0 area (items key (first key keys)) led.1 in
      let rest = led_all keys one.now led.0 new one.area (λ j is. items j (later key j keys is)) led.2 in
      record {
        now = rest.now;
        area = rest.area;
        clean = λ j is. ⊎_elim (λ e. rest.still j (subst (λ (x : List ℕ). Clean f cs x k (one.now x) (get led.0)) (sym e) one.clean)) (λ there. rest.clean j there) (split key j keys is);
        still = λ j clean. rest.still j (still_one key states m led.0 one j clean);
      }

  partly_sound : (key : List ℕ) (states : Look StateDoc) (m left : Area) → IsSoundArea f cs c states m → c < touched_by cs key k → IsPartlyPassed f cs key k m left → SoundArea f cs c left
  partly_sound key states m left area item part =
      let is : states key ≡ part.stored = stored_is cs c states m area.area key part.stored part.is_stored.value part.is_stored.held in
      subst (λ (a : Area). SoundArea f cs c a) (sym part.calls.2) (
        _,
        prefix_sound f cs laws c k key states m part.plan area item reached
            (subst (λ (o : Option StateDoc). IsAreaPlan f cs key k o m part.plan) (sym is) part.is_plan) part.calls.0,
      )

  pub way_sound : (keys : List (List ℕ)) (states : Look StateDoc) (m left : Area) → IsSoundArea f cs c states m → HaveItems cs c k keys → IsOnTheWay f cs k keys m left → SoundArea f cs c left
  way_sound [] states m left area items same = subst (λ (a : Area). SoundArea f cs c a) (sym same) (states, area)
  way_sound (key ∷ keys) states m left area items (inl same) = subst (λ (a : Area). SoundArea f cs c a) (sym same) (states, area)
  way_sound (key ∷ keys) states m left area items (inr (inl part)) = partly_sound key states m left area (items key (first key keys)) part
  way_sound (key ∷ keys) states m left area items (inr (inr way)) =
      let one = led_one key states m way.0 area (items key (first key keys)) way.1 in
      way_sound keys one.now way.0 left one.area (λ j is. items j (later key j keys is)) way.2

  partly_changes : (key : List ℕ) (states : Look StateDoc) (m left : Area) → IsSoundArea f cs c states m → c < touched_by cs key k → IsPartlyPassed f cs key k m left → ChangesOneId key m left
  partly_changes key states m left area item part =
      let is : states key ≡ part.stored = stored_is cs c states m area.area key part.stored part.is_stored.value part.is_stored.held in
      subst (λ (a : Area). ChangesOneId key m a) (sym part.calls.2) (prefix_changes f cs laws c k key states m part.plan area item reached
      (subst (λ (o : Option StateDoc). IsAreaPlan f cs key k o m part.plan) (sym is) part.is_plan) part.calls.0)

  pub way_changes : (keys : List (List ℕ)) (states : Look StateDoc) (m left : Area) → IsSoundArea f cs c states m → HaveItems cs c k keys → IsOnTheWay f cs k keys m left → ChangesIds keys m left
  way_changes [] states m left area items same name out = ap (λ (a : Area). get a name) same
  way_changes (key ∷ keys) states m left area items (inl same) name out = ap (λ (a : Area). get a name) same
  way_changes (key ∷ keys) states m left area items (inr (inl part)) name out =
      let own = out key (first key keys) in
      partly_changes key states m left area (items key (first key keys)) part name own.0 own.1
  way_changes (key ∷ keys) states m left area items (inr (inr way)) name out =
      let own = out key (first key keys) in
      let one = led_one key states m way.0 area (items key (first key keys)) way.1 in
      way_changes keys one.now way.0 left one.area (λ j is. items j (later key j keys is)) way.2 name (λ j is. out j (later key j keys is)) ∙ one.changes name own.0 own.1

  -- ids that were all led are on the way
  pub led_on_the_way : (keys : List (List ℕ)) (m new : Area) → AreLed f cs k keys m new → IsOnTheWay f cs k keys m new
  led_on_the_way [] m new led = led
  led_on_the_way (key ∷ keys) m new led = inr (inr (led.0, led.1, led_on_the_way keys led.0 new led.2))

-- at the catalog's end
module _ (f : Fold) (cs : Catalog) (laws : FoldLaws f cs) (c : ℕ) (states : Look StateDoc) (m : Area) (area : IsSoundArea f cs c states m) where
  at_most : (key : List ℕ) (o : Option StateDoc) → IsSoundId f cs c key o (get m) → IsAtMost (length cs) o
  at_most key None sound = tt
  at_most key (Some s) sound = sound.state.0.reached

  pub idle_there : (key : List ℕ) → touched_by cs key (length cs) ≤ c → Clean f cs key (length cs) (states key) (get m)
  idle_there key few = idle f cs laws key c (length cs) (states key) (get m) (area.sound.ids key) area.sound.cursor few (at_most key (states key) (area.sound.ids key))

  -- the cursor's put
  module _ (bytes : List ℕ) (is : cursor_at cs (length cs) ≡ Some bytes) (settled : Settled f cs (length cs) states (get m)) where
    abbrev put : Area
    put = with_blob cursor_name bytes m

    same_docs : (key q : List ℕ) → owner q ≡ Some key → get put q ≡ get m q
    same_docs key q own = get_put_other m cursor_name bytes q (not_owned cursor_name q key cursor_unowned own)

    pub cursor_settles : IsSettledArea f cs (length cs) states put
    cursor_settles = record {
      area = record {
        cursor = get_put_same m cursor_name bytes ∙ sym is;
        held = λ key. get_put_other m cursor_name bytes (state_name key) (λ e. no_state_of_cursor key (sym e)) ∙ area.area.held key;
        values = area.area.values;
        known = λ q some. ⊎_elim (λ e. inl e) (λ o. area.area.known q (is_some_by _ _ (sym (get_put_other m cursor_name bytes q o)) some)) (decide q cursor_name);
      };
      sound = record {
        cursor = omega arith;
        ids = λ key. carry f cs laws key (get m) (get put) (same_docs key) (length cs) (states key)
            (advance f cs laws key c (length cs) (states key) (get m) (area.sound.ids key) (omega arith) (settled key));
      };
      settled = λ key. carry_clean f cs laws key (get m) (get put) (same_docs key) (length cs) (states key) (settled key);
    }

module _ (f : Fold) (cs : Catalog) (laws : FoldLaws f cs) where
  pub round_sound : (c : ℕ) (keys : List (List ℕ)) (m new : Area) → SoundArea f cs c m → HaveItems cs c (length cs) keys → AreLed f cs (length cs) keys m new → SoundArea f cs c new
  round_sound c keys m new sound items led =
      let all = led_all f cs laws c (length cs) (omega arith) keys sound.0 m new sound.1 items led in (all.now, all.area)

  pub on_the_way : (c : ℕ) (keys : List (List ℕ)) (m left : Area) → SoundArea f cs c m → HaveItems cs c (length cs) keys → IsOnTheWay f cs (length cs) keys m left → SoundArea f cs c left
  on_the_way c keys m left sound items here = way_sound f cs laws c (length cs) (omega arith) keys sound.0 m left sound.1 items here

  pub round_changes : (c : ℕ) (keys : List (List ℕ)) (m left : Area) → SoundArea f cs c m → HaveItems cs c (length cs) keys → IsOnTheWay f cs (length cs) keys m left → ChangesIds keys m left
  round_changes c keys m left sound items here = way_changes f cs laws c (length cs) (omega arith) keys sound.0 m left sound.1 items here

  pub round_settles : (c : ℕ) (keys : List (List ℕ)) (m new : Area) → SoundArea f cs c m → AreDue cs c (length cs) keys → AreLed f cs (length cs) keys m new
      → (bytes : List ℕ) → cursor_at cs (length cs) ≡ Some bytes → SettledArea f cs (length cs) (with_blob cursor_name bytes new)
  round_settles c keys m new sound due led bytes is =
      let all = led_all f cs laws c (length cs) (omega arith) keys sound.0 m new sound.1 due.some led in (
        all.now,
        cursor_settles f cs laws c all.now new all.area bytes is (λ key. ⊎_elim (λ item. all.clean key (due.all key item))
            (λ few. idle_there f cs laws c all.now new all.area key few) (cases_lt c (touched_by cs key (length cs)))),
      )

  pub ended : (m : Area) → SoundArea f cs (length cs) m → SettledArea f cs (length cs) m
  ended m sound = (
    sound.0,
    record {
      area = sound.1.area;
      sound = sound.1.sound;
      settled = λ key. idle_there f cs laws (length cs) sound.0 m sound.1 key (touched_within (commits_of cs) key (length cs));
    },
  )

  nothing_held : (q : List ℕ) → get (empty {X = List ℕ} {R = slice_cmp nat_cmp}) q ≡ None
  nothing_held q = get-empty (slice_cmp nat_cmp) q

  pub empty_area : SoundArea f cs 0 empty
  empty_area = (
    (λ key. None),
    record {
      area = record {
        cursor = nothing_held cursor_name;
        held = λ key. nothing_held (state_name key);
        values = λ key. tt;
        known = λ q some. absurd (no_some (get empty q) (nothing_held q) some);
      };
      sound = record {
        cursor = omega arith;
        ids = λ key. carry f cs laws key (λ q. None) (get empty) (λ q own. nothing_held q) 0 None (empty_sound f cs laws key);
      };
    },
  )
