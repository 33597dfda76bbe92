-- A pass, and passes one behind the other.
use Rattle.std.proofs.Common.{◌≡◌, ◌<◌, ◌+◌, ℕ, List, [], ◌∷◌, ◌++◌, length, map, take, drop, get_or, Option, Some, None, IfSome, Ok, Err, Result, inl, inr, refl, sym, ◌∙◌, ap, subst, append_assoc, append-nil}
use Rattle.std.proofs.lemmas.Grind.{flat_map-append}
use Rattle.std.proofs.lemmas.List.{map-append, take_more, take-append-drop}
use Rattle.std.specs.FinMap.{get}
use Rattle.blob_store.specs.Area.{Area}
use Rattle.blob_store.specs.Events.{Act, Change, Get}
use Rattle.blob_store.specs.Plans.{Makes}
use Rattle.blob_store.specs.Seen.{Seen}
use Rattle.blob_store.specs.declared.call.Call.{Call as StoreCall}
use Rattle.blob_store.proofs.Following.{makes_then}
use Rattle.blob_store.proofs.Stepping.{after_plan-append}
use Rattle.pkg_meta.specs.Catalog.{Catalog}
use Rattle.pkg_meta.specs.Lawful.{Placed}
use Rattle.pkg_meta.specs.declared.state.StateDoc.{StateDoc}
use Rattle.fold_core.specs.Folds.{Fold}
use Rattle.hive_state.specs.State.{state_name}
use Rattle.id_pass.specs.declared.call.Call.{Call}
use Rattle.job_round.specs.Ids.{key_of_id}
use Rattle.job_round.specs.Items.{items_behind}
use Rattle.job_round.specs.Made.{RunsCalls}
use Rattle.job_round.specs.Plans.{AreWholePasses, IsPartPass, IsPlanned, IsWholePass, Pass, PassesHalt, PassesMade, RunsPass, RunsPasses, TakesUp, held_after, keys_in, pass_plan, passes_plan}
use Rattle.job_round.specs.States.{IsStoredState, at_in}
use Rattle.job_round.specs.Stops.{JobHaltsAt}
use Rattle.job_round.specs.declared.ids.IdRows.{IdRows}
use Rattle.job_round.specs.declared.stop.Stop.{Stop}
use Rattle.job_round.proofs.Halting.{halts_then}
use Rattle.job_round.proofs.Making.{weaker_all, weaker_some}

-- what is held after plans, one behind the other
pub held_joined : (p q : List Act) (h : Option Area) → held_after (p ++ q) h ≡ held_after q (held_after p h)
held_joined p q None = refl
held_joined p q (Some m) = ap Some (after_plan-append p q m)

pub held_none : (h : Option Area) → held_after [] h ≡ h
held_none None = refl
held_none (Some m) = refl

module _ (f : Fold) (c target : ℕ) (key : List ℕ) where
  -- nothing was changed
  pub pass_lost : {A : Type 0} (Q : Catalog → Type 0) (stop : Stop) (r : Result A Stop) (a b : Seen) → r ≡ Err stop → JobHaltsAt (Get (state_name key) ∷ []) stop a b → RunsPass f Q c target key a b r
  pass_lost {A} Q stop r a b is halts = subst (λ (x : Result A Stop). RunsPass f Q c target key a b x) (sym is)
      (record { key = key; stored = None; items = []; calls = []; made = [] }, refl, inl refl, halts)

  module _ (Q R : Catalog → Type 0) (more : (cs : Catalog) → R cs → Q cs) (stored : Option StateDoc) (items : List Placed) (calls : List Call) where
    abbrev pass_of : List StoreCall → Pass
    pass_of made = record { key = key; stored = stored; items = items; calls = calls; made = made }

    -- the calls were made
    pub pass_ran : {A : Type 0} (r : Result A Stop) (a b e : Seen) → IfSome a.held (λ m. IsStoredState key target (get m (state_name key)) stored)
        → ((cs : Catalog) → R cs → items ≡ items_behind c (at_in stored) cs key) → ((made : List StoreCall) → IsPlanned f target (pass_of made))
        → Makes (Get (state_name key) ∷ []) a b → RunsCalls Q calls b e r → RunsPass f R c target key a e r
    pass_ran (Ok x) a b e found these planned got (made, all, runs) = (
      pass_of made,
      refl,
      record { takes = record { stored = found; items = these; planned = planned made }; whole = weaker_all Q R more calls made all },
      makes_then (Get (state_name key) ∷ []) (map Change made) a b e got runs,
    )
    pass_ran (Err stop) a b e found these planned got (made, some, halts) = (
      pass_of made,
      refl,
      inr (record { stored = found; items = these; planned = planned made }, weaker_some Q R more calls made some),
      halts_then (Get (state_name key) ∷ []) (map Change made) stop a b e got halts,
    )

-- fewer catalogs may be meant
module _ (f : Fold) (c target : ℕ) (Q R : Catalog → Type 0) (more : (cs : Catalog) → R cs → Q cs) where
  pub fewer_takes : (h : Option Area) (p : Pass) → TakesUp f Q c target h p → TakesUp f R c target h p
  fewer_takes h p takes = record { stored = takes.stored; items = λ cs meant. takes.items cs (more cs meant); planned = takes.planned }

  pub fewer_whole : (h : Option Area) (p : Pass) → IsWholePass f Q c target h p → IsWholePass f R c target h p
  fewer_whole h p whole = record { takes = fewer_takes h p whole.takes; whole = weaker_all Q R more p.calls p.made whole.whole }

  pub fewer_part : (h : Option Area) (p : Pass) → IsPartPass f Q c target h p → IsPartPass f R c target h p
  fewer_part h p (inl none) = inl none
  fewer_part h p (inr (takes, some)) = inr (fewer_takes h p takes, weaker_some Q R more p.calls p.made some)

  pub fewer_pass : {A : Type 0} (key : List ℕ) (a b : Seen) (r : Result A Stop) → RunsPass f Q c target key a b r → RunsPass f R c target key a b r
  fewer_pass key a b (Ok x) (p, is, whole, made) = (p, is, fewer_whole a.held p whole, made)
  fewer_pass key a b (Err stop) (p, is, part, halts) = (p, is, fewer_part a.held p part, halts)

  pub fewer_passes : (h : Option Area) (passes : List Pass) → AreWholePasses f Q c target h passes → AreWholePasses f R c target h passes
  fewer_passes h [] all = tt
  fewer_passes h (p ∷ passes) all = (fewer_whole h p all.0, fewer_passes (held_after (pass_plan p) h) passes all.1)

module _ (f : Fold) (Q : Catalog → Type 0) (c target : ℕ) where
  pub whole_joined : (h : Option Area) (passes : List Pass) (p : Pass) → AreWholePasses f Q c target h passes → IsWholePass f Q c target (held_after (passes_plan passes) h) p
      → AreWholePasses f Q c target h (passes ++ p ∷ [])
  whole_joined h [] p all here = (subst (λ (x : Option Area). IsWholePass f Q c target x p) (held_none h) here, tt)
  whole_joined h (x ∷ passes) p all here =
      (all.0, whole_joined (held_after (pass_plan x) h) passes p all.1 (subst (λ (y : Option Area). IsWholePass f Q c target y p) (held_joined (pass_plan x) (passes_plan passes) h) here))

  pub passes_none : (a : Seen) → Makes [] a a → PassesMade f Q c target [] a a
  passes_none a none = ([], refl, tt, none)

  pub passes_more : {A : Type 0} (x : A) (keys : List (List ℕ)) (key : List ℕ) (a b e : Seen) → PassesMade f Q c target keys a b → RunsPass f Q c target key b e (Ok x) → PassesMade f Q c target (keys ++ key ∷ []) a e
  passes_more x keys key a b e (passes, same, all, made) (p, is, whole, ran) = (
    passes ++ p ∷ [],
    map-append (λ (q : Pass). q.key) passes (p ∷ []) ∙ ap (λ (l : List (List ℕ)). l ++ p.key ∷ []) same ∙ ap (λ (k : List ℕ). keys ++ k ∷ []) is,
    whole_joined a.held passes p all (subst (λ (h : Option Area). IsWholePass f Q c target h p) made.area whole),
    subst (λ (l : List Act). Makes l a e) (sym (flat_map-append pass_plan passes (p ∷ []) ∙ ap (λ (l : List Act). passes_plan passes ++ l) (append-nil (pass_plan p))))
        (makes_then (passes_plan passes) (pass_plan p) a b e made ran),
  )

  pub passes_stop : (stop : Stop) (keys : List (List ℕ)) (key : List ℕ) (rest : List (List ℕ)) (a b e : Seen) → PassesMade f Q c target keys a b → RunsPass {A = Unit {0}} f Q c target key b e (Err stop)
      → PassesHalt f Q c target (keys ++ key ∷ rest) stop a e
  passes_stop stop keys key rest a b e (passes, same, all, made) (p, is, part, halts) = (
    passes,
    p,
    rest,
    ap (λ (l : List (List ℕ)). l ++ key ∷ rest) (sym same) ∙ ap (λ (k : List ℕ). keys_in passes ++ k ∷ rest) (sym is),
    all,
    subst (λ (h : Option Area). IsPartPass f Q c target h p) made.area part,
    halts_then (passes_plan passes) (pass_plan p) stop a b e made halts,
  )

  -- in a loop
  module _ (ids : List IdRows) (i : ℕ) (id : IdRows) (within : i < length ids) (is : id ≡ get_or ids i id) where
    pub next_keys : map key_of_id (take i ids) ++ id.key ∷ [] ≡ map key_of_id (take (i + 1) ids)
    next_keys = ap (λ (x : IdRows). map key_of_id (take i ids) ++ x.key ∷ []) is ∙ sym (ap (map key_of_id) (take_more ids i id within) ∙ map-append key_of_id (take i ids) (get_or ids i id ∷ []))

    pub all_keys : map key_of_id (take i ids) ++ id.key ∷ map key_of_id (drop (i + 1) ids) ≡ map key_of_id ids
    all_keys = sym (append_assoc (map key_of_id (take i ids)) (id.key ∷ []) (map key_of_id (drop (i + 1) ids))) ∙ ap (λ (l : List (List ℕ)). l ++ map key_of_id (drop (i + 1) ids)) next_keys
        ∙ sym (map-append key_of_id (take (i + 1) ids) (drop (i + 1) ids)) ∙ ap (map key_of_id) (take-append-drop (i + 1) ids)

    pub next_pass : {A : Type 0} (x : A) (a b e : Seen) → PassesMade f Q c target (map key_of_id (take i ids)) a b → RunsPass f Q c target id.key b e (Ok x)
        → PassesMade f Q c target (map key_of_id (take (i + 1) ids)) a e
    next_pass x a b e made ran = subst (λ (l : List (List ℕ)). PassesMade f Q c target l a e) next_keys (passes_more x (map key_of_id (take i ids)) id.key a b e made ran)

    pub pass_stopped : {A : Type 0} (stop : Stop) (r : Result A Stop) (a b e : Seen) → r ≡ Err stop → PassesMade f Q c target (map key_of_id (take i ids)) a b → RunsPass {A = Unit {0}} f Q c target id.key b e (Err stop)
        → RunsPasses f Q c target (map key_of_id ids) a e r
    pass_stopped {A} stop r a b e told made ran = subst (λ (x : Result A Stop). RunsPasses f Q c target (map key_of_id ids) a e x) (sym told)
        (subst (λ (l : List (List ℕ)). PassesHalt f Q c target l stop a e) all_keys
        (passes_stop stop (map key_of_id (take i ids)) id.key (map key_of_id (drop (i + 1) ids)) a b e made ran))
