-- What each call does to what holds of one id.
use Rattle.std.proofs.Common.{◌≡◌, ◌≢◌, ⊎_elim, ◌<◌, ◌≤◌, ℕ, List, length, true, false, Option, None, Some, refl, sym, ◌∙◌, subst, arith}
use Rattle.std.proofs.lemmas.Bool.{cases_lt, false_from_ne_true}
use Rattle.std.specs.Prelude.{Contains, IsSome}
use Rattle.pkg_meta.specs.Catalog.{Catalog}
use Rattle.pkg_meta.specs.declared.state.StateDoc.{StateDoc}
use Rattle.fold_core.specs.Docs.{id_index_name, owner}
use Rattle.fold_core.specs.Events.{IsChanged, IsCleanPut, IsDirtyPut, IsDocDelete, IsDocPut, names_in}
use Rattle.fold_core.specs.Folds.{Clean, Fold, HoldsAt, Look, made_at, touched_by}
use Rattle.fold_core.specs.Items.{commits_of}
use Rattle.fold_core.specs.Sound.{Fresh, HasState, IsAtMost, IsSoundId}
use Rattle.fold_core.proofs.Touches.{touched_rises, touched_stays, touched_within}
use Rattle.hive_laws.specs.FoldLaws.{FoldLaws}
use Rattle.hive_laws.proofs.Listed.{nothing_in}
use Rattle.hive_laws.proofs.Looks.{decide, is_some_by, no_some, some_by, unclean}

module _ (f : Fold) (cs : Catalog) (laws : FoldLaws f cs) (key : List ℕ) where
  within : (k : ℕ) → touched_by cs key k ≤ k
  within k = touched_within (commits_of cs) key k

  old_owned : (c : ℕ) (stored : Option StateDoc) (held : Look (List ℕ)) → HasState f cs c key stored held
      → (name : List ℕ) → Contains (names_in stored) name → owner name ≡ Some key
  old_owned c None held state name is = absurd (nothing_in name is)
  old_owned c (Some s) held state name is = state.0.owned name is

  pub old_held : (c : ℕ) (stored : Option StateDoc) (held : Look (List ℕ)) → HasState f cs c key stored held
      → (name : List ℕ) → owner name ≡ Some key → IsSome (held name) → Contains (names_in stored) name
  old_held c None held state name own is = absurd (no_some (held name) (state.1 name own) is)
  old_held c (Some s) held state name own is = state.0.held_names name own is

  pub put_dirty : (c : ℕ) (stored : Option StateDoc) (held : Look (List ℕ)) (s : StateDoc) → IsSoundId f cs c key stored held
      → c < touched_by cs key s.at → s.at ≤ length cs → IsDirtyPut f cs key stored s → IsSoundId f cs c key (Some s) held
  put_dirty c stored held s sound item reached put = record {
    state = (
      record {
        begun = omega arith;
        reached = reached;
        scratch = put.scratch;
        owned = λ name is. ⊎_elim (old_owned c stored held sound.state name) (laws.owned key s.at name) (put.only name is);
        held_names = λ name own is. put.kept name (old_held c stored held sound.state name own is);
        made = put.made;
      },
      record {
        recent = let a = within c in let b = within s.at in omega arith;
        exact = λ no_. absurd (unclean s.dirty put.dirty no_);
        ahead = λ later. item;
        dirty = λ is. let b = within s.at in omega arith;
      },
    );
    fresh = sound.fresh;
    linked = sound.linked;
  }

  pub put_clean : (c : ℕ) (stored : Option StateDoc) (held : Look (List ℕ)) (s : StateDoc) → IsSoundId f cs c key stored held
      → c < touched_by cs key s.at → s.at ≤ length cs → IsCleanPut f cs key held s → IsSoundId f cs c key (Some s) held
  put_clean c stored held s sound item reached put = record {
    state = (
      record {
        begun = omega arith;
        reached = reached;
        scratch = put.scratch;
        owned = λ name is. laws.owned key s.at name (put.names.only name is);
        held_names = λ name own is. put.names.made name (is_some_by _ _ (sym (put.holds name own)) is);
        made = put.names.made;
      },
      record {
        recent = let a = within c in let b = within s.at in omega arith;
        exact = λ no_. (put.holds, put.names);
        ahead = λ later. item;
        dirty = λ is. absurd (unclean s.dirty is put.clean);
      },
    );
    fresh = sound.fresh;
    linked = sound.linked;
  }

  -- a change under one of the names of a dirty state leaves the state fitting
  changed_state : (c : ℕ) (s : StateDoc) (name : List ℕ) (found : Option (List ℕ)) (held new : Look (List ℕ)) → HasState f cs c key (Some s) held
      → s.dirty ≡ true → Contains s.names name → IsChanged name found held new → HasState f cs c key (Some s) new
  changed_state c s name found held new state dirty named changed = (
    record {
      begun = state.0.begun;
      reached = state.0.reached;
      scratch = state.0.scratch;
      owned = state.0.owned;
      held_names = λ q mine is. ⊎_elim (λ e. subst (λ (x : List ℕ). Contains s.names x) (sym e) named)
          (λ o. state.0.held_names q mine (is_some_by _ _ (sym (changed.other q o)) is)) (decide q name);
      made = state.0.made;
    },
    record {
      recent = state.1.recent;
      exact = λ no_. absurd (unclean s.dirty dirty no_);
      ahead = state.1.ahead;
      dirty = state.1.dirty;
    },
  )

  -- and where it gives what `at` makes, the documents are still such of prefixes
  changed_fresh : (c : ℕ) (s : StateDoc) (name : List ℕ) (found : Option (List ℕ)) (held new : Look (List ℕ)) → c ≤ s.at → s.at ≤ length cs → Fresh f cs c key held
      → IsChanged name found held new → found ≡ made_at f cs key s.at name → Fresh f cs c key new
  changed_fresh c s name found held new past reached fresh changed made q mine = ⊎_elim
      (λ e. (s.at, past, reached, subst (λ (x : List ℕ). new x ≡ made_at f cs key s.at x) (sym e) (changed.here ∙ made)))
      (λ o. let old = fresh q mine in (old.0, old.1, old.2, changed.other q o ∙ old.3)) (decide q name)

  pub put_doc : (c : ℕ) (s : StateDoc) (name bytes : List ℕ) (held new : Look (List ℕ)) → IsSoundId f cs c key (Some s) held
      → IsDocPut f cs key s name bytes held → IsChanged name (Some bytes) held new → IsSoundId f cs c key (Some s) new
  put_doc c s name bytes held new sound put changed =
      let made : IsSome (made_at f cs key s.at name) = some_by (made_at f cs key s.at name) bytes put.made in
      let ahead : c < s.at = sound.state.1.dirty put.dirty in
      let here : new name ≡ made_at f cs key s.at name = changed.here ∙ sym put.made in
      let still = λ (q : List ℕ) (is : IsSome (held q)). ⊎_elim {C = IsSome (new q)}
      (λ (e : q ≡ name). subst (λ (x : List ℕ). IsSome (new x)) (sym e) (is_some_by _ _ here made))
      (λ (o : q ≢ name). is_some_by _ _ (changed.other q o) is) (decide q name) in
      record {
        state = changed_state c s name (Some bytes) held new sound.state put.dirty put.named changed;
        fresh = changed_fresh c s name (Some bytes) held new (omega arith) sound.state.0.reached sound.fresh changed (sym put.made);
        linked = λ mine is. ⊎_elim
            (λ (e : id_index_name key ≡ name). (
              s.at,
              record {
                past = omega arith;
                within = sound.state.0.reached;
                index = subst (λ (x : List ℕ). new x ≡ made_at f cs key s.at x) (sym e) here;
                all = λ q makes. ⊎_elim (λ x. subst (λ (y : List ℕ). IsSome (new y)) (sym x) (is_some_by _ _ here made))
                    (λ o. is_some_by _ _ (changed.other q o ∙ put.index (sym e) q o makes) makes) (decide q name);
              },
            ))
            (λ o. let old = sound.linked mine (is_some_by _ _ (sym (changed.other (id_index_name key) o)) is) in (
              old.0,
              record {
                past = old.1.past;
                within = old.1.within;
                index = changed.other (id_index_name key) o ∙ old.1.index;
                all = λ q makes. still q (old.1.all q makes);
              },
            )) (decide (id_index_name key) name);
      }

  pub delete_doc : (c : ℕ) (s : StateDoc) (name : List ℕ) (held new : Look (List ℕ)) → IsSoundId f cs c key (Some s) held
      → IsDocDelete f cs key s name held → IsChanged name None held new → IsSoundId f cs c key (Some s) new
  delete_doc c s name held new sound put changed =
      let ahead : c < s.at = sound.state.1.dirty put.dirty in
      let apart = λ (q : List ℕ) (makes : IsSome (made_at f cs key s.at q)) (e : q ≡ name).
      no_some (made_at f cs key s.at name) put.unmade (subst (λ (x : List ℕ). IsSome (made_at f cs key s.at x)) e makes) in
      record {
        state = changed_state c s name None held new sound.state put.dirty put.named changed;
        fresh = changed_fresh c s name None held new (omega arith) sound.state.0.reached sound.fresh changed (sym put.unmade);
        linked = λ mine is. ⊎_elim
            (λ g. (
              s.at,
              record {
                past = omega arith;
                within = sound.state.0.reached;
                index = changed.other (id_index_name key) (apart (id_index_name key) g.0) ∙ g.1 (id_index_name key) g.0;
                all = λ q makes. is_some_by _ _ (changed.other q (apart q makes) ∙ g.1 q makes) makes;
              },
            ))
            (λ g. absurd (⊎_elim
            (λ e. no_some (new (id_index_name key)) (subst (λ (x : List ℕ). new x ≡ None) e changed.here) is)
            (λ gone. ⊎_elim
            (λ e. no_some (new (id_index_name key)) (subst (λ (x : List ℕ). new x ≡ None) (sym e) changed.here) is)
            (λ o. no_some (new (id_index_name key)) (changed.other (id_index_name key) o ∙ gone) is) (decide (id_index_name key) name)) g.1)) put.index;
      }

  -- the cursor goes on to where the id is clean
  advance_state : (c k : ℕ) (stored : Option StateDoc) (held : Look (List ℕ)) → HasState f cs c key stored held → Clean f cs key k stored held → HasState f cs k key stored held
  advance_state c k None held state clean = (clean.state, state.1)
  advance_state c k (Some s) held state clean = (
    state.0,
    record {
      recent = clean.state.recent;
      exact = state.1.exact;
      ahead = λ later. let le : s.at ≤ k = clean.state.reached in absurd (omega arith);
      dirty = λ is. absurd (unclean s.dirty is clean.state.clean);
    },
  )

  pub advance : (c k : ℕ) (stored : Option StateDoc) (held : Look (List ℕ)) → IsSoundId f cs c key stored held → k ≤ length cs → Clean f cs key k stored held
      → IsSoundId f cs k key stored held
  advance c k stored held sound reached clean = record {
    state = advance_state c k stored held sound.state clean;
    fresh = λ name own. (k, omega arith, reached, clean.holds name own);
    linked = λ mine is. (
      k,
      record {
        past = omega arith;
        within = reached;
        index = clean.holds (id_index_name key) mine;
        all = λ name makes. is_some_by _ _ (clean.holds name (laws.owned key k name makes)) makes;
      },
    );
  }

  -- a state that isn't dirty is exact up to the next item
  taken_state : (c k : ℕ) (s : StateDoc) (held : Look (List ℕ)) → HasState f cs c key (Some s) held → s.dirty ≡ false → s.at ≤ k → touched_by cs key k ≤ s.at
      → Clean f cs key k (Some s) held
  taken_state c k s held state clean most recent =
      let up : touched_by cs key s.at ≤ touched_by cs key k = touched_rises (commits_of cs) key s.at k most in
      let exact = state.1.exact clean in
      let docs = λ (name : List ℕ). laws.same key s.at k most recent name in
      record {
        holds = λ name own. exact.0 name own ∙ docs name;
        state = record {
          begun = (let b : 0 < touched_by cs key s.at = state.0.begun in omega arith);
          clean = clean;
          reached = most;
          recent = recent;
          names = record {
            made = λ name is. exact.1.made name (is_some_by _ _ (docs name) is);
            only = λ name is. is_some_by _ _ (sym (docs name)) (exact.1.only name is);
          };
        };
      }

  pub taken_up : (c k : ℕ) (s : StateDoc) (held : Look (List ℕ)) → IsSoundId f cs c key (Some s) held → s.dirty ≡ false → s.at ≤ k → touched_by cs key k ≤ s.at
      → Clean f cs key k (Some s) held
  taken_up c k s held sound clean most recent = taken_state c k s held sound.state clean most recent

  -- an id without an item behind the cursor is clean
  idle_state : (c k : ℕ) (stored : Option StateDoc) (held : Look (List ℕ)) → HasState f cs c key stored held → c ≤ k → touched_by cs key k ≤ c → IsAtMost k stored
      → Clean f cs key k stored held
  idle_state c k None held state le few most =
      let no_item : touched_by cs key k ≡ 0 = sym (touched_stays (commits_of cs) key c k le few) ∙ state.0 in
      record { holds = λ name own. state.1 name own ∙ sym (laws.none key k no_item name); state = no_item }
  idle_state c k (Some s) held state le few most =
      let up : touched_by cs key s.at ≤ touched_by cs key k = touched_rises (commits_of cs) key s.at k most in
      let past : s.at ≤ c = ⊎_elim (λ h. let no_ : c < touched_by cs key s.at = state.1.ahead h in absurd (omega arith)) (λ h. h) (cases_lt c s.at) in
      let clean : s.dirty ≡ false = false_from_ne_true s.dirty (λ is. let no_ : c < s.at = state.1.dirty is in omega arith) in
      let same : touched_by cs key c ≡ touched_by cs key k = touched_stays (commits_of cs) key c k le few in
      taken_state c k s held state clean most (let h : touched_by cs key c ≤ s.at = state.1.recent in omega arith)

  pub idle : (c k : ℕ) (stored : Option StateDoc) (held : Look (List ℕ)) → IsSoundId f cs c key stored held → c ≤ k → touched_by cs key k ≤ c → IsAtMost k stored
      → Clean f cs key k stored held
  idle c k stored held sound le few most = idle_state c k stored held sound.state le few most

  -- an id without anything
  pub empty_sound : IsSoundId f cs 0 key None (λ name. None)
  empty_sound = record {
    state = ((let h = within 0 in omega arith), λ name own. refl);
    fresh = λ name own. (0, omega arith, omega arith, sym (laws.none key 0 (let h = within 0 in omega arith) name));
    linked = λ mine is. absurd (no_some {A = List ℕ} None refl is);
  }

  -- what another id's call changes isn't this id's
  module _ (held new : Look (List ℕ)) (same : (name : List ℕ) → owner name ≡ Some key → new name ≡ held name) where
    carry_holds : (k : ℕ) → HoldsAt f cs key k held → HoldsAt f cs key k new
    carry_holds k holds name own = same name own ∙ holds name own

    pub carry_clean : (k : ℕ) (stored : Option StateDoc) → Clean f cs key k stored held → Clean f cs key k stored new
    carry_clean k stored clean = record { holds = carry_holds k clean.holds; state = clean.state }

    carry_state : (c : ℕ) (stored : Option StateDoc) → HasState f cs c key stored held → HasState f cs c key stored new
    carry_state c None state = (state.0, λ name own. same name own ∙ state.1 name own)
    carry_state c (Some s) state = (
      record {
        begun = state.0.begun;
        reached = state.0.reached;
        scratch = state.0.scratch;
        owned = state.0.owned;
        held_names = λ name own is. state.0.held_names name own (is_some_by _ _ (sym (same name own)) is);
        made = state.0.made;
      },
      record {
        recent = state.1.recent;
        exact = λ no_. let e = state.1.exact no_ in (carry_holds s.at e.0, e.1);
        ahead = state.1.ahead;
        dirty = state.1.dirty;
      },
    )

    pub carry : (c : ℕ) (stored : Option StateDoc) → IsSoundId f cs c key stored held → IsSoundId f cs c key stored new
    carry c stored sound = record {
      state = carry_state c stored sound.state;
      fresh = λ name own. let old = sound.fresh name own in (old.0, old.1, old.2, same name own ∙ old.3);
      linked = λ mine is. let old = sound.linked mine (is_some_by _ _ (sym (same (id_index_name key) mine)) is) in (
        old.0,
        record {
          past = old.1.past;
          within = old.1.within;
          index = same (id_index_name key) mine ∙ old.1.index;
          all = λ name makes. is_some_by _ _ (same name (laws.owned key old.0 name makes)) (old.1.all name makes);
        },
      );
    }
