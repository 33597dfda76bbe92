-- A further commit leaves what holds of a hive.
use Rattle.std.proofs.Common.{◌≡◌, ◌<◌, ◌≤◌, ◌+◌, ℕ, List, [], ◌∷◌, ◌++◌, length, take, Option, None, Some, sym, ◌∙◌, ap, arith}
use Rattle.std.proofs.lemmas.List.{length-append, take-append-le, take-map}
use Rattle.pkg_meta.specs.Catalog.{Catalog}
use Rattle.pkg_meta.specs.declared.commit.Commit.{Commit}
use Rattle.pkg_meta.specs.declared.commit.Stored.{Stored}
use Rattle.pkg_meta.specs.declared.state.StateDoc.{StateDoc}
use Rattle.fold_core.specs.Docs.{id_doc, id_index_name}
use Rattle.fold_core.specs.Entries.{entries_of}
use Rattle.fold_core.specs.Folds.{Clean, Fold, HoldsAt, IsCleanState, Look, NamesAt, made_at, touched_by}
use Rattle.fold_core.specs.Items.{commits_of, items_of, touched, touched_stamp}
use Rattle.fold_core.specs.Sound.{HasState, IsScratch, IsSoundHive, IsSoundId}
use Rattle.hive_laws.proofs.Looks.{is_some_by}

module _ (f : Fold) (cs : Catalog) (x : Stored) where
  abbrev more : Catalog
  more = cs ++ x ∷ []

  pub longer : length cs ≤ length more
  longer = let h : length more ≡ length cs + 1 = length-append cs (x ∷ []) in omega arith

  front_more : (k : ℕ) → k ≤ length cs → take k more ≡ take k cs
  front_more k le = take-append-le k cs (x ∷ []) le

  pub commits_more : (k : ℕ) → k ≤ length cs → take k (commits_of more) ≡ take k (commits_of cs)
  commits_more k le = take-map (λ (c : Stored). c.commit) k more ∙ ap commits_of (front_more k le) ∙ sym (take-map (λ (c : Stored). c.commit) k cs)

  module _ (key : List ℕ) where
    doc_more : (k : ℕ) → k ≤ length cs → (name : List ℕ) → made_at f more key k name ≡ made_at f cs key k name
    doc_more k le name = ap (λ (l : Catalog). id_doc f.keeps f.makes f.base l key name) (front_more k le)

    touched_more : (k : ℕ) → k ≤ length cs → touched_by more key k ≡ touched_by cs key k
    touched_more k le = ap (λ (l : List Commit). touched l key) (commits_more k le)

    holds_more : (k : ℕ) (held : Look (List ℕ)) → k ≤ length cs → HoldsAt f cs key k held → HoldsAt f more key k held
    holds_more k held le holds name own = holds name own ∙ sym (doc_more k le name)

    names_more : (k : ℕ) (names : List (List ℕ)) → k ≤ length cs → NamesAt f cs key k names → NamesAt f more key k names
    names_more k names le at = record {
      made = λ name is. at.made name (is_some_by _ _ (sym (doc_more k le name)) is);
      only = λ name is. is_some_by _ _ (doc_more k le name) (at.only name is);
    }

    clean_state_more : (k : ℕ) (stored : Option StateDoc) → k ≤ length cs → IsCleanState f cs key k stored → IsCleanState f more key k stored
    clean_state_more k None le state = touched_more k le ∙ state
    clean_state_more k (Some s) le state =
        let t : touched_by more key k ≡ touched_by cs key k = touched_more k le in
        record {
          begun = (let b : 0 < touched_by cs key k = state.begun in omega arith);
          clean = state.clean;
          reached = state.reached;
          recent = (let b : touched_by cs key k ≤ s.at = state.recent in omega arith);
          names = names_more k s.names le state.names;
        }

    pub clean_more : (k : ℕ) (stored : Option StateDoc) (held : Look (List ℕ)) → k ≤ length cs → Clean f cs key k stored held → Clean f more key k stored held
    clean_more k stored held le clean = record { holds = holds_more k held le clean.holds; state = clean_state_more k stored le clean.state }

    scratch_more : (s : StateDoc) → s.at ≤ length cs → IsScratch f cs key s → IsScratch f more key s
    scratch_more s le scratch = record {
      touched = scratch.touched ∙ sym (touched_more s.at le);
      stamp = scratch.stamp ∙ ap (λ (l : Catalog). touched_stamp (commits_of l) key) (sym (front_more s.at le));
      entries = scratch.entries ∙ ap (λ (l : Catalog). entries_of f.keeps (items_of (commits_of l) key)) (sym (front_more s.at le));
    }

    state_more : (c : ℕ) (stored : Option StateDoc) (held : Look (List ℕ)) → c ≤ length cs → HasState f cs c key stored held → HasState f more c key stored held
    state_more c None held le state = (touched_more c le ∙ state.0, state.1)
    state_more c (Some s) held le state =
        let reached : s.at ≤ length cs = state.0.reached in
        let t : touched_by more key s.at ≡ touched_by cs key s.at = touched_more s.at reached in
        let u : touched_by more key c ≡ touched_by cs key c = touched_more c le in (
          record {
            begun = (let b : 0 < touched_by cs key s.at = state.0.begun in omega arith);
            reached = (let b = longer in omega arith);
            scratch = scratch_more s reached state.0.scratch;
            owned = state.0.owned;
            held_names = state.0.held_names;
            made = λ name is. state.0.made name (is_some_by _ _ (sym (doc_more s.at reached name)) is);
          },
          record {
            recent = (let b : touched_by cs key c ≤ s.at = state.1.recent in omega arith);
            exact = λ no_. let e = state.1.exact no_ in (holds_more s.at held reached e.0, names_more s.at s.names reached e.1);
            ahead = λ later. (let b : c < touched_by cs key s.at = state.1.ahead later in omega arith);
            dirty = state.1.dirty;
          },
        )

    more_id : (c : ℕ) (stored : Option StateDoc) (held : Look (List ℕ)) → c ≤ length cs → IsSoundId f cs c key stored held → IsSoundId f more c key stored held
    more_id c stored held le sound = record {
      state = state_more c stored held le sound.state;
      fresh = λ name own. let old = sound.fresh name own in
          (old.0, old.1, (let a : old.0 ≤ length cs = old.2 in let b = longer in omega arith), old.3 ∙ sym (doc_more old.0 old.2 name));
      linked = λ mine is. let old = sound.linked mine is in (
        old.0,
        record {
          past = old.1.past;
          within = (let a : old.0 ≤ length cs = old.1.within in let b = longer in omega arith);
          index = old.1.index ∙ sym (doc_more old.0 old.1.within (id_index_name key));
          all = λ name makes. old.1.all name (is_some_by _ _ (sym (doc_more old.0 old.1.within name)) makes);
        },
      );
    }

  pub more_sound : (c : ℕ) (states : Look StateDoc) (held : Look (List ℕ)) → IsSoundHive f cs c states held → IsSoundHive f more c states held
  more_sound c states held sound = record {
    cursor = (let a : c ≤ length cs = sound.cursor in let b = longer in omega arith);
    ids = λ key. more_id key c (states key) held sound.cursor (sound.ids key);
  }
