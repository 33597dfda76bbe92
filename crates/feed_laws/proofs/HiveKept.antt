-- What may happen to a hive keeps it sound.
use Rattle.std.proofs.Common.{◌≡◌, ◌≢◌, ◌⊎◌, inl, inr, ⊎_elim, ◌<◌, ◌≤◌, ◌+◌, ℕ, List, [], ◌∷◌, ◌++◌, length, Bool, cond, Option, None, Some, option_map, refl, sym, ◌∙◌, ap, subst, arith}
use Rattle.std.proofs.lemmas.Bool.{cases_lt, false_from_ne_true}
use Rattle.std.proofs.lemmas.Slice.Eq.{bytes_eq-Decides}
use Rattle.std.specs.Option.{option_map_or}
use Rattle.std.specs.Prelude.{IsSome}
use Rattle.std.specs.Str.{bytes_eq}
use Rattle.blob_store.specs.Events.{Fate, Done, FailedOld, FailedNew, NoMemory}
use Rattle.pkg_meta.specs.Catalog.{Catalog}
use Rattle.pkg_meta.specs.declared.commit.Commit.{Commit}
use Rattle.pkg_meta.specs.declared.commit.Stored.{Stored}
use Rattle.pkg_meta.specs.declared.state.StateDoc.{StateDoc}
use Rattle.fold_core.specs.Docs.{owner}
use Rattle.fold_core.specs.Events.{IsChanged, IsCleanPut, IsDirtyPut, IsDocDelete, IsDocPut}
use Rattle.fold_core.specs.Folds.{Clean, Fold, Look, touched_by}
use Rattle.fold_core.specs.Items.{touched}
use Rattle.fold_core.specs.Sound.{IsSoundHive, IsSoundId}
use Rattle.hive_laws.specs.FoldLaws.{FoldLaws}
use Rattle.hive_laws.proofs.Looks.{decide, is_some_by, no_some, some_by}
use Rattle.hive_laws.proofs.More.{clean_more, commits_more, longer, more_sound}
use Rattle.hive_laws.proofs.OneId.{advance, carry, carry_clean, delete_doc, put_clean, put_dirty, put_doc}
use Rattle.feed_laws.specs.Happenings.{OnHive, Begin, Claim, Finish, Rest, Wake, PutState, PutDoc, DeleteDoc, PutCursor}
use Rattle.feed_laws.specs.Rounds.{HasRound, IsRoundAt, IsRoundId, changed_keys, places, times, without}
use Rattle.feed_laws.specs.Claims.{IsSettledNow}
use Rattle.feed_laws.specs.Soundness.{IsSoundNow}
use Rattle.feed_laws.specs.Steps.{IsAtRest, IsClaimed, MayBegin, MayOnHive, hive_after, one_claimed, with_look}
use Rattle.feed_laws.specs.Worlds.{HiveNow, Round}
use Rattle.feed_laws.proofs.Changed.{are_changed}
use Rattle.feed_laws.proofs.Lists.{times-append, times_one, times_one_other, times_without, times_without_other}
use Rattle.feed_laws.proofs.Moves.{all_clean, claimed_item, claimed_open, moved}

-- parts of what happens
abbrev one_finished : List ℕ → Round → Round
one_finished key r = record r { claimed = without key r.claimed; finished = r.finished ++ key ∷ [] }

abbrev one_rested : List ℕ → Round → Round
one_rested key r = record r { claimed = without key r.claimed; resting = r.resting ++ key ∷ [] }

abbrev all_woken : Round → Round
all_woken r = record r { waiting = r.waiting ++ r.resting; resting = [] }

abbrev with_round : Option Round → HiveNow → HiveNow
with_round round h = record h { round = round }

abbrev with_states : Look StateDoc → HiveNow → HiveNow
with_states states h = record h { states = states }

abbrev with_held : Look (List ℕ) → HiveNow → HiveNow
with_held held h = record h { held = held }

abbrev target_or : ℕ → Option Round → ℕ
target_or c round = option_map_or (λ (r : Round). r.target) round c

abbrev with_cursor : Fate → HiveNow → HiveNow
with_cursor fate h = hive_after [] (PutCursor fate) h

-- a round of which every id is done
pub record IsAllDone (h : HiveNow) (r : Round) : Type 0 where
  pub stands : h.round ≡ Some r
  pub waiting : r.waiting ≡ []
  pub claimed : r.claimed ≡ []
  pub resting : r.resting ≡ []

pub all_done : (h : HiveNow) (r : Round) → IsAtRest h r → r.resting ≡ [] → IsAllDone h r
all_done h r rest none = record { stands = rest.stands; waiting = rest.waiting; claimed = rest.claimed; resting = none }

-- the stored state of an id, with its `at` at the target
record IsStoredAt (h : HiveNow) (key : List ℕ) (r : Round) (s : StateDoc) : Type 0 where
  stored : h.states key ≡ Some s
  at : s.at ≡ r.target

-- look-ups
pub with_look_here : {X : Type 0} (look : Look X) (name : List ℕ) (found : Option X) → with_look look name found name ≡ found
with_look_here look name found = ap (λ (b : Bool). cond b found (look name)) ((bytes_eq-Decides name name).1 refl)

with_look_other : {X : Type 0} (look : Look X) (name q : List ℕ) (found : Option X) → q ≢ name → with_look look name found q ≡ look q
with_look_other look name q found other = ap (λ (b : Bool). cond b found (look q)) (false_from_ne_true (bytes_eq q name) (λ e. other ((bytes_eq-Decides q name).0 e)))

changed : (held : Look (List ℕ)) (name : List ℕ) (found : Option (List ℕ)) → IsChanged name found held (with_look held name found)
changed held name found = record { here = with_look_here held name found; other = λ q other. with_look_other held name q found other }

same_owner : (o : Option (List ℕ)) (j i : List ℕ) → o ≡ Some j → o ≡ Some i → j ≡ i
same_owner o j i a b = let e : Some j ≡ Some i = sym a ∙ b in cc

module _ (f : Fold) (cs : Catalog) (laws : FoldLaws f cs) where
  pub round_of : (h : HiveNow) (r : Round) → IsSoundNow f cs h → h.round ≡ Some r → IsRoundAt f cs h.cursor h.states h.held r
  round_of h r sound stands = subst (λ (o : Option Round). HasRound f cs h.cursor h.states h.held o) stands sound.round

  -- an event on a claimed id
  touch : (h : HiveNow) (key : List ℕ) (r : Round) (s : StateDoc) (states : Look StateDoc) (held : Look (List ℕ)) → IsSoundNow f cs h → IsClaimed h key r
      → states key ≡ Some s → s.at ≤ r.target → ((j : List ℕ) → j ≢ key → states j ≡ h.states j)
      → ((j : List ℕ) → j ≢ key → (name : List ℕ) → owner name ≡ Some j → held name ≡ h.held name)
      → ((name : List ℕ) → IsSome (held name) → IsSome (owner name))
      → IsSoundId f cs h.cursor key (Some s) held
      → IsSoundNow f cs (record { held = held; states = states; cursor = h.cursor; round = h.round })
  touch h key r s states held sound claimed at most other_states other_held known facts =
      let round = round_of h r sound claimed.stands in
      record {
        hive = record {
          cursor = sound.hive.cursor;
          ids = λ j. ⊎_elim
              (λ e. subst (λ (x : List ℕ). IsSoundId f cs h.cursor x (states x) held) (sym e) (subst (λ (o : Option StateDoc). IsSoundId f cs h.cursor key o held) (sym at) facts))
              (λ o. subst (λ (t : Option StateDoc). IsSoundId f cs h.cursor j t held) (sym (other_states j o)) (carry f cs laws j h.held held (other_held j o) h.cursor (h.states j) (sound.hive.ids j)))
              (decide j key);
        };
        known = known;
        round = subst (λ (o : Option Round). HasRound f cs h.cursor states held o) (sym claimed.stands) (record {
          reached = round.reached;
          ids = λ j. ⊎_elim
              (λ e. subst (λ (x : List ℕ). IsRoundId f cs h.cursor x r (states x) held) (sym e) (subst (λ (o : Option StateDoc). IsRoundId f cs h.cursor key r o held) (sym at) (record {
                at_most = most;
                once = (round.ids key).once;
                which = (round.ids key).which;
                finished = λ is. (let no_ : times key r.finished ≡ 0 = claimed_open f cs h.cursor key (h.states key) h.held r (round.ids key) claimed.claimed in absurd (omega arith));
              })))
              (λ o. subst (λ (t : Option StateDoc). IsRoundId f cs h.cursor j r t held) (sym (other_states j o)) (record {
                at_most = (round.ids j).at_most;
                once = (round.ids j).once;
                which = (round.ids j).which;
                finished = λ is. carry_clean f cs laws j h.held held (other_held j o) r.target (h.states j) ((round.ids j).finished is);
              }))
              (decide j key);
        });
      }

  -- a state's put, dirty or clean
  state_kept : (h : HiveNow) (key : List ℕ) (r : Round) (s : StateDoc) → IsSoundNow f cs h → IsClaimed h key r → s.at ≡ r.target
      → IsDirtyPut f cs key (h.states key) s ⊎ IsCleanPut f cs key h.held s → IsSoundNow f cs (with_states (with_look h.states key (Some s)) h)
  state_kept h key r s sound claimed at put =
      let round = round_of h r sound claimed.stands in
      let item : h.cursor < touched_by cs key r.target = claimed_item f cs h.cursor key (h.states key) h.held r (round.ids key) claimed.claimed in
      let ahead : h.cursor < touched_by cs key s.at = (rw at item) in
      let reached : s.at ≤ length cs = (let u : r.target ≤ length cs = round.reached in omega arith) in
      touch h key r s (with_look h.states key (Some s)) h.held sound claimed (with_look_here h.states key (Some s)) (omega arith) (λ j o. with_look_other h.states key j (Some s) o) (λ j o n own. refl) sound.known
      (⊎_elim (λ p. put_dirty f cs laws key h.cursor (h.states key) h.held s (sound.hive.ids key) ahead reached p)
      (λ p. put_clean f cs laws key h.cursor (h.states key) h.held s (sound.hive.ids key) ahead reached p) put)

  stored_facts : (h : HiveNow) (key : List ℕ) (s : StateDoc) → IsSoundNow f cs h → h.states key ≡ Some s → IsSoundId f cs h.cursor key (Some s) h.held
  stored_facts h key s sound at = subst (λ (o : Option StateDoc). IsSoundId f cs h.cursor key o h.held) at (sound.hive.ids key)

  doc_kept : (h : HiveNow) (key : List ℕ) (r : Round) (s : StateDoc) (name bytes : List ℕ) → IsSoundNow f cs h → IsClaimed h key r → IsStoredAt h key r s
      → IsDocPut f cs key s name bytes h.held → IsSoundNow f cs (with_held (with_look h.held name (Some bytes)) h)
  doc_kept h key r s name bytes sound claimed stored put =
      let own : owner name ≡ Some key = laws.owned key s.at name (some_by _ bytes put.made) in
      touch h key r s h.states (with_look h.held name (Some bytes)) sound claimed stored.stored (let e : s.at ≡ r.target = stored.at in omega arith) (λ j o. refl)
      (λ j o q mine. with_look_other h.held name q (Some bytes) (λ e. o (same_owner (owner name) j key (subst (λ (x : List ℕ). owner x ≡ Some j) e mine) own)))
      (λ q is. ⊎_elim (λ e. some_by _ key (subst (λ (x : List ℕ). owner x ≡ Some key) (sym e) own))
      (λ o. sound.known q (is_some_by _ _ (sym (with_look_other h.held name q (Some bytes) o)) is)) (decide q name))
      (put_doc f cs laws key h.cursor s name bytes h.held (with_look h.held name (Some bytes)) (stored_facts h key s sound stored.stored) put (changed h.held name (Some bytes)))

  delete_kept : (h : HiveNow) (key : List ℕ) (r : Round) (s : StateDoc) (name : List ℕ) → IsSoundNow f cs h → IsClaimed h key r → IsStoredAt h key r s
      → IsDocDelete f cs key s name h.held → IsSoundNow f cs (with_held (with_look h.held name None) h)
  delete_kept h key r s name sound claimed stored put =
      let facts = stored_facts h key s sound stored.stored in
      let own : owner name ≡ Some key = facts.state.0.owned name put.named in
      touch h key r s h.states (with_look h.held name None) sound claimed stored.stored (let e : s.at ≡ r.target = stored.at in omega arith) (λ j o. refl)
      (λ j o q mine. with_look_other h.held name q None (λ e. o (same_owner (owner name) j key (subst (λ (x : List ℕ). owner x ≡ Some j) e mine) own)))
      (λ q is. ⊎_elim (λ e. absurd (no_some (with_look h.held name None q) (subst (λ (x : List ℕ). with_look h.held name None x ≡ None) (sym e) (with_look_here h.held name None)) is))
      (λ o. sound.known q (is_some_by _ _ (sym (with_look_other h.held name q None o)) is)) (decide q name))
      (delete_doc f cs laws key h.cursor s name h.held (with_look h.held name None) facts put (changed h.held name None))

  -- the cursor's put
  done_clean : (h : HiveNow) (r : Round) → IsSoundNow f cs h → IsAllDone h r → (j : List ℕ) → Clean f cs j r.target (h.states j) h.held
  done_clean h r sound all j =
      let round = round_of h r sound all.stands in
      let a : times j r.waiting ≡ 0 = ap (times j) all.waiting in
      let b : times j r.claimed ≡ 0 = ap (times j) all.claimed in
      let d : times j r.resting ≡ 0 = ap (times j) all.resting in
      all_clean f cs h.cursor j (h.states j) h.held laws r (round.ids j) (sound.hive.ids j) (omega arith)

  cursor_hive : (h : HiveNow) (r : Round) → IsSoundNow f cs h → IsAllDone h r → IsSoundHive f cs r.target h.states h.held
  cursor_hive h r sound all = record {
    cursor = (round_of h r sound all.stands).reached;
    ids = λ j. advance f cs laws j h.cursor r.target (h.states j) h.held (sound.hive.ids j) (round_of h r sound all.stands).reached (done_clean h r sound all j);
  }

  cursor_done : (h : HiveNow) (r : Round) → IsSoundNow f cs h → IsAllDone h r → IsSoundNow f cs (record { held = h.held; states = h.states; cursor = r.target; round = None })
  cursor_done h r sound all = record { hive = cursor_hive h r sound all; known = sound.known; round = tt }

  cursor_failed : (h : HiveNow) (r : Round) → IsSoundNow f cs h → IsAllDone h r → IsSoundNow f cs (record { held = h.held; states = h.states; cursor = r.target; round = h.round })
  cursor_failed h r sound all =
      let round = round_of h r sound all.stands in
      record {
        hive = cursor_hive h r sound all;
        known = sound.known;
        round = subst (λ (o : Option Round). HasRound f cs r.target h.states h.held o) (sym all.stands) (record {
          reached = round.reached;
          ids = λ j. record {
            at_most = (round.ids j).at_most;
            once = (round.ids j).once;
            which = inr (
              refl,
              (let a : times j r.waiting ≡ 0 = ap (times j) all.waiting in let b : times j r.claimed ≡ 0 = ap (times j) all.claimed in
                  let d : times j r.resting ≡ 0 = ap (times j) all.resting in omega arith),
            );
            finished = (round.ids j).finished;
          };
        });
      }

  cursor_kept : (fate : Fate) (h : HiveNow) (r : Round) → IsSoundNow f cs h → IsAllDone h r → IsSoundNow f cs (with_cursor fate h)
  cursor_kept Done h r sound all = rw (all.stands) (cursor_done h r sound all)
  cursor_kept FailedOld h r sound all = sound
  cursor_kept FailedNew h r sound all =
      subst (λ (o : Option Round). IsSoundNow f cs (record { held = h.held; states = h.states; cursor = target_or h.cursor o; round = h.round })) (sym all.stands) (cursor_failed h r sound all)
  cursor_kept NoMemory h r sound all = sound

  pub cursor_settles : (h : HiveNow) (r : Round) → IsSoundNow f cs h → IsAllDone h r → IsSettledNow f cs r.target h
  cursor_settles h r sound all = record { ids = done_clean h r sound all; known = sound.known }

  -- the moves of a round
  rounded : (h : HiveNow) (new : Round) → IsSoundNow f cs h → new.target ≤ length cs
      → ((j : List ℕ) → IsRoundId f cs h.cursor j new (h.states j) h.held) → IsSoundNow f cs (with_round (Some new) h)
  rounded h new sound reached ids = record { hive = sound.hive; known = sound.known; round = record { reached = reached; ids = ids } }

  begin_kept : (h : HiveNow) (told : ℕ) → IsSoundNow f cs h → MayBegin cs h told
      → IsSoundNow f cs (with_round (Some (record { target = told; waiting = changed_keys cs h.cursor told; claimed = []; finished = []; resting = [] })) h)
  begin_kept h told sound may =
      rounded h (record { target = told; waiting = changed_keys cs h.cursor told; claimed = []; finished = []; resting = [] }) sound may.within (λ j.
      let exact = are_changed cs h.cursor told may.later may.within j in
      record {
        at_most = may.at_most j;
        once = ⊎_elim (λ is. let e : times j (changed_keys cs h.cursor told) ≡ 1 = exact.some is in omega arith)
            (λ no_. let e : times j (changed_keys cs h.cursor told) ≡ 0 = exact.none no_ in omega arith) (cases_lt h.cursor (touched_by cs j told));
        which = inl (
          may.later,
          (
            (λ is. let e : times j (changed_keys cs h.cursor told) ≡ 1 = exact.some is in omega arith),
            (λ no_. let e : times j (changed_keys cs h.cursor told) ≡ 0 = exact.none no_ in omega arith),
          ),
        );
        finished = λ is. absurd (omega arith);
      })

  claim_round : (h : HiveNow) (r : Round) (waiting : List (List ℕ)) → IsSoundNow f cs h → h.round ≡ Some r → r.waiting ≡ waiting → IsSoundNow f cs (with_round (Some (one_claimed r waiting)) h)
  claim_round h r [] sound stands is = rounded h r sound (round_of h r sound stands).reached (round_of h r sound stands).ids
  claim_round h r (key ∷ keys) sound stands is =
      let round = round_of h r sound stands in
      rounded h (one_claimed r (key ∷ keys)) sound round.reached (λ j.
      let a : times j (r.claimed ++ key ∷ []) ≡ times j r.claimed + times j (key ∷ []) = times-append j r.claimed (key ∷ []) in
      let b : times j r.waiting ≡ times j (key ∷ keys) = ap (times j) is in
      moved f cs h.cursor j (h.states j) h.held r keys (r.claimed ++ key ∷ []) r.finished r.resting (round.ids j) (omega arith) (λ over. refl) (round.ids j).finished)

  claim_kept : (h : HiveNow) (o : Option Round) → IsSoundNow f cs h → h.round ≡ o → IsSoundNow f cs (with_round (option_map (λ (r : Round). one_claimed r r.waiting) o) h)
  claim_kept h None sound is = record { hive = sound.hive; known = sound.known; round = tt }
  claim_kept h (Some r) sound is = claim_round h r r.waiting sound is refl

  finish_kept : (h : HiveNow) (key : List ℕ) (r : Round) → IsSoundNow f cs h → IsClaimed h key r → Clean f cs key r.target (h.states key) h.held → IsSoundNow f cs (with_round (Some (one_finished key r)) h)
  finish_kept h key r sound claimed clean =
      let round = round_of h r sound claimed.stands in
      rounded h (one_finished key r) sound round.reached (λ j.
      let a : times j (r.finished ++ key ∷ []) ≡ times j r.finished + times j (key ∷ []) = times-append j r.finished (key ∷ []) in
      ⊎_elim
      (λ e. subst (λ (x : List ℕ). IsRoundId f cs h.cursor x (one_finished key r) (h.states x) h.held) (sym e) (
      let b : times key (r.finished ++ key ∷ []) ≡ times key r.finished + times key (key ∷ []) = times-append key r.finished (key ∷ []) in
      let c : times key (key ∷ []) ≡ 1 = times_one key in
      let d : times key (without key r.claimed) ≡ 0 = times_without key r.claimed in
      let p : 0 < times key r.claimed = claimed.claimed in
      let o : places key r ≤ 1 = (round.ids key).once in
      moved f cs h.cursor key (h.states key) h.held r r.waiting (without key r.claimed) (r.finished ++ key ∷ []) r.resting (round.ids key) (omega arith) (λ over. absurd (omega arith)) (λ is. clean)))
      (λ o.
      let c : times j (key ∷ []) ≡ 0 = times_one_other j key o in
      let d : times j (without key r.claimed) ≡ times j r.claimed = times_without_other key j r.claimed o in
      moved f cs h.cursor j (h.states j) h.held r r.waiting (without key r.claimed) (r.finished ++ key ∷ []) r.resting (round.ids j) (omega arith) (λ over. omega arith) (λ is. (round.ids j).finished (omega arith)))
      (decide j key))

  rest_kept : (h : HiveNow) (key : List ℕ) (r : Round) → IsSoundNow f cs h → IsClaimed h key r → IsSoundNow f cs (with_round (Some (one_rested key r)) h)
  rest_kept h key r sound claimed =
      let round = round_of h r sound claimed.stands in
      rounded h (one_rested key r) sound round.reached (λ j.
      let a : times j (r.resting ++ key ∷ []) ≡ times j r.resting + times j (key ∷ []) = times-append j r.resting (key ∷ []) in
      let same : times j (without key r.claimed) + times j (key ∷ []) ≡ times j r.claimed = ⊎_elim
      (λ e. subst (λ (x : List ℕ). times x (without key r.claimed) + times x (key ∷ []) ≡ times x r.claimed) (sym e) (
      let c : times key (key ∷ []) ≡ 1 = times_one key in
      let d : times key (without key r.claimed) ≡ 0 = times_without key r.claimed in
      let p : 0 < times key r.claimed = claimed.claimed in
      let o : places key r ≤ 1 = (round.ids key).once in omega arith))
      (λ o.
      let c : times j (key ∷ []) ≡ 0 = times_one_other j key o in
      let d : times j (without key r.claimed) ≡ times j r.claimed = times_without_other key j r.claimed o in omega arith)
      (decide j key) in
      moved f cs h.cursor j (h.states j) h.held r r.waiting (without key r.claimed) r.finished (r.resting ++ key ∷ []) (round.ids j) (omega arith) (λ over. refl) (round.ids j).finished)

  wake_kept : (h : HiveNow) (r : Round) → IsSoundNow f cs h → h.round ≡ Some r → IsSoundNow f cs (with_round (Some (all_woken r)) h)
  wake_kept h r sound stands =
      let round = round_of h r sound stands in
      rounded h (all_woken r) sound round.reached (λ j.
      let a : times j (r.waiting ++ r.resting) ≡ times j r.waiting + times j r.resting = times-append j r.waiting r.resting in
      moved f cs h.cursor j (h.states j) h.held r (r.waiting ++ r.resting) r.claimed r.finished [] (round.ids j) (omega arith) (λ over. refl) (round.ids j).finished)

  -- whatever may happen to a hive
  pub hive_kept : (h : HiveNow) (on : OnHive) → IsSoundNow f cs h → MayOnHive f cs h on → IsSoundNow f cs (hive_after cs on h)
  hive_kept h (Begin told) sound may = begin_kept h told sound may
  hive_kept h Claim sound may = claim_kept h h.round sound refl
  hive_kept h (Finish key) sound may = let r = may.0 in let c = may.1 in rw (c.stands) (finish_kept h key r sound c may.2)
  hive_kept h (Rest key) sound may = let r = may.0 in let c = may.1 in rw (c.stands) (rest_kept h key r sound c)
  hive_kept h Wake sound may = let r = may.0 in let c = may.1 in rw (c.stands) (wake_kept h r sound c.stands)
  hive_kept h (PutState key s Done) sound may = state_kept h key may.0 s sound may.1 may.2 may.3
  hive_kept h (PutState key s FailedOld) sound may = sound
  hive_kept h (PutState key s FailedNew) sound may = state_kept h key may.0 s sound may.1 may.2 may.3
  hive_kept h (PutState key s NoMemory) sound may = sound
  hive_kept h (PutDoc key name bytes Done) sound may = doc_kept h key may.0 may.1 name bytes sound may.2 (record { stored = may.3; at = may.4 }) may.5
  hive_kept h (PutDoc key name bytes FailedOld) sound may = sound
  hive_kept h (PutDoc key name bytes FailedNew) sound may = doc_kept h key may.0 may.1 name bytes sound may.2 (record { stored = may.3; at = may.4 }) may.5
  hive_kept h (PutDoc key name bytes NoMemory) sound may = sound
  hive_kept h (DeleteDoc key name Done) sound may = delete_kept h key may.0 may.1 name sound may.2 (record { stored = may.3; at = may.4 }) may.5
  hive_kept h (DeleteDoc key name FailedOld) sound may = sound
  hive_kept h (DeleteDoc key name FailedNew) sound may = delete_kept h key may.0 may.1 name sound may.2 (record { stored = may.3; at = may.4 }) may.5
  hive_kept h (DeleteDoc key name NoMemory) sound may = sound
  hive_kept h (PutCursor fate) sound may = cursor_kept fate h may.0 sound (all_done h may.0 may.1 may.2)

-- the catalog grows
round_more : (f : Fold) (cs : Catalog) (x : Stored) (h : HiveNow) (o : Option Round) → HasRound f cs h.cursor h.states h.held o → HasRound f (cs ++ x ∷ []) h.cursor h.states h.held o
round_more f cs x h None round = tt
round_more f cs x h (Some r) round = record {
  reached = (let a : r.target ≤ length cs = round.reached in let b : length cs ≤ length (cs ++ x ∷ []) = longer f cs x in omega arith);
  ids = λ j.
      let t : touched_by (cs ++ x ∷ []) j r.target ≡ touched_by cs j r.target = ap (λ (l : List Commit). touched l j) (commits_more f cs x r.target round.reached) in
      record {
        at_most = (round.ids j).at_most;
        once = (round.ids j).once;
        which = ⊎_elim (λ exact. inl (exact.0, ((λ is. exact.1.0 (omega arith)), (λ no_. exact.1.1 (omega arith))))) (λ over. inr over) (round.ids j).which;
        finished = λ is. clean_more f cs x j r.target (h.states j) h.held round.reached ((round.ids j).finished is);
      };
}

pub page_kept : (f : Fold) (cs : Catalog) (x : Stored) (h : HiveNow) → IsSoundNow f cs h → IsSoundNow f (cs ++ x ∷ []) h
page_kept f cs x h sound = record { hive = more_sound f cs x h.cursor h.states h.held sound.hive; known = sound.known; round = round_more f cs x h h.round sound.round }

pub down_kept : (f : Fold) (cs : Catalog) (h : HiveNow) → IsSoundNow f cs h → IsSoundNow f cs (with_round None h)
down_kept f cs h sound = record { hive = sound.hive; known = sound.known; round = tt }

-- cursors never fall
cursor_rises : (f : Fold) (cs : Catalog) (h : HiveNow) (o : Option Round) → IsSoundNow f cs h → h.round ≡ o → h.cursor ≤ target_or h.cursor o
cursor_rises f cs h None sound at = omega arith
cursor_rises f cs h (Some r) sound at =
    let round : IsRoundAt f cs h.cursor h.states h.held r = subst (λ (o : Option Round). HasRound f cs h.cursor h.states h.held o) at sound.round in
    ⊎_elim (λ exact. (let l : h.cursor < r.target = exact.0 in omega arith)) (λ over. (let e : h.cursor ≡ r.target = over.0 in omega arith)) (round.ids []).which

cursor_by : (f : Fold) (cs : Catalog) (fate : Fate) (h : HiveNow) → IsSoundNow f cs h → h.cursor ≤ (with_cursor fate h).cursor
cursor_by f cs Done h sound = cursor_rises f cs h h.round sound refl
cursor_by f cs FailedOld h sound = omega arith
cursor_by f cs FailedNew h sound = cursor_rises f cs h h.round sound refl
cursor_by f cs NoMemory h sound = omega arith

pub never_falls : (f : Fold) (cs : Catalog) (h : HiveNow) (on : OnHive) → IsSoundNow f cs h → h.cursor ≤ (hive_after cs on h).cursor
never_falls f cs h (Begin told) sound = omega arith
never_falls f cs h Claim sound = omega arith
never_falls f cs h (Finish key) sound = omega arith
never_falls f cs h (Rest key) sound = omega arith
never_falls f cs h Wake sound = omega arith
never_falls f cs h (PutState key s Done) sound = omega arith
never_falls f cs h (PutState key s FailedOld) sound = omega arith
never_falls f cs h (PutState key s FailedNew) sound = omega arith
never_falls f cs h (PutState key s NoMemory) sound = omega arith
never_falls f cs h (PutDoc key name bytes Done) sound = omega arith
never_falls f cs h (PutDoc key name bytes FailedOld) sound = omega arith
never_falls f cs h (PutDoc key name bytes FailedNew) sound = omega arith
never_falls f cs h (PutDoc key name bytes NoMemory) sound = omega arith
never_falls f cs h (DeleteDoc key name Done) sound = omega arith
never_falls f cs h (DeleteDoc key name FailedOld) sound = omega arith
never_falls f cs h (DeleteDoc key name FailedNew) sound = omega arith
never_falls f cs h (DeleteDoc key name NoMemory) sound = omega arith
never_falls f cs h (PutCursor fate) sound = cursor_by f cs fate h sound
