-- The steps of a pass: allowed one after the other, and what they leave.
use Rattle.std.proofs.Common.{◌≡◌, inl, inr, ⊎_elim, ◌<◌, ◌≤◌, ℕ, zero, suc, List, [], ◌∷◌, ◌++◌, codes, length, map, take, Bool, true, false, Option, None, Some, refl, sym, ◌∙◌, ap, subst, arith}
use Rattle.std.specs.Prelude.{Contains, IsSome}
use Rattle.pkg_meta.specs.Catalog.{Catalog}
use Rattle.pkg_meta.specs.declared.state.StateDoc.{StateDoc}
use Rattle.fold_core.specs.Docs.{id_index_name, owner}
use Rattle.fold_core.specs.Events.{HoldsAll, HoldsButFor, IsIndexDone, names_in}
use Rattle.fold_core.specs.Folds.{Clean, Fold, HoldsAt, Look, NamesAt, made_at, touched_by}
use Rattle.fold_core.specs.Items.{commits_of}
use Rattle.fold_core.specs.Sound.{IsSoundId}
use Rattle.fold_core.proofs.DocNames.{owner_of}
use Rattle.fold_core.proofs.Touches.{touched_within}
use Rattle.hive_laws.specs.FoldLaws.{FoldLaws}
use Rattle.hive_laws.specs.Plans.{IsPassPlan, NamedBytes, PassPlan, names_of_docs, pass_steps, puts_of_docs, puts_of_index, removals_of_index}
use Rattle.hive_laws.specs.Steps.{AreAllowed, IsAllowed, KeptOfId, Step, PutState, PutDoc, RemoveDoc, after_step, after_steps, with_found}
use Rattle.hive_laws.proofs.EveryHive.{item_whole}
use Rattle.hive_laws.proofs.Listed.{first, later, nothing_in, split}
use Rattle.hive_laws.proofs.Looks.{decide, no_some, none_or_some, some_by, with_found_changed, with_found_here, with_found_other}
use Rattle.hive_laws.proofs.OneId.{delete_doc, old_held, put_clean, put_dirty, put_doc}

-- an allowed step keeps the id sound
module _ (f : Fold) (cs : Catalog) (laws : FoldLaws f cs) (c k : ℕ) (key : List ℕ) (item : c < touched_by cs key k) (reached : k ≤ length cs) where
  pub step_keeps : (step : Step) (kept : KeptOfId) → IsSoundId f cs c key kept.stored kept.held → IsAllowed f cs key k step kept
      → IsSoundId f cs c key (after_step step kept).stored (after_step step kept).held
  step_keeps (PutState s) kept sound allowed =
      let ahead : c < touched_by cs key s.at = subst (λ (n : ℕ). c < touched_by cs key n) (sym allowed.0) item in
      let within : s.at ≤ length cs = (let e : s.at ≡ k = allowed.0 in omega arith) in
      ⊎_elim (λ put. put_dirty f cs laws key c kept.stored kept.held s sound ahead within put)
      (λ put. put_clean f cs laws key c kept.stored kept.held s sound ahead within put) allowed.1
  step_keeps (PutDoc name bytes) kept sound allowed =
      subst (λ (o : Option StateDoc). IsSoundId f cs c key o (with_found name (Some bytes) kept.held)) (sym allowed.2)
      (put_doc f cs laws key c allowed.0 name bytes kept.held (with_found name (Some bytes) kept.held)
      (subst (λ (o : Option StateDoc). IsSoundId f cs c key o kept.held) allowed.2 sound) allowed.3 (with_found_changed name (Some bytes) kept.held))
  step_keeps (RemoveDoc name) kept sound allowed =
      subst (λ (o : Option StateDoc). IsSoundId f cs c key o (with_found name None kept.held)) (sym allowed.2)
      (delete_doc f cs laws key c allowed.0 name kept.held (with_found name None kept.held)
      (subst (λ (o : Option StateDoc). IsSoundId f cs c key o kept.held) allowed.2 sound) allowed.3 (with_found_changed name None kept.held))

  -- and so does each prefix of allowed steps
  pub steps_keep : (steps : List Step) (kept : KeptOfId) → IsSoundId f cs c key kept.stored kept.held → AreAllowed f cs key k steps kept
      → (n : ℕ) → IsSoundId f cs c key (after_steps (take n steps) kept).stored (after_steps (take n steps) kept).held
  steps_keep steps kept sound allowed zero = sound
  steps_keep [] kept sound allowed (suc n) = sound
  steps_keep (step ∷ steps) kept sound allowed (suc n) =
      steps_keep steps (after_step step kept) (step_keeps step kept sound allowed.0) allowed.1 n

after_joined : (some more : List Step) (kept : KeptOfId) → after_steps (some ++ more) kept ≡ after_steps more (after_steps some kept)
after_joined [] more kept = refl
after_joined (step ∷ some) more kept = after_joined some more (after_step step kept)

allowed_joined : (f : Fold) (cs : Catalog) (key : List ℕ) (k : ℕ) (some more : List Step) (kept : KeptOfId) → AreAllowed f cs key k some kept
    → AreAllowed f cs key k more (after_steps some kept) → AreAllowed f cs key k (some ++ more) kept
allowed_joined f cs key k [] more kept a b = b
allowed_joined f cs key k (step ∷ some) more kept a b = (a.0, allowed_joined f cs key k some more (after_step step kept) a.1 b)

-- the documents after these puts, and after these removals
put_all : List NamedBytes → Look (List ℕ) → Look (List ℕ)
put_all [] held = held
put_all (d ∷ docs) held = put_all docs (with_found d.name (Some d.bytes) held)

remove_all : List (List ℕ) → Look (List ℕ) → Look (List ℕ)
remove_all [] held = held
remove_all (name ∷ names) held = remove_all names (with_found name None held)

abbrev kept_of : Option StateDoc → Look (List ℕ) → KeptOfId
kept_of stored held = record { stored = stored; held = held }

after_puts : (docs : List NamedBytes) (stored : Option StateDoc) (held : Look (List ℕ)) → after_steps (puts_of_docs docs) (kept_of stored held) ≡ kept_of stored (put_all docs held)
unfolding put_all
after_puts [] stored held = refl
after_puts (d ∷ docs) stored held = after_puts docs stored (with_found d.name (Some d.bytes) held)

after_removals : (names : List (List ℕ)) (stored : Option StateDoc) (held : Look (List ℕ)) → after_steps (map RemoveDoc names) (kept_of stored held) ≡ kept_of stored (remove_all names held)
unfolding remove_all
after_removals [] stored held = refl
after_removals (name ∷ names) stored held = after_removals names stored (with_found name None held)

stays_gone : (names : List (List ℕ)) (held : Look (List ℕ)) (q : List ℕ) → held q ≡ None → remove_all names held q ≡ None
unfolding remove_all
stays_gone [] held q is = is
stays_gone (name ∷ names) held q is = stays_gone names (with_found name None held) q (⊎_elim
    (λ e. subst (λ (x : List ℕ). with_found name None held x ≡ None) (sym e) (with_found_here name None held))
    (λ o. with_found_other name None held q o ∙ is) (decide q name))

takes_away : (names : List (List ℕ)) (held : Look (List ℕ)) (q : List ℕ) → Contains names q → remove_all names held q ≡ None
unfolding remove_all
takes_away [] held q is = absurd (nothing_in q is)
takes_away (name ∷ names) held q is = ⊎_elim
    (λ e. stays_gone names (with_found name None held) q (subst (λ (x : List ℕ). with_found name None held x ≡ None) (sym e) (with_found_here name None held)))
    (λ there. takes_away names (with_found name None held) q there) (split name q names is)

leaves_others : (names : List (List ℕ)) (held : Look (List ℕ)) (q : List ℕ) → (Contains names q → ⊥) → remove_all names held q ≡ held q
unfolding remove_all
leaves_others [] held q out = refl
leaves_others (name ∷ names) held q out = leaves_others names (with_found name None held) q (λ is. out (later name q names is))
    ∙ with_found_other name None held q (λ e. out (subst (λ (x : List ℕ). Contains (name ∷ names) x) (sym e) (first name names)))

-- puts of what is made
module _ (made : List ℕ → Option (List ℕ)) where
  AreMade : List NamedBytes → Type 0
  AreMade docs = (d : NamedBytes) → Contains docs d → made d.name ≡ Some d.bytes

  put_stands : (d : NamedBytes) (held : Look (List ℕ)) (q : List ℕ) → made d.name ≡ Some d.bytes → q ≡ d.name → with_found d.name (Some d.bytes) held q ≡ made q
  put_stands d held q is e = subst (λ (x : List ℕ). with_found d.name (Some d.bytes) held x ≡ made x) (sym e) (with_found_here d.name (Some d.bytes) held ∙ sym is)

  put_keeps : (docs : List NamedBytes) (held : Look (List ℕ)) (q : List ℕ) → AreMade docs → held q ≡ made q → put_all docs held q ≡ made q
  unfolding put_all AreMade
  put_keeps [] held q right is = is
  put_keeps (d ∷ docs) held q right is = put_keeps docs (with_found d.name (Some d.bytes) held) q (λ x in_. right x (later d x docs in_))
      (⊎_elim (λ e. put_stands d held q (right d (first d docs)) e) (λ o. with_found_other d.name (Some d.bytes) held q o ∙ is) (decide q d.name))

  put_gives : (docs : List NamedBytes) (held : Look (List ℕ)) (q : List ℕ) → AreMade docs → Contains (names_of_docs docs) q → put_all docs held q ≡ made q
  unfolding put_all AreMade
  put_gives [] held q right is = absurd (nothing_in q is)
  put_gives (d ∷ docs) held q right is = ⊎_elim
      (λ e. put_keeps docs (with_found d.name (Some d.bytes) held) q (λ x in_. right x (later d x docs in_)) (put_stands d held q (right d (first d docs)) e))
      (λ there. put_gives docs (with_found d.name (Some d.bytes) held) q (λ x in_. right x (later d x docs in_)) there)
      (split d.name q (names_of_docs docs) is)

  -- what isn't made isn't put
  put_leaves : (docs : List NamedBytes) (held : Look (List ℕ)) (q : List ℕ) → AreMade docs → made q ≡ None → put_all docs held q ≡ held q
  unfolding put_all AreMade
  put_leaves [] held q right none = refl
  put_leaves (d ∷ docs) held q right none = put_leaves docs (with_found d.name (Some d.bytes) held) q (λ x in_. right x (later d x docs in_)) none
      ∙ with_found_other d.name (Some d.bytes) held q
      (λ e. no_some (made q) none (some_by (made q) d.bytes (subst (λ (x : List ℕ). made x ≡ Some d.bytes) (sym e) (right d (first d docs)))))

-- puts and removals beside a dirty state
module _ (f : Fold) (cs : Catalog) (key : List ℕ) (s : StateDoc) (dirty : s.dirty ≡ true) where
  abbrev made_then : List ℕ → Option (List ℕ)
  made_then name = made_at f cs key s.at name

  puts_allowed : (docs : List NamedBytes) (held : Look (List ℕ)) → AreMade made_then docs → ((d : NamedBytes) → Contains docs d → Contains s.names d.name)
      → ((d : NamedBytes) → Contains docs d → d.name ≡ id_index_name key → HoldsButFor f cs key s.at d.name held)
      → AreAllowed f cs key s.at (puts_of_docs docs) (kept_of (Some s) held)
  unfolding AreMade
  puts_allowed [] held right named guard = tt
  puts_allowed (d ∷ docs) held right named guard = (
    (s, refl, refl, record { dirty = dirty; named = named d (first d docs); made = right d (first d docs); index = guard d (first d docs) }),
    puts_allowed docs (with_found d.name (Some d.bytes) held) (λ x in_. right x (later d x docs in_)) (λ x in_. named x (later d x docs in_))
        (λ x in_ is_index q o makes. ⊎_elim (λ e. put_stands made_then d held q (right d (first d docs)) e)
        (λ other. with_found_other d.name (Some d.bytes) held q other ∙ guard x (later d x docs in_) is_index q o makes) (decide q d.name)),
  )

  done_kept : (name q : List ℕ) (held : Look (List ℕ)) → made_then name ≡ None → IsIndexDone f cs key s.at q held → IsIndexDone f cs key s.at q (with_found name None held)
  done_kept name q held unmade done = ⊎_elim
      (λ all. inl (
        all.0,
        λ x makes. with_found_other name None held x
            (λ e. no_some (made_then name) unmade (subst (λ (y : List ℕ). IsSome (made_then y)) e makes)) ∙ all.1 x makes,
      ))
      (λ none. inr (
        none.0,
        ⊎_elim (λ e. inl e) (λ gone. inr (⊎_elim
            (λ e. subst (λ (x : List ℕ). with_found name None held x ≡ None) (sym e) (with_found_here name None held))
            (λ o. with_found_other name None held (id_index_name key) o ∙ gone) (decide (id_index_name key) name))) none.1,
      )) done

  removals_allowed : (names : List (List ℕ)) (held : Look (List ℕ)) → ((q : List ℕ) → Contains names q → Contains s.names q)
      → ((q : List ℕ) → Contains names q → made_then q ≡ None) → ((q : List ℕ) → Contains names q → IsIndexDone f cs key s.at q held)
      → AreAllowed f cs key s.at (map RemoveDoc names) (kept_of (Some s) held)
  removals_allowed [] held named unmade done = tt
  removals_allowed (name ∷ names) held named unmade done = (
    (s, refl, refl, record { dirty = dirty; named = named name (first name names); unmade = unmade name (first name names); index = done name (first name names) }),
    removals_allowed names (with_found name None held) (λ q in_. named q (later name q names in_)) (λ q in_. unmade q (later name q names in_))
        (λ q in_. done_kept name q held (unmade name (first name names)) (done q (later name q names in_))),
  )

-- the index among the documents that are put, and among the names that are removed
index_docs : List ℕ → Option (List ℕ) → List NamedBytes
index_docs key None = []
index_docs key (Some bytes) = record { name = id_index_name key; bytes = bytes } ∷ []

index_puts : (key : List ℕ) (o : Option (List ℕ)) → puts_of_index key o ≡ puts_of_docs (index_docs key o)
unfolding index_docs
index_puts key None = refl
index_puts key (Some bytes) = refl

index_names : List ℕ → Bool → List (List ℕ)
index_names key false = []
index_names key true = id_index_name key ∷ []

index_removals : (key : List ℕ) (b : Bool) → removals_of_index key b ≡ map RemoveDoc (index_names key b)
unfolding index_names
index_removals key false = refl
index_removals key true = refl

index_doc : (key : List ℕ) (o : Option (List ℕ)) (d : NamedBytes) → Contains (index_docs key o) d → (d.name ≡ id_index_name key) × (o ≡ Some d.bytes)
unfolding index_docs
index_doc key None d is = absurd (nothing_in d is)
index_doc key (Some bytes) d is = ⊎_elim
    (λ e. (ap (λ (x : NamedBytes). x.name) e, ap (λ (x : NamedBytes). Some x.bytes) (sym e)))
    (λ there. absurd (nothing_in d there)) (split (record { name = id_index_name key; bytes = bytes }) d [] is)

index_put : (key : List ℕ) (o : Option (List ℕ)) → IsSome o → Contains (names_of_docs (index_docs key o)) (id_index_name key)
unfolding index_docs
index_put key None is = absurd (no_some {A = List ℕ} None refl is)
index_put key (Some bytes) is = first (id_index_name key) []

index_removed : (key : List ℕ) (b : Bool) → b ≡ true → Contains (index_names key b) (id_index_name key)
unfolding index_names
index_removed key false is = cc
index_removed key true is = first (id_index_name key) []

is_index_removed : (key : List ℕ) (b : Bool) (q : List ℕ) → Contains (index_names key b) q → (q ≡ id_index_name key) × (b ≡ true)
unfolding index_names
is_index_removed key false q is = absurd (nothing_in q is)
is_index_removed key true q is = ⊎_elim (λ e. (e, refl)) (λ there. absurd (nothing_in q there)) (split (id_index_name key) q [] is)

-- the pass to the commit at which the dirty state stands
module _ (f : Fold) (cs : Catalog) (laws : FoldLaws f cs) (c : ℕ) (key : List ℕ) (stored : Option StateDoc) (m0 : Look (List ℕ)) (p : PassPlan)
    (sound : IsSoundId f cs c key stored m0) (plan : IsPassPlan f cs key p.dirty.at stored m0 p) where
  abbrev docs : List NamedBytes
  docs = index_docs key p.index

  abbrev dropped : List (List ℕ)
  dropped = index_names key p.drops_index

  abbrev doc : List ℕ → Option (List ℕ)
  doc name = made_at f cs key p.dirty.at name

  abbrev m1 : Look (List ℕ)
  m1 = put_all p.written m0

  abbrev m2 : Look (List ℕ)
  m2 = put_all docs m1

  abbrev m3 : Look (List ℕ)
  m3 = remove_all dropped m2

  abbrev m4 : Look (List ℕ)
  m4 = remove_all p.removed m3

  made_written : AreMade doc p.written
  unfolding AreMade
  made_written d is = (plan.written d is).1

  made_index : AreMade doc docs
  unfolding AreMade
  made_index d is = let at = index_doc key p.index d is in ap doc at.0 ∙ plan.index d.bytes at.1

  unmade_dropped : (q : List ℕ) → Contains dropped q → doc q ≡ None
  unmade_dropped q is = let at = is_index_removed key p.drops_index q is in ap doc at.0 ∙ (plan.dropped at.1).1

  named_dropped : (q : List ℕ) → Contains dropped q → Contains (names_in stored) q
  named_dropped q is = let at = is_index_removed key p.drops_index q is in
      subst (λ (x : List ℕ). Contains (names_in stored) x) (sym at.0) (plan.dropped at.1).0

  others : HoldsButFor f cs key p.dirty.at (id_index_name key) m1
  others q o makes = ⊎_elim (λ is. put_gives doc p.written m0 q made_written is) (λ held. put_keeps doc p.written m0 q made_written held) (plan.left q o makes)

  the_index : IsSome (doc (id_index_name key)) → m2 (id_index_name key) ≡ doc (id_index_name key)
  the_index makes = ⊎_elim (λ is. put_gives doc docs m1 (id_index_name key) made_index (index_put key p.index is))
      (λ held. put_keeps doc docs m1 (id_index_name key) made_index (put_keeps doc p.written m0 (id_index_name key) made_written held)) (plan.index_left makes)

  all2 : HoldsAll f cs key p.dirty.at m2
  all2 q makes = ⊎_elim
      (λ e. subst (λ (x : List ℕ). m2 x ≡ doc x) (sym e) (the_index (subst (λ (x : List ℕ). IsSome (doc x)) e makes)))
      (λ o. put_keeps doc docs m1 q made_index (others q o makes)) (decide q (id_index_name key))

  all3 : HoldsAll f cs key p.dirty.at m3
  all3 q makes = leaves_others dropped m2 q (λ is. no_some (doc q) (unmade_dropped q is) makes) ∙ all2 q makes

  all4 : HoldsAll f cs key p.dirty.at m4
  all4 q makes = leaves_others p.removed m3 q (λ is. no_some (doc q) (plan.removed q is).2 makes) ∙ all3 q makes

  -- what wasn't held and isn't made
  absent3 : (q : List ℕ) → doc q ≡ None → m0 q ≡ None → m3 q ≡ None
  absent3 q none gone = stays_gone dropped m2 q (put_leaves doc docs m1 q made_index none ∙ put_leaves doc p.written m0 q made_written none ∙ gone)

  was_named : (q : List ℕ) → owner q ≡ Some key → IsSome (m0 q) → Contains (names_in stored) q
  was_named q own is = old_held f cs laws key c stored m0 sound.state q own is

  -- an index that isn't made is gone, where the id owns its name
  no_index3 : (q : List ℕ) → owner q ≡ Some key → doc q ≡ None → q ≡ id_index_name key → m3 q ≡ None
  no_index3 q own none is_index = ⊎_elim (λ gone. absent3 q none gone)
      (λ is. subst (λ (x : List ℕ). m3 x ≡ None) (sym is_index) (takes_away dropped m2 (id_index_name key) (index_removed key p.drops_index
      (plan.drops (subst (λ (x : List ℕ). Contains (names_in stored) x) is_index (was_named q own is)) (subst (λ (x : List ℕ). doc x ≡ None) is_index none)))))
      (none_or_some (m0 q))

  none4 : (q : List ℕ) → owner q ≡ Some key → doc q ≡ None → m4 q ≡ None
  none4 q own none = ⊎_elim (λ gone. stays_gone p.removed m3 q (absent3 q none gone))
      (λ is. ⊎_elim (λ e. stays_gone p.removed m3 q (no_index3 q own none e))
      (λ o. takes_away p.removed m3 q (plan.removes q o (was_named q own is) none)) (decide q (id_index_name key))) (none_or_some (m0 q))

  held4 : HoldsAt f cs key p.dirty.at m4
  held4 q own = ⊎_elim (λ none. none4 q own none ∙ sym none) (λ makes. all4 q makes) (none_or_some (doc q))

  module _ (mine : owner (id_index_name key) ≡ Some key) (clean_at : p.clean.at ≡ p.dirty.at) where
    abbrev beside : Look (List ℕ) → KeptOfId
    beside held = kept_of (Some p.dirty) held

    abbrev from_clean : List Step
    from_clean = PutState p.clean ∷ []

    abbrev from_removed : List Step
    from_removed = map RemoveDoc p.removed ++ from_clean

    abbrev from_dropped : List Step
    from_dropped = map RemoveDoc dropped ++ from_removed

    abbrev from_index : List Step
    from_index = puts_of_docs docs ++ from_dropped

    abbrev from_written : List Step
    from_written = puts_of_docs p.written ++ from_index

    run_written : AreAllowed f cs key p.dirty.at (puts_of_docs p.written) (beside m0)
    unfolding AreMade
    run_written = puts_allowed f cs key p.dirty plan.dirty.dirty p.written m0 made_written
        (λ d is. plan.dirty.made d.name (some_by (doc d.name) d.bytes (made_written d is))) (λ d is e. absurd ((plan.written d is).0 e))

    run_index : AreAllowed f cs key p.dirty.at (puts_of_docs docs) (beside m1)
    unfolding AreMade
    run_index = puts_allowed f cs key p.dirty plan.dirty.dirty docs m1 made_index
        (λ d is. plan.dirty.made d.name (some_by (doc d.name) d.bytes (made_index d is))) (λ d is e q o makes. others q (λ same. o (same ∙ sym e)) makes)

    run_dropped : AreAllowed f cs key p.dirty.at (map RemoveDoc dropped) (beside m2)
    run_dropped = removals_allowed f cs key p.dirty plan.dirty.dirty dropped m2 (λ q is. plan.dirty.kept q (named_dropped q is)) unmade_dropped
        (λ q is. let at = is_index_removed key p.drops_index q is in inr ((plan.dropped at.1).1, inl at.0))

    run_removed : AreAllowed f cs key p.dirty.at (map RemoveDoc p.removed) (beside m3)
    run_removed = removals_allowed f cs key p.dirty plan.dirty.dirty p.removed m3 (λ q is. plan.dirty.kept q (plan.removed q is).1) (λ q is. (plan.removed q is).2)
        (λ q is. ⊎_elim (λ none. inr (none, inr (no_index3 (id_index_name key) mine none refl))) (λ makes. inl (makes, all3)) (none_or_some (doc (id_index_name key))))

    run_clean : AreAllowed f cs key p.dirty.at from_clean (beside m4)
    run_clean = (
      (
        clean_at,
        inr (record {
          scratch = plan.scratch;
          clean = plan.clean;
          names = subst (λ (n : ℕ). NamesAt f cs key n p.clean.names) (sym clean_at) plan.names;
          holds = subst (λ (n : ℕ). HoldsAt f cs key n m4) (sym clean_at) held4;
        }),
      ),
      tt,
    )

    go_on : (some more : List Step) (held new : Look (List ℕ)) → AreAllowed f cs key p.dirty.at some (beside held) → after_steps some (beside held) ≡ beside new
        → AreAllowed f cs key p.dirty.at more (beside new) → AreAllowed f cs key p.dirty.at (some ++ more) (beside held)
    go_on some more held new a is b = allowed_joined f cs key p.dirty.at some more (beside held) a (subst (λ (kept : KeptOfId). AreAllowed f cs key p.dirty.at more kept) (sym is) b)

    all_allowed : AreAllowed f cs key p.dirty.at (PutState p.dirty ∷ from_written) (kept_of stored m0)
    all_allowed = (
      (refl, inl plan.dirty),
      go_on (puts_of_docs p.written) from_index m0 m1 run_written (after_puts p.written (Some p.dirty) m0)
          (go_on (puts_of_docs docs) from_dropped m1 m2 run_index (after_puts docs (Some p.dirty) m1)
          (go_on (map RemoveDoc dropped) from_removed m2 m3 run_dropped (after_removals dropped (Some p.dirty) m2)
          (go_on (map RemoveDoc p.removed) from_clean m3 m4 run_removed (after_removals p.removed (Some p.dirty) m3) run_clean))),
    )

    after_more : (some more : List Step) (held new : Look (List ℕ)) → after_steps some (beside held) ≡ beside new
        → after_steps (some ++ more) (beside held) ≡ after_steps more (beside new)
    after_more some more held new is = after_joined some more (beside held) ∙ ap (after_steps more) is

    after_all : after_steps (PutState p.dirty ∷ from_written) (kept_of stored m0) ≡ kept_of (Some p.clean) m4
    after_all =
        after_more (puts_of_docs p.written) from_index m0 m1 (after_puts p.written (Some p.dirty) m0)
        ∙ after_more (puts_of_docs docs) from_dropped m1 m2 (after_puts docs (Some p.dirty) m1)
        ∙ after_more (map RemoveDoc dropped) from_removed m2 m3 (after_removals dropped (Some p.dirty) m2)
        ∙ after_more (map RemoveDoc p.removed) from_clean m3 m4 (after_removals p.removed (Some p.dirty) m3)

    steps_are : pass_steps key p ≡ PutState p.dirty ∷ from_written
    steps_are =
        ap (λ (l : List Step). PutState p.dirty ∷ (puts_of_docs p.written ++ (l ++ (removals_of_index key p.drops_index ++ from_removed)))) (index_puts key p.index)
        ∙ ap (λ (l : List Step). PutState p.dirty ∷ (puts_of_docs p.written ++ (puts_of_docs docs ++ (l ++ from_removed)))) (index_removals key p.drops_index)

    allowed_there : AreAllowed f cs key p.dirty.at (pass_steps key p) (kept_of stored m0)
    allowed_there = subst (λ (l : List Step). AreAllowed f cs key p.dirty.at l (kept_of stored m0)) (sym steps_are) all_allowed

    after_there : after_steps (pass_steps key p) (kept_of stored m0) ≡ kept_of (Some p.clean) m4
    after_there = ap (λ (l : List Step). after_steps l (kept_of stored m0)) steps_are ∙ after_all

    clean_there : 0 < touched_by cs key p.dirty.at → Clean f cs key p.dirty.at (Some p.clean) m4
    clean_there item = record {
      holds = held4;
      state = record {
        begun = item;
        clean = plan.clean;
        reached = omega arith;
        recent = (let most : touched_by cs key p.dirty.at ≤ p.dirty.at = touched_within (commits_of cs) key p.dirty.at in omega arith);
        names = plan.names;
      };
    }

-- the pass to commit k
module _ (f : Fold) (cs : Catalog) (laws : FoldLaws f cs) (c k : ℕ) (key : List ℕ) (kept : KeptOfId) (p : PassPlan)
    (sound : IsSoundId f cs c key kept.stored kept.held) (item : c < touched_by cs key k) (plan : IsPassPlan f cs key k kept.stored kept.held p) where
  here : IsPassPlan f cs key p.dirty.at kept.stored kept.held p
  here = subst (λ (n : ℕ). IsPassPlan f cs key n kept.stored kept.held p) (sym plan.dirty_at) plan

  mine : owner (id_index_name key) ≡ Some key
  mine = owner_of key (codes "index.json") (item_whole (take k (commits_of cs)) key (omega arith))

  pub pass_allowed : AreAllowed f cs key k (pass_steps key p) kept
  pass_allowed = subst (λ (n : ℕ). AreAllowed f cs key n (pass_steps key p) kept) plan.dirty_at
      (allowed_there f cs laws c key kept.stored kept.held p sound here mine here.clean_at)

  -- the clean state stands, and the documents are those of k
  pub pass_stored : (after_steps (pass_steps key p) kept).stored ≡ Some p.clean
  pass_stored = ap (λ (x : KeptOfId). x.stored) (after_there f cs laws c key kept.stored kept.held p sound here mine here.clean_at)

  pub pass_cleans : Clean f cs key k (after_steps (pass_steps key p) kept).stored (after_steps (pass_steps key p) kept).held
  pass_cleans = subst (λ (x : KeptOfId). Clean f cs key k x.stored x.held) (sym (after_there f cs laws c key kept.stored kept.held p sound here mine here.clean_at))
      (subst (λ (n : ℕ). Clean f cs key n (Some p.clean) (m4 f cs laws c key kept.stored kept.held p sound here)) plan.dirty_at
      (clean_there f cs laws c key kept.stored kept.held p sound here mine here.clean_at
      (subst (λ (n : ℕ). 0 < touched_by cs key n) (sym plan.dirty_at) (let i : c < touched_by cs key k = item in omega arith))))
