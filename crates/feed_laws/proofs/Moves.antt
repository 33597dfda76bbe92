-- Ids that go from list to list of a round.
use Rattle.std.proofs.Common.{◌≡◌, inl, inr, ⊎_elim, ◌<◌, ◌≤◌, ◌+◌, ℕ, List, Option, sym, ◌∙◌, arith}
use Rattle.std.proofs.lemmas.Bool.{cases_lt}
use Rattle.pkg_meta.specs.Catalog.{Catalog}
use Rattle.pkg_meta.specs.declared.state.StateDoc.{StateDoc}
use Rattle.fold_core.specs.Folds.{Clean, Fold, Look, touched_by}
use Rattle.fold_core.specs.Items.{commits_of}
use Rattle.fold_core.specs.Sound.{IsSoundId}
use Rattle.fold_core.proofs.Touches.{touched_within}
use Rattle.hive_laws.specs.FoldLaws.{FoldLaws}
use Rattle.hive_laws.proofs.OneId.{idle}
use Rattle.feed_laws.specs.Rounds.{IsRoundId, places, times}
use Rattle.feed_laws.specs.Worlds.{Round}

module _ (f : Fold) (cs : Catalog) (c : ℕ) (key : List ℕ) (stored : Option StateDoc) (held : Look (List ℕ)) where
  pub moved : (r : Round) (waiting claimed finished resting : List (List ℕ)) → IsRoundId f cs c key r stored held
      → times key waiting + (times key claimed + (times key finished + times key resting)) ≡ places key r
      → (places key r ≡ times key r.finished → times key finished ≡ times key r.finished)
      → (0 < times key finished → Clean f cs key r.target stored held)
      → IsRoundId f cs c key (record { target = r.target; waiting = waiting; claimed = claimed; finished = finished; resting = resting }) stored held
  moved r waiting claimed finished resting facts same over clean = record {
    at_most = facts.at_most;
    once = (let o : places key r ≤ 1 = facts.once in omega arith);
    which = ⊎_elim
        (λ exact. inl (exact.0, (λ is. (let e : places key r ≡ 1 = exact.1.0 is in omega arith), λ no_. (let e : places key r ≡ 0 = exact.1.1 no_ in omega arith))))
        (λ o. inr (o.0, same ∙ o.1 ∙ sym (over o.1))) facts.which;
    finished = clean;
  }

  -- a claimed id is one of the round's, which isn't over
  pub claimed_item : (r : Round) → IsRoundId f cs c key r stored held → 0 < times key r.claimed → c < touched_by cs key r.target
  claimed_item r facts is = ⊎_elim
      (λ exact. ⊎_elim (λ h. h) (λ h. let e : places key r ≡ 0 = exact.1.1 h in absurd (omega arith)) (cases_lt c (touched_by cs key r.target)))
      (λ over. let e : places key r ≡ times key r.finished = over.1 in absurd (omega arith)) facts.which

  pub claimed_open : (r : Round) → IsRoundId f cs c key r stored held → 0 < times key r.claimed → times key r.finished ≡ 0
  claimed_open r facts is = let o : places key r ≤ 1 = facts.once in omega arith

  -- where all ids of the round are done, each id is clean
  pub all_clean : FoldLaws f cs → (r : Round) → IsRoundId f cs c key r stored held → IsSoundId f cs c key stored held → places key r ≡ times key r.finished
      → Clean f cs key r.target stored held
  all_clean laws r facts sound done = ⊎_elim facts.finished
      (λ none. ⊎_elim
      (λ exact. idle f cs laws key c r.target stored held sound (let l : c < r.target = exact.0 in omega arith)
      (⊎_elim (λ h. let e : places key r ≡ 1 = exact.1.0 h in absurd (omega arith)) (λ h. h) (cases_lt c (touched_by cs key r.target))) facts.at_most)
      (λ over. let e : c ≡ r.target = over.0 in let t = touched_within (commits_of cs) key r.target in
      idle f cs laws key c r.target stored held sound (omega arith) (omega arith) facts.at_most) facts.which)
      (cases_lt 0 (times key r.finished))
