use Rattle.std.proofs.Common.{arith, ◌≡◌, ◌<◌, ◌+◌, ◌∙◌, ◌++◌, ◌∷◌, [], List, Err, ap, inr, length, length-append, refl, subst, sym, take}
use Rattle.std.proofs.lemmas.List.{take_more}
use Rattle.std.proofs.lemmas.Result.{err_from_is_err_and}
use Rattle.blob_store.proofs.OneCall.{none}
use Rattle.catalog_doc.specs.Verdict.{already, first_reason, unfit}
use Rattle.catalog_doc.specs.declared.change.Change.{Change}
use Rattle.catalog_doc.specs.declared.error.CommitErr.TheVariants as commit
use Rattle.catalog_opening.proofs.Halting.{gets_keep}
use Rattle.catalog_rows.proofs.Places.{both_none, found_later, reason_here}
use Rattle.commit_plan.specs.Lookups.{IfDamagedCommit, IsLastDamaged, listing_gets, RefusesFor}
use Rattle.commit_plan.specs.Plans.{AreKnownFor}
use Rattle.commit_plan.specs.declared.last.LastItem.{LastItem}
use Rattle.commit_plan.proofs.Lasts.{first_for, fit_is_live, known_after, known_more}
use Rattle.commit_plan.proofs.Looking.{listing_gets-gets, looked_more, looked_out, looked_up_to, looking_told}
use Rattle.commit_plan.proofs.known.last_items.Goals as goal

pub loop-place-init : goal.loop-place-init
loop-place-init g c = record {
  made = none (g.B.Blobs.seen c.args.area.now) (g.met.B.Blobs.now c.args.area.now);
  count = ap length c.new-lasts.ensures;
  known = λ cs known fits. subst (AreKnownFor cs []) (sym c.new-lasts.ensures) tt;
  fits = λ cs fits. fits;
  seeks = λ cs known fits. refl;
}

pub returns-in_err-last-clause-runs : goal.returns-in_err-last-clause-runs
returns-in_err-last-clause-runs g c =
    let p = err_from_is_err_and c.from_residual.result c.from_residual.ensures.1 in
    looking_told c.args.rows.now.rows c.args.changes.now _ _ c.from_residual.result c.in_err-last.field-0.0 (p.1 ∙ ap Err p.2)
    (looked_up_to c.args.rows.now.rows c.args.changes.now c.loop-place.place c.index-changes-place.result c.loop-place-test.true c.index-changes-place.is
    _ (g.B.Blobs.seen c.loop-place.area) _ c.loop-place.invariant.made c.in_err-last.field-0.0 c.in_err-last.ensures.runs)

pub returns-in_err-last-clause-refused : goal.returns-in_err-last-clause-refused
returns-in_err-last-clause-refused g c = λ cs known fits.
    let changes = c.args.changes.now in
    let i = c.loop-place.place in
    let change = c.index-changes-place.result in
    let p = err_from_is_err_and c.from_residual.result c.from_residual.ensures.1 in
    let still = known_after c.args.rows.now _ (g.B.Blobs.seen c.loop-place.area) c.args.base.now cs (listing_gets c.args.rows.now.rows (take i changes))
    (listing_gets-gets c.args.rows.now.rows (take i changes)) c.loop-place.invariant.made known in
    let parts = both_none (unfit cs i (take i changes) change) _ (sym (reason_here (unfit cs) changes i change c.loop-place-test.true c.index-changes-place.is) ∙ c.loop-place.invariant.fits cs fits) in
    let live = fit_is_live cs i (take i changes) change parts.0 in
    subst (λ (r : _). RefusesFor (first_reason (already cs) [] 0 changes) r) (sym (p.1 ∙ ap Err p.2))
    (first_for (already cs) changes i change (first_reason (already cs) [] 0 changes) c.loop-place-test.true c.index-changes-place.is (c.loop-place.invariant.seeks cs known fits)
    c.in_err-last.field-0.0 (c.in_err-last.ensures.refused cs (take i changes) still live))

pub returns-in_err-last-clause-damaged : goal.returns-in_err-last-clause-damaged
returns-in_err-last-clause-damaged g c = λ m is.
    let i = c.loop-place.place in
    let p = err_from_is_err_and c.from_residual.result c.from_residual.ensures.1 in
    let same = gets_keep (listing_gets c.args.rows.now.rows (take i c.args.changes.now)) _ (g.B.Blobs.seen c.loop-place.area)
    (listing_gets-gets c.args.rows.now.rows (take i c.args.changes.now)) c.loop-place.invariant.made in
    subst (λ (r : _). IfDamagedCommit r (IsLastDamaged m c.args.base.now c.args.rows.now.rows)) (sym (p.1 ∙ ap Err p.2)) (c.in_err-last.ensures.damaged m (same ∙ is))

pub returns-in_err-push-clause-runs : goal.returns-in_err-push-clause-runs
returns-in_err-push-clause-runs g c =
    let p = err_from_is_err_and c.from_residual-in_err-push.result c.from_residual-in_err-push.ensures.1 in
    looking_told c.args.rows.now.rows c.args.changes.now _ _ c.from_residual-in_err-push.result commit.Memory (p.1 ∙ ap Err p.2)
    (inr (looked_out c.args.rows.now.rows c.args.changes.now c.loop-place.place c.index-changes-place.result c.loop-place-test.true c.index-changes-place.is
    _ (g.B.Blobs.seen c.loop-place.area) _ c.loop-place.invariant.made c.in_ok-last.ensures.runs))

pub loop-place-preserved : goal.loop-place-preserved
loop-place-preserved g c =
    let changes = c.args.changes.now in
    let i = c.loop-place.place in
    let change = c.index-changes-place.result in
    let within : i < length changes = c.loop-place-test.true in
    let own = c.index-changes-place.is in
    let lasts = c.loop-place.lasts in
    let last = c.in_ok-last.last in
    let before : take (i + 1) changes ≡ take i changes ++ change ∷ [] = take_more changes i change within ∙ ap (λ (x : Change). take i changes ++ x ∷ []) (sym own) in
    let pushed : c.push.new.self ≡ lasts ++ last ∷ [] = c.in_ok-push.ensures.ok in
    let after = λ (cs : _) (known : _). known_after c.args.rows.now _ (g.B.Blobs.seen c.loop-place.area) c.args.base.now cs (listing_gets c.args.rows.now.rows (take i changes))
    (listing_gets-gets c.args.rows.now.rows (take i changes)) c.loop-place.invariant.made known in
    record {
      made = looked_more c.args.rows.now.rows changes i change within own _ (g.B.Blobs.seen c.loop-place.area) _ c.loop-place.invariant.made c.in_ok-last.ensures.runs;
      count = omega (arith, ap length pushed, length-append lasts (last ∷ []), c.loop-place.invariant.count);
      known = λ cs known fits.
          let parts = both_none (unfit cs i (take i changes) change) _ (sym (reason_here (unfit cs) changes i change within own) ∙ c.loop-place.invariant.fits cs fits) in
          let live = fit_is_live cs i (take i changes) change parts.0 in
          subst (λ (l : List Change). AreKnownFor cs l c.push.new.self) (sym before)
          (subst (λ (ls : List LastItem). AreKnownFor cs (take i changes ++ change ∷ []) ls) (sym pushed)
          (known_more cs (take i changes) lasts change last (c.loop-place.invariant.known cs known fits) (c.in_ok-last.ensures.known cs (after cs known) live)));
      fits = λ cs fits.
          (both_none (unfit cs i (take i changes) change) _ (sym (reason_here (unfit cs) changes i change within own) ∙ c.loop-place.invariant.fits cs fits)).1;
      seeks = λ cs known fits.
          let parts = both_none (unfit cs i (take i changes) change) _ (sym (reason_here (unfit cs) changes i change within own) ∙ c.loop-place.invariant.fits cs fits) in
          let live = fit_is_live cs i (take i changes) change parts.0 in
          found_later (already cs) changes i change (first_reason (already cs) [] 0 changes) within own (c.loop-place.invariant.seeks cs known fits)
          (c.in_ok-last.ensures.refused cs (take i changes) (after cs known) live);
    }
