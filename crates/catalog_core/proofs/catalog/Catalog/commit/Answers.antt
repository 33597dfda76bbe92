use Rattle.std.proofs.Common.{◌≡◌, ◌∙◌, ◌⊎◌, List, [], Err, Option, Some, None, ap, inl, inr, refl, subst, sym, ℕ}
use Rattle.blob_store.proofs.Moments.{started}
use Rattle.catalog_doc.specs.CatDocs.{all_rows}
use Rattle.catalog_doc.specs.Verdict.{refusal}
use Rattle.catalog_doc.specs.declared.change.Change.{Change}
use Rattle.catalog_doc.specs.declared.error.CommitErr.{CommitErr}
use Rattle.catalog_laws.specs.Values.{AreChangeValues}
use Rattle.catalog_rows.specs.Reasons.{misshapen}
use Rattle.catalog_rows.proofs.Places.{or_first, parts}
use Rattle.commit_plan.specs.Lookups.{IfDamagedRefusal, IsLastDamaged}
use Rattle.commit_plan.proofs.Lasts.{damage_for, is_for}
use Rattle.commit_plan.proofs.Looking.{unlooked}
use Rattle.catalog_core.specs.Committing.{IsSettledBy, RunsCommit, SettlesIf, SettlesUnless}
use Rattle.catalog_core.specs.Opened.{IsReady, IsUnsettled}
use Rattle.catalog_core.proofs.Frames.{known_store}
use Rattle.catalog_core.proofs.Outcomes.{lawful_with, more_damage, read_damage, runs_behind, runs_refused, runs_unsettled, unsettled_at}
use Rattle.catalog_core.proofs.catalog.Catalog.commit.Goals as goal

pub returns-in-Some-clause-runs : goal.returns-in-Some-clause-runs
returns-in-Some-clause-runs g c = λ cs open_for.
    let changes = c.args.changes.now in
    let a = g.B.Blobs.seen c.args.self.now.area in
    let own : misshapen changes ≡ Some c.in-Some.error = ap misshapen (sym c.as_slice-list.ensures) ∙ sym c.shape_refusal.ensures.exact ∙ c.in-Some.is in
    let reason : refusal cs changes ≡ Some c.in-Some.error = parts cs changes ∙ or_first (misshapen changes) _ c.in-Some.error own in
    let kind = c.in-Some.ensures.kind in (
      [],
      subst (λ (found : Option CommitErr). IsSettledBy c.args.self.now cs found []) (sym own) refl,
      runs_refused c.args.self.now.base cs changes c.args.now a a c.in-Some.error (unlooked (all_rows cs) changes a c.in-Some.error (g.met.B.Blobs.now c.args.self.now.area) kind)
          (is_for (refusal cs changes) c.in-Some.error kind reason),
    )

pub returns-in-Some-clause-moments : goal.returns-in-Some-clause-moments
returns-in-Some-clause-moments g c = λ cs open_for.
    let store = known_store _ _ cs open_for in
    started (g.B.Blobs.seen c.args.self.now.area) store.0 _ (g.met.B.Blobs.now c.args.self.now.area) store.1 (inl store.2)

pub returns-in-Ok-clause-runs : goal.returns-in-Ok-clause-runs
returns-in-Ok-clause-runs g c = λ cs open_for.
    let changes = c.args.changes.now in
    let own : misshapen changes ≡ None = ap misshapen (sym c.as_slice-list.ensures) ∙ sym c.shape_refusal.ensures.exact ∙ c.in_default.is in
    let settling = c.in-Ok.ensures.runs cs open_for in
    let ready : IsReady c.settle.new.self (g.B.Blobs.seen c.settle.new.self.area) cs = record { settled = c.in-Ok.ensures.settled; open_for = (c.in-Ok.ensures.stays.open_for cs open_for).open_for } in
    let runs = c.commit_settled.ensures.runs cs ready in (
      settling.0,
      subst (λ (found : Option CommitErr). IsSettledBy c.args.self.now cs found settling.0) (sym own) settling.1,
      runs_behind settling.0 c.args.self.now.base cs changes c.args.now (g.B.Blobs.seen c.args.self.now.area) (g.B.Blobs.seen c.settle.new.self.area) (g.B.Blobs.seen c.commit_settled.new.self.area)
          c.commit_settled.result settling.2
          (subst (λ (l : List Change). RunsCommit [] c.args.self.now.base cs l c.args.now (g.B.Blobs.seen c.settle.new.self.area) (g.B.Blobs.seen c.commit_settled.new.self.area) c.commit_settled.result) c.as_slice-list.ensures
          (subst (λ (base : List ℕ). RunsCommit [] base cs c.as_slice-list.result.now c.args.now (g.B.Blobs.seen c.settle.new.self.area) (g.B.Blobs.seen c.commit_settled.new.self.area) c.commit_settled.result)
          c.in-Ok.ensures.stays.base runs)),
    )

pub returns-in-Ok-clause-damaged : goal.returns-in-Ok-clause-damaged
returns-in-Ok-clause-damaged g c = λ m now held after.
    more_damage _ (λ name. IsUnsettled m c.args.self.now name ⊎ IsLastDamaged now c.commit_settled.new.self.base c.commit_settled.new.self.kept.rows name) c.commit_settled.result (λ name here. inr here)
    (c.commit_settled.ensures.damaged now after)

pub returns-in-Err-clause-runs : goal.returns-in-Err-clause-runs
returns-in-Err-clause-runs g c = λ cs open_for.
    let changes = c.args.changes.now in
    let a = g.B.Blobs.seen c.args.self.now.area in
    let b = g.B.Blobs.seen c.settle.new.self.area in
    let own : misshapen changes ≡ None = ap misshapen (sym c.as_slice-list.ensures) ∙ sym c.shape_refusal.ensures.exact ∙ c.in_default.is in
    let settling = c.in-Err.ensures.runs cs open_for in (
      settling.0,
      subst (λ (found : Option CommitErr). IsSettledBy c.args.self.now cs found settling.0) (sym own) settling.1,
      subst (λ (error : CommitErr). RunsCommit settling.0 c.args.self.now.base cs changes c.args.now a b (Err error)) (sym c.commit_err_for.ensures)
          (runs_unsettled settling.0 c.args.self.now.base cs changes c.args.now a b c.in-Err.error settling.2 (c.in-Err.ensures.whole cs open_for)),
    )

pub returns-in-Err-clause-damaged : goal.returns-in-Err-clause-damaged
returns-in-Err-clause-damaged g c = λ m now held after.
    let P = λ (name : List ℕ). IsUnsettled m c.args.self.now name ⊎ IsLastDamaged now c.settle.new.self.base c.settle.new.self.kept.rows name in
    subst (λ (error : CommitErr). IfDamagedRefusal error P) (sym c.commit_err_for.ensures)
    (damage_for P c.in-Err.error (read_damage (IsUnsettled m c.args.self.now) P c.in-Err.error (λ name here. inl here) (c.in-Err.ensures.damaged m held)))

pub returns-in-Some-clause-settled : goal.returns-in-Some-clause-settled
returns-in-Some-clause-settled g c =
    let own : misshapen c.args.changes.now ≡ Some c.in-Some.error = ap misshapen (sym c.as_slice-list.ensures) ∙ sym c.shape_refusal.ensures.exact ∙ c.in-Some.is in
    subst (λ (found : Option CommitErr). SettlesUnless found c.args.self.now.settled c.args.self.now.settled (Err c.in-Some.error)) (sym own) refl

pub returns-in-Ok-clause-settled : goal.returns-in-Ok-clause-settled
returns-in-Ok-clause-settled g c =
    let own : misshapen c.args.changes.now ≡ None = ap misshapen (sym c.as_slice-list.ensures) ∙ sym c.shape_refusal.ensures.exact ∙ c.in_default.is in
    subst (λ (found : Option CommitErr). SettlesUnless found c.args.self.now.settled c.commit_settled.new.self.settled c.commit_settled.result) (sym own)
    (c.commit_settled.ensures.settled c.in-Ok.ensures.settled)

pub returns-in-Err-clause-settled : goal.returns-in-Err-clause-settled
returns-in-Err-clause-settled g c =
    let own : misshapen c.args.changes.now ≡ None = ap misshapen (sym c.as_slice-list.ensures) ∙ sym c.shape_refusal.ensures.exact ∙ c.in_default.is in
    subst (λ (found : Option CommitErr). SettlesUnless found c.args.self.now.settled c.settle.new.self.settled (Err c.commit_err_for.result)) (sym own)
    (subst (λ (error : CommitErr). SettlesIf c.settle.new.self.settled (Err error)) (sym c.commit_err_for.ensures) (unsettled_at c.settle.new.self.settled c.in-Err.error))

pub returns-in-Some-clause-lawful : goal.returns-in-Some-clause-lawful
returns-in-Some-clause-lawful g c = λ cs whole taken.
    lawful_with cs c.args.changes.now c.args.now whole (subst AreChangeValues c.as_slice-list.ensures c.see_changes.ensures) c.see_moment.ensures taken

pub returns-in-Ok-clause-lawful : goal.returns-in-Ok-clause-lawful
returns-in-Ok-clause-lawful g c = λ cs whole taken.
    lawful_with cs c.args.changes.now c.args.now whole (subst AreChangeValues c.as_slice-list.ensures c.see_changes.ensures) c.see_moment.ensures taken

pub returns-in-Err-clause-lawful : goal.returns-in-Err-clause-lawful
returns-in-Err-clause-lawful g c = λ cs whole taken.
    lawful_with cs c.args.changes.now c.args.now whole (subst AreChangeValues c.as_slice-list.ensures c.see_changes.ensures) c.see_moment.ensures taken
