use Rattle.std.proofs.Common.{◌⊎◌, Ok, Err, inl, inr, option_map, refl, sym, subst}
use Rattle.catalog_doc.specs.declared.change.Committed.{Committed}
use Rattle.catalog_core.specs.Opened.{IsUnsettled}
use Rattle.catalog_core.proofs.Outcomes.{err_damage}
use Rattle.commit_plan.specs.Lookups.{IsLastDamaged}
use Rattle.feed_app.specs.Damages.{NamesLeaf}
use Rattle.feed_app.specs.Openings.{NotOpened}
use Rattle.feed_app.specs.declared.answer.Answer.{Answer}
use Rattle.feed_app.proofs.Closed.{allowed_by, closed_by}
use Rattle.feed_app.proofs.Endings.{commit_leaf, commits_behind}
use Rattle.feed_app.proofs.Holding.{closed_spelled, open_over, opened_spelled}
use Rattle.feed_app.proofs.committing.commit_into.Goals as goal

pub returns-in-Err-clause-ends : goal.returns-in-Err-clause-ends
returns-in-Err-clause-ends g c =
    let s = g.B.Blobs.seen c.args.area in
    let now = g.B.Blobs.seen c.in-Err.area in
    let given = option_map (λ t. t.now) c.args.base in
    let closed = subst (λ (a : Answer). NotOpened given a s now) (sym c.of_opening.ensures)
    (closed_by given c.in-Err.error s now _ c.in-Err.ensures.missing c.in-Err.ensures.damaged c.in-Err.ensures.other_base c.in-Err.ensures.refused c.in-Err.ensures.runs_refused) in
    inl (closed, closed_spelled s now _ _ c.in-Err.ensures.mends_refused c.in-Err.ensures.refused c.in-Err.ensures.moments_refused, refl)

pub returns-in-Ok-commit-clause-ends : goal.returns-in-Ok-commit-clause-ends
returns-in-Ok-commit-clause-ends g c =
    let s = g.B.Blobs.seen c.args.area in
    let now = g.B.Blobs.seen c.in-Ok.catalog.area in
    let opened = open_over s now c.in-Ok.catalog _ c.in-Ok.ensures.opened in
    let spelled = opened_spelled s now c.in-Ok.catalog c.in-Ok.ensures.mends.area opened c.in-Ok.ensures.moments in
    rw c.into_area.ensures (inr (
      allowed_by (option_map (λ t. t.now) c.args.base) s now c.in-Ok.catalog c.in-Ok.ensures.opened,
      c.moment-now.result,
      Ok c.in-Ok-commit.done,
      c.moment-now.ensures,
      refl,
      commits_behind s now _ c.in-Ok.catalog c.commit.new.self c.args.changes.now c.moment-now.result
          (Ok c.in-Ok-commit.done) spelled opened c.commit.ensures.base c.in-Ok-commit.ensures.commits c.commit.ensures.moments
          c.in-Ok.ensures.settled c.in-Ok.ensures.runs c.in-Ok-commit.ensures.runs c.commit.ensures.lawful (λ m later told left. tt),
    ))

pub returns-in-Err-commit-clause-ends : goal.returns-in-Err-commit-clause-ends
returns-in-Err-commit-clause-ends g c =
    let s = g.B.Blobs.seen c.args.area in
    let now = g.B.Blobs.seen c.in-Ok.catalog.area in
    let opened = open_over s now c.in-Ok.catalog _ c.in-Ok.ensures.opened in
    let spelled = opened_spelled s now c.in-Ok.catalog c.in-Ok.ensures.mends.area opened c.in-Ok.ensures.moments in
    rw c.into_area-in-Err-commit.ensures (inr (
      allowed_by (option_map (λ t. t.now) c.args.base) s now c.in-Ok.catalog c.in-Ok.ensures.opened,
      c.moment-now.result,
      Err c.in-Err-commit.error,
      c.moment-now.ensures,
      c.of_commit.ensures,
      commits_behind s now _ c.in-Ok.catalog c.commit.new.self c.args.changes.now c.moment-now.result
          (Err c.in-Err-commit.error) spelled opened c.commit.ensures.base c.in-Err-commit.ensures.commits c.commit.ensures.moments
          c.in-Ok.ensures.settled c.in-Ok.ensures.runs c.in-Err-commit.ensures.runs c.commit.ensures.lawful
          (λ m later told left. err_damage {C = Committed} (λ name. IsUnsettled m c.in-Ok.catalog name ⊎ IsLastDamaged later c.commit.new.self.base c.commit.new.self.kept.rows name)
          NamesLeaf c.in-Err-commit.error (Err c.in-Err-commit.error) refl
          (λ name. commit_leaf c.in-Ok.catalog m later c.commit.new.self.base c.commit.new.self.kept.rows name c.in-Ok.ensures.settled)
          (c.in-Err-commit.ensures.damaged m later told left)),
    ))
