use Rattle.std.proofs.Common.{inl, inr, option_map, refl, sym, subst}
use Rattle.blob_store.specs.Plans.{Makes}
use Rattle.feed_app.specs.Openings.{NotOpened}
use Rattle.feed_app.specs.Outside.{over}
use Rattle.feed_app.specs.Spelled.{StaysSpelled}
use Rattle.feed_app.specs.declared.answer.Answer.{Answer}
use Rattle.feed_app.proofs.Closed.{allowed_by, closed_by, closed_rose, not_of_hive}
use Rattle.feed_app.proofs.Cursors.{cursor_done, tells_no_catalog}
use Rattle.feed_app.proofs.Holding.{closed_spelled, open_over, opened_spelled}
use Rattle.feed_app.proofs.OneHive.{cursor_keeps}
use Rattle.feed_app.proofs.cursor.cursor.Goals as goal

pub returns-in-Ok : goal.returns-in-Ok
returns-in-Ok g c = λ input clock.
    let given = option_map (λ t. t.now) c.args.base in
    let m = g.B.Blobs in
    let hive = c.args.hive in
    let s = m.seen c.args.stores.catalog in
    let o = c.in-Ok.catalog in
    let now = m.seen o.area in
    let left = record c.args.stores {
      catalog = c.into_area.result;
      plain = c.cursor_among-answer.new.plain;
      semver2 = c.cursor_among-answer.new.semver2;
      content = c.cursor_among-answer.new.content;
      auto = c.cursor_among-answer.new.auto;
    } in
    let opened = open_over s now o _ c.in-Ok.ensures.opened in
    let spelled = opened_spelled s now o c.in-Ok.ensures.mends.area opened c.in-Ok.ensures.moments in
    cursor_done m hive (over given c.args.stores input clock) (over given left input clock) c.cursor_among-answer.result
    (cursor_keeps m c.args.stores left (subst (λ x. StaysSpelled s (m.seen x)) (sym c.into_area.ensures) spelled) hive
    c.cursor_among-answer.ensures.others c.cursor_among-answer.ensures.same)
    c.cursor_among-answer.ensures.same
    (λ e. absurd (tells_no_catalog hive _ c.cursor_among-answer.result c.cursor_among-answer.ensures.is e))
    c.cursor_among-answer.ensures.hive_cause
    (inr (
      allowed_by given s now o c.in-Ok.ensures.opened,
      c.cursor_among-answer.ensures.is,
      record {
        opening = λ m base cs plan lawful there spells is.
            subst (λ x. Makes plan s (g.B.Blobs.seen x)) (sym c.into_area.ensures) (c.in-Ok.ensures.runs m base cs plan lawful there spells is);
        hive = c.cursor_among-answer.ensures.runs;
        got = c.cursor_among-answer.ensures.got;
      },
    ))

pub returns-in-Err : goal.returns-in-Err
returns-in-Err g c = λ input clock.
    let given = option_map (λ t. t.now) c.args.base in
    let m = g.B.Blobs in
    let hive = c.args.hive in
    let s = m.seen c.args.stores.catalog in
    let now = m.seen c.in-Err.area in
    let left = record c.args.stores { catalog = c.in-Err.area } in
    let closed = subst (λ (a : Answer). NotOpened given a s now) (sym c.of_opening.ensures)
    (closed_by given c.in-Err.error s now _ c.in-Err.ensures.missing c.in-Err.ensures.damaged c.in-Err.ensures.other_base c.in-Err.ensures.refused c.in-Err.ensures.runs_refused) in
    cursor_done m hive (over given c.args.stores input clock) (over given left input clock) c.of_opening.result
    (cursor_keeps m c.args.stores left (closed_spelled s now _ _ c.in-Err.ensures.mends_refused c.in-Err.ensures.refused c.in-Err.ensures.moments_refused)
    hive (λ other not. refl) refl) refl
    (closed_rose c.in-Err.error s now c.of_opening.result c.of_opening.ensures c.in-Err.ensures.mends_refused) (not_of_hive given c.of_opening.result s now hive closed)
    (inl (closed, refl))
