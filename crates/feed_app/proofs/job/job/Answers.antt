use Rattle.std.proofs.Common.{inl, inr, option_map, refl, sym, subst}
use Rattle.feed_base.specs.Counts.{HasRisen}
use Rattle.job_round.specs.Answers.{IsLostInCatalog, IsLostInHive}
use Rattle.feed_app.specs.Damages.{IsLostOfHive, IsUnread}
use Rattle.feed_app.specs.Hives.{hive_fold}
use Rattle.feed_app.specs.Jobs.{MadeOver, RoundMade}
use Rattle.feed_app.specs.Openings.{NotOpened}
use Rattle.feed_app.specs.Outside.{by_hive_name, over}
use Rattle.feed_app.specs.Spelled.{IsSpelled, StaysSpelled}
use Rattle.feed_app.specs.declared.answer.Answer.{Answer}
use Rattle.feed_app.proofs.Closed.{allowed_by, closed_by, closed_rose, not_of_hive}
use Rattle.feed_app.proofs.Holding.{closed_spelled, fault_rose, open_over, opened_spelled, then_spelled}
use Rattle.feed_app.proofs.Jobs.{answers_as, job_done}
use Rattle.feed_app.proofs.OneHive.{job_keeps}
use Rattle.feed_app.proofs.Unread.{gone, unread}
use Rattle.feed_app.proofs.job.job.Goals as goal

pub returns-in-Ok : goal.returns-in-Ok
returns-in-Ok g c = λ input clock.
    let given = option_map (λ t. t.now) c.args.base in
    let m = g.B.Blobs in
    let hive = c.args.hive in
    let s = m.seen c.args.stores.catalog in
    let o = c.in-Ok.catalog in
    let now = m.seen o.area in
    let left_open = c.job_of-answer.new.catalog in
    let later = m.seen left_open.area in
    let left = record c.args.stores {
      catalog = c.into_area.result;
      plain = c.job_of-answer.new.plain;
      semver2 = c.job_of-answer.new.semver2;
      content = c.job_of-answer.new.content;
      auto = c.job_of-answer.new.auto;
    } in
    let old = m.seen (by_hive_name c.args.stores.plain c.args.stores.semver2 c.args.stores.content c.args.stores.auto hive) in
    let new = m.seen (by_hive_name left.plain left.semver2 left.content left.auto hive) in
    let opened = open_over s now o _ c.in-Ok.ensures.opened in
    let spelled = opened_spelled s now o c.in-Ok.ensures.mends.area opened c.in-Ok.ensures.moments in
    job_done m hive (over given c.args.stores input clock) (over given left input clock) c.job_of-answer.result
    (job_keeps m c.args.stores left
    (subst (λ x. StaysSpelled s (m.seen x)) (sym c.into_area.ensures) (then_spelled s now _ o _ _ spelled opened c.job_of-answer.ensures.stays))
    hive c.job_of-answer.ensures.others)
    (λ e. subst (λ x. HasRisen s.faults (m.seen x).faults) (sym c.into_area.ensures)
    (fault_rose s now _ _ c.in-Ok.ensures.mends c.job_of-answer.ensures.stays.mends e))
    c.job_of-answer.ensures.hive_cause
    (inr (
      allowed_by given s now o c.in-Ok.ensures.opened,
      answers_as hive (RoundMade (hive_fold hive o.base) o left_open now later old new) (MadeOver m hive s (m.seen left.catalog) old new)
          (IsLostInCatalog o left_open now later) (IsLostInHive o now new.held)
          (IsUnread s.held) (IsLostOfHive (IsSpelled s) new.held)
          (λ r made. record {
            opened = o;
            left = left_open;
            spelled = opened;
            opening = λ m_ base cs plan lawful held spells is. c.in-Ok.ensures.runs m_ base cs plan lawful held spells is;
            made = subst (λ x. RoundMade (hive_fold hive o.base) o left_open now (m.seen x) old new r) (sym c.into_area.ensures) made;
          })
          (λ name lost. unread o left_open now later c.in-Ok.ensures.settled c.job_of-answer.ensures.stays name lost s.held
          c.in-Ok.ensures.mends.area)
          (gone s o now opened new.held) c.job_of-answer.result (c.job_of-answer.ensures.is c.in-Ok.ensures.settled),
    ))

pub returns-in-Err : goal.returns-in-Err
returns-in-Err g c = λ input clock.
    let given = option_map (λ t. t.now) c.args.base in
    let m = g.B.Blobs in
    let hive = c.args.hive in
    let s = m.seen c.args.stores.catalog in
    let now = m.seen c.in-Err.area in
    let left = record c.args.stores { catalog = c.in-Err.area } in
    let closed = subst (λ (a : Answer). NotOpened given a s now) (sym c.of_opening.ensures)
    (closed_by given c.in-Err.error s now _ c.in-Err.ensures.missing c.in-Err.ensures.damaged c.in-Err.ensures.other_base c.in-Err.ensures.refused c.in-Err.ensures.runs_refused) in
    job_done m hive (over given c.args.stores input clock) (over given left input clock) c.of_opening.result
    (job_keeps m c.args.stores left (closed_spelled s now _ _ c.in-Err.ensures.mends_refused c.in-Err.ensures.refused c.in-Err.ensures.moments_refused)
    hive (λ other not. refl))
    (closed_rose c.in-Err.error s now c.of_opening.result c.of_opening.ensures c.in-Err.ensures.mends_refused) (not_of_hive given c.of_opening.result s now hive closed)
    (inl (closed, refl))
