use Rattle.std.proofs.Common.{inl, inr, option_map, refl, sym, subst}
use Rattle.feed_base.specs.Counts.{HasRisen}
use Rattle.feed_routes.specs.Cuts.{target_path}
use Rattle.feed_app.specs.declared.hives.ServedHive.TheVariants as the
use Rattle.feed_app.specs.Hives.{hive_name, hive_stores}
use Rattle.feed_app.specs.Openings.{NotOpened}
use Rattle.feed_app.specs.Outside.{over}
use Rattle.feed_app.specs.Spelled.{HasCatalog, IsOpenAs, StaysSpelled}
use Rattle.feed_app.specs.declared.answer.Answer.{Answer}
use Rattle.feed_app.proofs.Behind.{get_calls}
use Rattle.feed_app.proofs.Closed.{allowed_by, closed_by, closed_rose, not_of_hive}
use Rattle.feed_app.proofs.Gets.{explains, reads_as}
use Rattle.feed_app.proofs.Holding.{closed_spelled, fault_rose, open_over, opened_spelled, then_spelled}
use Rattle.feed_app.proofs.Places.{kept}
use Rattle.feed_app.proofs.get.get.Goals as goal

pub returns-in-Ok : goal.returns-in-Ok
returns-in-Ok g c = λ input clock.
    let given = option_map (λ t. t.now) c.args.base in
    let s = g.B.Blobs.seen c.args.stores.catalog in
    let now = g.B.Blobs.seen c.in-Ok.catalog.area in
    let left = record c.args.stores {
      catalog = c.into_area.result;
      plain = c.document-answer.new.plain;
      semver2 = c.document-answer.new.semver2;
      content = c.document-answer.new.content;
    } in
    let opened = open_over s now c.in-Ok.catalog _ c.in-Ok.ensures.opened in
    let spelled = opened_spelled s now c.in-Ok.catalog c.in-Ok.ensures.mends.area opened c.in-Ok.ensures.moments in
    let is = inr (
      allowed_by given s now c.in-Ok.catalog c.in-Ok.ensures.opened,
      reads_as g.B.Blobs c.document-answer.result c.args.path.now (IsOpenAs c.in-Ok.catalog now) (HasCatalog s)
          (hive_stores c.args.stores) (hive_stores left) opened c.document-answer.ensures.is,
      get_calls g.B.Blobs c.document-answer.result c.args.path.now s c.in-Ok.catalog c.document-answer.new.catalog c.into_area.result
          (hive_stores c.args.stores) (hive_stores left) c.into_area.ensures opened c.in-Ok.ensures.settled c.in-Ok.ensures.runs
          c.document-answer.ensures.document c.document-answer.ensures.alone c.document-answer.ensures.asks
          c.in-Ok.ensures.mends.area (c.document-answer.ensures.absent c.in-Ok.ensures.settled),
    ) in
    record {
      keeps = record {
        catalog = subst (λ x. StaysSpelled s (g.B.Blobs.seen x)) (sym c.into_area.ensures)
            (then_spelled s now _ c.in-Ok.catalog _ _ spelled opened c.document-answer.ensures.stays);
        plain = c.document-answer.ensures.keeps the.Plain;
        semver2 = c.document-answer.ensures.keeps the.SemVer2;
        content = c.document-answer.ensures.keeps the.Content;
        auto = refl;
      };
      explains = explains g.B.Blobs c.args.path.now (over given c.args.stores input clock) (over given left input clock) given c.document-answer.result
          (hive_stores c.args.stores) (hive_stores left)
          (λ e. subst (λ x. HasRisen s.faults (g.B.Blobs.seen x).faults) (sym c.into_area.ensures)
          (fault_rose s now _ _ c.in-Ok.ensures.mends c.document-answer.ensures.stays.mends e))
          c.document-answer.ensures.hive_cause is;
      acts = is;
    }

pub returns-in-Err : goal.returns-in-Err
returns-in-Err g c = λ input clock.
    let given = option_map (λ t. t.now) c.args.base in
    let s = g.B.Blobs.seen c.args.stores.catalog in
    let now = g.B.Blobs.seen c.in-Err.area in
    let left = record c.args.stores { catalog = c.in-Err.area } in
    let path = target_path c.args.path.now in
    let closed = subst (λ (a : Answer). NotOpened given a s now) (sym c.of_opening.ensures)
    (closed_by given c.in-Err.error s now _ c.in-Err.ensures.missing c.in-Err.ensures.damaged c.in-Err.ensures.other_base c.in-Err.ensures.refused c.in-Err.ensures.runs_refused) in
    let is = inl (closed, λ hive. refl) in
    record {
      keeps = record {
        catalog = closed_spelled s now _ _ c.in-Err.ensures.mends_refused c.in-Err.ensures.refused c.in-Err.ensures.moments_refused;
        plain = kept g.B.Blobs path the.Plain c.args.stores.plain;
        semver2 = kept g.B.Blobs path the.SemVer2 c.args.stores.semver2;
        content = kept g.B.Blobs path the.Content c.args.stores.content;
        auto = refl;
      };
      explains = explains g.B.Blobs c.args.path.now (over given c.args.stores input clock) (over given left input clock) given c.of_opening.result (hive_stores c.args.stores)
          (hive_stores left)
          (closed_rose c.in-Err.error s now c.of_opening.result c.of_opening.ensures c.in-Err.ensures.mends_refused)
          (λ hive. not_of_hive given c.of_opening.result s now (hive_name hive) closed) is;
      acts = is;
    }
