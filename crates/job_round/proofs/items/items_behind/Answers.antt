use Rattle.std.proofs.Common.{List, ap, subst, ◌∙◌, Err, arith}
use Rattle.std.proofs.lemmas.List.{take_all}
use Rattle.std.proofs.lemmas.Result.{err_from_is_err_and}
use Rattle.std.specs.List.{filter}
use Rattle.id_pass.specs.Placing.{all_as_placed}
use Rattle.blob_store.specs.Plans.{Makes}
use Rattle.blob_store.proofs.OneCall.{none}
use Rattle.catalog_doc.specs.declared.row.Row.{Row}
use Rattle.job_round.specs.Items.{is_behind}
use Rattle.job_round.specs.Reads.{leaf_of, leaves_behind}
use Rattle.job_round.specs.declared.stop.Stop.TheVariants.{Memory}
use Rattle.job_round.proofs.Placing.{all_taken, row_added, row_skipped, there}
use Rattle.job_round.proofs.Reading.{kept_still, leaves_added, leaves_skipped, leaves_stopped, own_row, reads_behind, reads_told}
use Rattle.job_round.proofs.Staying.{memory_quiet, quiet_ok, stays_next, stays_on, stays_still, stays_well, went_well}
use Rattle.job_round.proofs.items.items_behind.Goals as goal

pub loop-row-init : goal.loop-row-init
loop-row-init g c = record {
  stays = stays_still _ _ _ (g.met.B.Blobs.now c.args.catalog.now.area) (quiet_ok tt);
  items_are = λ cs xs is_open of same. ap all_as_placed c.new-items.ensures;
  read = λ settled kept. none (g.B.Blobs.seen c.args.catalog.now.area) (g.met.B.Blobs.now c.args.catalog.now.area);
}

pub returns-in_err-item-clause-stays : goal.returns-in_err-item-clause-stays
returns-in_err-item-clause-stays g c =
    let p = err_from_is_err_and c.from_residual.result c.from_residual.ensures.1 in
    stays_next _ _ _ _ _ _ tt c.from_residual.result c.loop-row.invariant.stays (stays_on _ _ _ _ c.in_err-item.field-0.0 c.from_residual.result (p.1 ∙ ap Err p.2) c.in_err-item.ensures.stays)

pub loop-row-preserved-then-row-at : goal.loop-row-preserved-then-row-at
loop-row-preserved-then-row-at g c = record {
  stays = c.loop-row.invariant.stays;
  items_are = λ cs xs is_open of same.
      row_skipped c.args.rows.now c.args.at c.loop-row.row-index c.row-item.result c.loop-row-test.true c.row-item.is xs same c.loop-row.items (omega (arith, c.if-row-at.true))
      (c.loop-row.invariant.items_are cs xs is_open of same);
  read = λ settled kept.
      leaves_skipped c.args.rows.now c.args.at c.loop-row.row-index c.row-item.result c.loop-row-test.true c.row-item.is
      (g.B.Blobs.seen c.args.catalog.now.area) (g.B.Blobs.seen c.loop-row.catalog.area) (omega (arith, c.if-row-at.true)) (c.loop-row.invariant.read settled kept);
}

pub returns-in_err-push-clause-stays : goal.returns-in_err-push-clause-stays
returns-in_err-push-clause-stays g c =
    let p = err_from_is_err_and c.from_residual-in_err-push.result c.from_residual-in_err-push.ensures.1 in
    stays_next _ _ _ _ _ _ tt c.from_residual-in_err-push.result c.loop-row.invariant.stays
    (stays_well _ _ _ _ c.in_ok-item.item _ (memory_quiet c.from_residual-in_err-push.result (p.1 ∙ ap Err p.2)) c.in_ok-item.ensures.stays)

pub loop-row-preserved : goal.loop-row-preserved
loop-row-preserved g c = record {
  stays = stays_next _ _ _ _ _ _ tt went_well c.loop-row.invariant.stays (stays_well _ _ _ _ c.in_ok-item.item went_well (quiet_ok tt) c.in_ok-item.ensures.stays);
  items_are = λ cs xs is_open of same.
      let at = there c.args.rows.now c.args.at c.loop-row.row-index c.row-item.result c.loop-row-test.true c.row-item.is xs same in
      row_added c.args.rows.now c.args.at c.loop-row.row-index c.row-item.result c.loop-row-test.true c.row-item.is xs same c.loop-row.items c.push.new.self c.in_ok-item.item
      (omega (arith, c.if-row-at.false)) (c.loop-row.invariant.items_are cs xs is_open of same)
      (λ one. c.in_ok-item.ensures.item cs at.0 (c.loop-row.invariant.stays.open_for cs is_open).open_for (of at.0 one) at.3)
      c.in_ok-push.ensures.ok;
  read = λ settled kept.
      leaves_added c.args.rows.now c.args.at c.loop-row.row-index c.row-item.result c.loop-row-test.true c.row-item.is
      (g.B.Blobs.seen c.args.catalog.now.area) (g.B.Blobs.seen c.loop-row.catalog.area) (g.B.Blobs.seen c.item_of.new.catalog.area) (omega (arith, c.if-row-at.false))
      (c.loop-row.invariant.read settled kept)
      (c.in_ok-item.ensures.reads (c.loop-row.invariant.stays.settled settled).0
      (kept_still c.args.catalog.now c.loop-row.catalog c.args.rows.now c.row-item.result (c.loop-row.invariant.stays.kept settled) kept
      (own_row c.args.rows.now c.args.at c.loop-row.row-index c.row-item.result c.loop-row-test.true c.row-item.is)));
}

pub returns-in_err-item-clause-reads : goal.returns-in_err-item-clause-reads
returns-in_err-item-clause-reads g c = λ settled kept.
    let p = err_from_is_err_and c.from_residual.result c.from_residual.ensures.1 in
    reads_told (leaves_behind c.args.at c.args.rows.now) (g.B.Blobs.seen c.args.catalog.now.area) (g.B.Blobs.seen c.item_of.new.catalog.area) c.in_err-item.field-0.0 c.from_residual.result (p.1 ∙ ap Err p.2)
    (leaves_stopped c.args.rows.now c.args.at c.loop-row.row-index c.row-item.result c.loop-row-test.true c.row-item.is c.in_err-item.field-0.0
    (g.B.Blobs.seen c.args.catalog.now.area) (g.B.Blobs.seen c.loop-row.catalog.area) (g.B.Blobs.seen c.item_of.new.catalog.area) (omega (arith, c.if-row-at.false))
    (c.loop-row.invariant.read settled kept)
    (c.in_err-item.ensures.reads (c.loop-row.invariant.stays.settled settled).0
    (kept_still c.args.catalog.now c.loop-row.catalog c.args.rows.now c.row-item.result (c.loop-row.invariant.stays.kept settled) kept
    (own_row c.args.rows.now c.args.at c.loop-row.row-index c.row-item.result c.loop-row-test.true c.row-item.is))))

pub returns-in_err-item-clause-cause : goal.returns-in_err-item-clause-cause
returns-in_err-item-clause-cause g c = λ settled kept.
    let p = err_from_is_err_and c.from_residual.result c.from_residual.ensures.1 in
    rw (p.1, p.2) (c.in_err-item.ensures.cause (c.loop-row.invariant.stays.settled settled).0
    (kept_still c.args.catalog.now c.loop-row.catalog c.args.rows.now c.row-item.result (c.loop-row.invariant.stays.kept settled) kept
    (own_row c.args.rows.now c.args.at c.loop-row.row-index c.row-item.result c.loop-row-test.true c.row-item.is)))

pub returns-in_err-push-clause-reads : goal.returns-in_err-push-clause-reads
returns-in_err-push-clause-reads g c = λ settled kept.
    let p = err_from_is_err_and c.from_residual-in_err-push.result c.from_residual-in_err-push.ensures.1 in
    reads_told (leaves_behind c.args.at c.args.rows.now) (g.B.Blobs.seen c.args.catalog.now.area) (g.B.Blobs.seen c.item_of.new.catalog.area) Memory c.from_residual-in_err-push.result (p.1 ∙ ap Err p.2)
    (leaves_stopped c.args.rows.now c.args.at c.loop-row.row-index c.row-item.result c.loop-row-test.true c.row-item.is Memory
    (g.B.Blobs.seen c.args.catalog.now.area) (g.B.Blobs.seen c.loop-row.catalog.area) (g.B.Blobs.seen c.item_of.new.catalog.area) (omega (arith, c.if-row-at.false))
    (c.loop-row.invariant.read settled kept)
    (reads_behind (leaf_of c.row-item.result) (g.B.Blobs.seen c.loop-row.catalog.area) (g.B.Blobs.seen c.item_of.new.catalog.area)
    (c.in_ok-item.ensures.reads (c.loop-row.invariant.stays.settled settled).0
    (kept_still c.args.catalog.now c.loop-row.catalog c.args.rows.now c.row-item.result (c.loop-row.invariant.stays.kept settled) kept
    (own_row c.args.rows.now c.args.at c.loop-row.row-index c.row-item.result c.loop-row-test.true c.row-item.is))) (λ n. ⊥) Memory tt))

pub returns-clause-reads : goal.returns-clause-reads
returns-clause-reads g c = λ settled kept.
    subst (λ (l : List Row). Makes (leaves_behind c.args.at l) (g.B.Blobs.seen c.args.catalog.now.area) (g.B.Blobs.seen c.loop-row.catalog.area))
    (take_all c.loop-row.row-index c.args.rows.now c.loop-row-test.false) (c.loop-row.invariant.read settled kept)

pub returns-clause-items : goal.returns-clause-items
returns-clause-items g c = λ cs xs is_open of same.
    c.loop-row.invariant.items_are cs xs is_open of same ∙ ap (filter (is_behind c.args.at)) (all_taken c.args.rows.now c.loop-row.row-index xs same c.loop-row-test.false)
