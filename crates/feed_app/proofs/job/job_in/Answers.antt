use Rattle.fold_core.specs.Folds.{fold_of}
use Rattle.job_round.specs.Answers.{IsLostInCatalog, IsLostInHive}
use Rattle.feed_app.specs.Jobs.{RoundMade}
use Rattle.feed_app.proofs.Jobs.{of_catalog, of_hive, rose_by, round_answers, stays_as, told_of_catalog}
use Rattle.feed_app.proofs.job.job_in.Goals as goal

pub returns-clause-is : goal.returns-clause-is
returns-clause-is g c = λ settled.
    let m = g.B.Blobs in
    let o = c.args.catalog.now in
    let old = m.seen c.args.area.now in
    let new = m.seen c.run_round-result.new.area in
    let later = c.run_round-result.new.catalog in
    round_answers c.args.hive (RoundMade (fold_of g.H.Hive.keeps g.H.Hive.makes o.base) o later (m.seen o.area) (m.seen later.area) old new)
    (IsLostInCatalog o later (m.seen o.area) (m.seen later.area)) (IsLostInHive o (m.seen o.area) new.held)
    c.run_round-result.result c.of_round.result c.of_round.ensures
    (record {
      round = record {
        settled = settled;
        runs = c.run_round-result.ensures.runs;
        reads = c.run_round-result.ensures.reads settled;
        stays = c.run_round-result.ensures.stays;
        damaged = c.run_round-result.ensures.damaged;
      };
      number = c.run_round-result.ensures.target;
      behind = c.run_round-result.ensures.done;
      idle = c.run_round-result.ensures.idle;
    }) c.run_round-result.ensures.damaged

pub returns-clause-stays : goal.returns-clause-stays
returns-clause-stays g c = stays_as c.args.catalog.now c.run_round-result.new.catalog _ _ _ _ c.run_round-result.ensures.stays
    (told_of_catalog c.args.hive c.run_round-result.result c.of_round.result c.of_round.ensures)
    (of_catalog c.args.hive c.run_round-result.result c.of_round.result c.of_round.ensures)

pub returns-clause-hive_cause : goal.returns-clause-hive_cause
returns-clause-hive_cause g c = λ is. rose_by _ _ _ c.run_round-result.ensures.counts
    (of_hive c.args.hive c.run_round-result.result c.of_round.result c.of_round.ensures is)
