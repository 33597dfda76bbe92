use Rattle.std.proofs.Common.{ap, ◌∙◌, Err, Ok, List, map, subst}
use Rattle.std.proofs.lemmas.List.{take_all}
use Rattle.std.proofs.lemmas.Result.{err_from_is_err_and}
use Rattle.catalog_core.specs.Opened.{IsOpenFor}
use Rattle.fold_core.specs.Folds.{fold_of}
use Rattle.blob_store.proofs.OneCall.{none}
use Rattle.job_round.specs.Ids.{key_of_id}
use Rattle.job_round.specs.Plans.{AreTold, PassesMade}
use Rattle.job_round.specs.Reads.{PassesRead}
use Rattle.job_round.specs.declared.ids.IdRows.{IdRows}
use Rattle.job_round.proofs.Passing.{next_pass, pass_stopped, passes_none}
use Rattle.job_round.proofs.ReadPasses.{next_read, read_none, read_stopped}
use Rattle.job_round.proofs.Staying.{quiet_ok, stays_next, stays_on, stays_still, went_well}
use Rattle.job_round.proofs.Taking.{next_of, next_read_of, own_of}
use Rattle.job_round.proofs.passes.passes.Goals as goal

pub loop-id-init : goal.loop-id-init
loop-id-init g c = record {
  stays = stays_still _ _ went_well (g.met.B.Blobs.now c.args.catalog.now.area) (quiet_ok tt);
  made = λ n. passes_none (fold_of g.H.Hive.keeps g.H.Hive.makes c.args.catalog.now.base) (AreTold n c.args.ids.now (IsOpenFor c.args.catalog.now (g.B.Blobs.seen c.args.catalog.now.area))) n c.args.target
      (g.B.Blobs.seen c.args.area.now) (none (g.B.Blobs.seen c.args.area.now) (g.met.B.Blobs.now c.args.area.now));
  read = λ n settled own.
      read_none (fold_of g.H.Hive.keeps g.H.Hive.makes c.args.catalog.now.base) (AreTold n c.args.ids.now (IsOpenFor c.args.catalog.now (g.B.Blobs.seen c.args.catalog.now.area))) n c.args.target
      c.args.catalog.now.kept.rows (g.B.Blobs.seen c.args.area.now) (g.B.Blobs.seen c.args.catalog.now.area)
      (none (g.B.Blobs.seen c.args.area.now) (g.met.B.Blobs.now c.args.area.now)) (none (g.B.Blobs.seen c.args.catalog.now.area) (g.met.B.Blobs.now c.args.catalog.now.area));
}

pub returns-in_err-pass-clause-stays : goal.returns-in_err-pass-clause-stays
returns-in_err-pass-clause-stays g c =
    let p = err_from_is_err_and c.from_residual.result c.from_residual.ensures.1 in
    stays_next _ _ _ _ _ _ tt c.from_residual.result c.loop-id.invariant.stays (stays_on _ _ _ _ c.in_err-pass.field-0.0 c.from_residual.result (p.1 ∙ ap Err p.2) c.in_err-pass.ensures.stays)

pub returns-in_err-pass-clause-runs : goal.returns-in_err-pass-clause-runs
returns-in_err-pass-clause-runs g c = λ n.
    let p = err_from_is_err_and c.from_residual.result c.from_residual.ensures.1 in
    pass_stopped (fold_of g.H.Hive.keeps g.H.Hive.makes c.args.catalog.now.base) (AreTold n c.args.ids.now (IsOpenFor c.args.catalog.now (g.B.Blobs.seen c.args.catalog.now.area))) n c.args.target
    c.args.ids.now c.loop-id.id-index c.id-item.result c.loop-id-test.true c.id-item.is c.in_err-pass.field-0.0 c.from_residual.result
    (g.B.Blobs.seen c.args.area.now) (g.B.Blobs.seen c.loop-id.area) (g.B.Blobs.seen c.pass.new.area) (p.1 ∙ ap Err p.2) (c.loop-id.invariant.made n)
    (next_of {A = Unit {0}} g.H.Hive.keeps g.H.Hive.makes c.args.catalog.now c.loop-id.catalog (g.B.Blobs.seen c.args.catalog.now.area) (g.B.Blobs.seen c.loop-id.catalog.area) c.args.ids.now c.loop-id.id-index c.id-item.result n c.args.target
    (g.B.Blobs.seen c.loop-id.area) (g.B.Blobs.seen c.pass.new.area) (Err c.in_err-pass.field-0.0) c.loop-id-test.true c.id-item.is c.loop-id.invariant.stays (c.in_err-pass.ensures.runs n))

pub returns-in_err-pass-clause-cause : goal.returns-in_err-pass-clause-cause
returns-in_err-pass-clause-cause g c = λ n settled own.
    let p = err_from_is_err_and c.from_residual.result c.from_residual.ensures.1 in
    rw (p.1, p.2) (c.in_err-pass.ensures.cause n (c.loop-id.invariant.stays.settled settled).0
    (own_of c.args.catalog.now c.loop-id.catalog n c.args.ids.now c.loop-id.id-index c.id-item.result c.loop-id-test.true c.id-item.is (c.loop-id.invariant.stays.kept settled) own))

pub returns-in_err-pass-clause-reads : goal.returns-in_err-pass-clause-reads
returns-in_err-pass-clause-reads g c = λ n settled own.
    let p = err_from_is_err_and c.from_residual.result c.from_residual.ensures.1 in
    read_stopped (fold_of g.H.Hive.keeps g.H.Hive.makes c.args.catalog.now.base) (AreTold n c.args.ids.now (IsOpenFor c.args.catalog.now (g.B.Blobs.seen c.args.catalog.now.area))) n c.args.target
    c.args.catalog.now.kept.rows c.args.ids.now c.loop-id.id-index c.id-item.result c.loop-id-test.true c.id-item.is c.in_err-pass.field-0.0 c.from_residual.result
    (g.B.Blobs.seen c.args.area.now) (g.B.Blobs.seen c.loop-id.area) (g.B.Blobs.seen c.pass.new.area)
    (g.B.Blobs.seen c.args.catalog.now.area) (g.B.Blobs.seen c.loop-id.catalog.area) (g.B.Blobs.seen c.pass.new.catalog.area) (p.1 ∙ ap Err p.2) (c.loop-id.invariant.read n settled own)
    (next_read_of {A = Unit {0}} g.H.Hive.keeps g.H.Hive.makes c.args.catalog.now c.loop-id.catalog (g.B.Blobs.seen c.args.catalog.now.area) (g.B.Blobs.seen c.loop-id.catalog.area) c.args.ids.now c.loop-id.id-index c.id-item.result n c.args.target
    (g.B.Blobs.seen c.loop-id.area) (g.B.Blobs.seen c.pass.new.area) (g.B.Blobs.seen c.pass.new.catalog.area) (Err c.in_err-pass.field-0.0) c.loop-id-test.true c.id-item.is c.loop-id.invariant.stays
    (c.loop-id.invariant.stays.kept settled)
    (c.in_err-pass.ensures.reads n (c.loop-id.invariant.stays.settled settled).0
    (own_of c.args.catalog.now c.loop-id.catalog n c.args.ids.now c.loop-id.id-index c.id-item.result c.loop-id-test.true c.id-item.is (c.loop-id.invariant.stays.kept settled) own)))

pub loop-id-preserved : goal.loop-id-preserved
loop-id-preserved g c = record {
  stays = stays_next _ _ _ _ _ _ tt went_well c.loop-id.invariant.stays c.in_ok-pass.ensures.stays;
  made = λ n.
      next_pass (fold_of g.H.Hive.keeps g.H.Hive.makes c.args.catalog.now.base) (AreTold n c.args.ids.now (IsOpenFor c.args.catalog.now (g.B.Blobs.seen c.args.catalog.now.area))) n c.args.target
      c.args.ids.now c.loop-id.id-index c.id-item.result c.loop-id-test.true c.id-item.is {A = Unit {0}} tt
      (g.B.Blobs.seen c.args.area.now) (g.B.Blobs.seen c.loop-id.area) (g.B.Blobs.seen c.pass.new.area) (c.loop-id.invariant.made n)
      (next_of {A = Unit {0}} g.H.Hive.keeps g.H.Hive.makes c.args.catalog.now c.loop-id.catalog (g.B.Blobs.seen c.args.catalog.now.area) (g.B.Blobs.seen c.loop-id.catalog.area) c.args.ids.now c.loop-id.id-index c.id-item.result n c.args.target
      (g.B.Blobs.seen c.loop-id.area) (g.B.Blobs.seen c.pass.new.area) (Ok tt) c.loop-id-test.true c.id-item.is c.loop-id.invariant.stays (c.in_ok-pass.ensures.runs n));
  read = λ n settled own.
      next_read (fold_of g.H.Hive.keeps g.H.Hive.makes c.args.catalog.now.base) (AreTold n c.args.ids.now (IsOpenFor c.args.catalog.now (g.B.Blobs.seen c.args.catalog.now.area))) n c.args.target
      c.args.catalog.now.kept.rows c.args.ids.now c.loop-id.id-index c.id-item.result c.loop-id-test.true c.id-item.is {A = Unit {0}} tt
      (g.B.Blobs.seen c.args.area.now) (g.B.Blobs.seen c.loop-id.area) (g.B.Blobs.seen c.pass.new.area)
      (g.B.Blobs.seen c.args.catalog.now.area) (g.B.Blobs.seen c.loop-id.catalog.area) (g.B.Blobs.seen c.pass.new.catalog.area) (c.loop-id.invariant.read n settled own)
      (next_read_of {A = Unit {0}} g.H.Hive.keeps g.H.Hive.makes c.args.catalog.now c.loop-id.catalog (g.B.Blobs.seen c.args.catalog.now.area) (g.B.Blobs.seen c.loop-id.catalog.area) c.args.ids.now c.loop-id.id-index c.id-item.result n c.args.target
      (g.B.Blobs.seen c.loop-id.area) (g.B.Blobs.seen c.pass.new.area) (g.B.Blobs.seen c.pass.new.catalog.area) (Ok tt) c.loop-id-test.true c.id-item.is c.loop-id.invariant.stays
      (c.loop-id.invariant.stays.kept settled)
      (c.in_ok-pass.ensures.reads n (c.loop-id.invariant.stays.settled settled).0
      (own_of c.args.catalog.now c.loop-id.catalog n c.args.ids.now c.loop-id.id-index c.id-item.result c.loop-id-test.true c.id-item.is (c.loop-id.invariant.stays.kept settled) own)));
}

pub returns-clause-reads : goal.returns-clause-reads
returns-clause-reads g c = λ n settled own.
    subst (λ (l : List IdRows). PassesRead (fold_of g.H.Hive.keeps g.H.Hive.makes c.args.catalog.now.base) (AreTold n c.args.ids.now (IsOpenFor c.args.catalog.now (g.B.Blobs.seen c.args.catalog.now.area))) n c.args.target
    c.args.catalog.now.kept.rows (map key_of_id l) (g.B.Blobs.seen c.args.area.now) (g.B.Blobs.seen c.loop-id.area) (g.B.Blobs.seen c.args.catalog.now.area) (g.B.Blobs.seen c.loop-id.catalog.area))
    (take_all c.loop-id.id-index c.args.ids.now c.loop-id-test.false) (c.loop-id.invariant.read n settled own)

pub returns-clause-runs : goal.returns-clause-runs
returns-clause-runs g c = λ n.
    subst (λ (l : List IdRows). PassesMade (fold_of g.H.Hive.keeps g.H.Hive.makes c.args.catalog.now.base) (AreTold n c.args.ids.now (IsOpenFor c.args.catalog.now (g.B.Blobs.seen c.args.catalog.now.area))) n c.args.target
    (map key_of_id l) (g.B.Blobs.seen c.args.area.now) (g.B.Blobs.seen c.loop-id.area)) (take_all c.loop-id.id-index c.args.ids.now c.loop-id-test.false) (c.loop-id.invariant.made n)
