use Rattle.std.proofs.Common.{Ok, Err}
use Rattle.catalog_core.specs.Opened.{IsOpenFor}
use Rattle.fold_core.specs.Folds.{fold_of}
use Rattle.job_round.proofs.Telling.{damaged_text, round_counts, round_done, round_idle, round_target, rounds_err, rounds_ok, stays_err, stays_ok}
use Rattle.job_round.proofs.ReadTelling.{reads_err, reads_ok}
use Rattle.job_round.proofs.job.run_round.Goals as goal

pub returns-in-Ok-clause-runs : goal.returns-in-Ok-clause-runs
returns-in-Ok-clause-runs g c = rounds_ok (fold_of g.H.Hive.keeps g.H.Hive.makes c.args.catalog.now.base) (IsOpenFor c.args.catalog.now (g.B.Blobs.seen c.args.catalog.now.area)) c.in-Ok.out (g.B.Blobs.seen c.args.area.now) (g.B.Blobs.seen c.round.new.area) c.in-Ok.ensures.runs

pub returns-in-Ok-clause-target : goal.returns-in-Ok-clause-target
returns-in-Ok-clause-target g c = round_target (fold_of g.H.Hive.keeps g.H.Hive.makes c.args.catalog.now.base) (IsOpenFor c.args.catalog.now (g.B.Blobs.seen c.args.catalog.now.area)) (g.B.Blobs.seen c.args.area.now) (g.B.Blobs.seen c.round.new.area) (Ok c.in-Ok.out) (rounds_ok (fold_of g.H.Hive.keeps g.H.Hive.makes c.args.catalog.now.base) (IsOpenFor c.args.catalog.now (g.B.Blobs.seen c.args.catalog.now.area)) c.in-Ok.out (g.B.Blobs.seen c.args.area.now) (g.B.Blobs.seen c.round.new.area) c.in-Ok.ensures.runs)

pub returns-in-Ok-clause-idle : goal.returns-in-Ok-clause-idle
returns-in-Ok-clause-idle g c = round_idle (fold_of g.H.Hive.keeps g.H.Hive.makes c.args.catalog.now.base) (IsOpenFor c.args.catalog.now (g.B.Blobs.seen c.args.catalog.now.area)) (g.B.Blobs.seen c.args.area.now) (g.B.Blobs.seen c.round.new.area) (Ok c.in-Ok.out) (rounds_ok (fold_of g.H.Hive.keeps g.H.Hive.makes c.args.catalog.now.base) (IsOpenFor c.args.catalog.now (g.B.Blobs.seen c.args.catalog.now.area)) c.in-Ok.out (g.B.Blobs.seen c.args.area.now) (g.B.Blobs.seen c.round.new.area) c.in-Ok.ensures.runs)

pub returns-in-Ok-clause-done : goal.returns-in-Ok-clause-done
returns-in-Ok-clause-done g c = round_done (fold_of g.H.Hive.keeps g.H.Hive.makes c.args.catalog.now.base) (IsOpenFor c.args.catalog.now (g.B.Blobs.seen c.args.catalog.now.area)) (g.B.Blobs.seen c.args.area.now) (g.B.Blobs.seen c.round.new.area) (Ok c.in-Ok.out) (rounds_ok (fold_of g.H.Hive.keeps g.H.Hive.makes c.args.catalog.now.base) (IsOpenFor c.args.catalog.now (g.B.Blobs.seen c.args.catalog.now.area)) c.in-Ok.out (g.B.Blobs.seen c.args.area.now) (g.B.Blobs.seen c.round.new.area) c.in-Ok.ensures.runs)

pub returns-in-Ok-clause-stays : goal.returns-in-Ok-clause-stays
returns-in-Ok-clause-stays g c = stays_ok _ _ _ _ c.in-Ok.out c.in-Ok.ensures.stays

pub returns-in-Ok-clause-counts : goal.returns-in-Ok-clause-counts
returns-in-Ok-clause-counts g c = round_counts (fold_of g.H.Hive.keeps g.H.Hive.makes c.args.catalog.now.base) (IsOpenFor c.args.catalog.now (g.B.Blobs.seen c.args.catalog.now.area)) (g.B.Blobs.seen c.args.area.now) (g.B.Blobs.seen c.round.new.area) (Ok c.in-Ok.out) (rounds_ok (fold_of g.H.Hive.keeps g.H.Hive.makes c.args.catalog.now.base) (IsOpenFor c.args.catalog.now (g.B.Blobs.seen c.args.catalog.now.area)) c.in-Ok.out (g.B.Blobs.seen c.args.area.now) (g.B.Blobs.seen c.round.new.area) c.in-Ok.ensures.runs)

pub returns-in-Err-clause-runs : goal.returns-in-Err-clause-runs
returns-in-Err-clause-runs g c = rounds_err (fold_of g.H.Hive.keeps g.H.Hive.makes c.args.catalog.now.base) (IsOpenFor c.args.catalog.now (g.B.Blobs.seen c.args.catalog.now.area)) _ c.in-Err.stop c.round_err.result (g.B.Blobs.seen c.args.area.now) (g.B.Blobs.seen c.round.new.area) c.round_err.ensures c.in-Err.ensures.runs

pub returns-in-Err-clause-stays : goal.returns-in-Err-clause-stays
returns-in-Err-clause-stays g c = stays_err _ _ _ _ _ c.in-Err.stop c.round_err.result c.round_err.ensures c.in-Err.ensures.stays

pub returns-in-Err-clause-counts : goal.returns-in-Err-clause-counts
returns-in-Err-clause-counts g c = round_counts (fold_of g.H.Hive.keeps g.H.Hive.makes c.args.catalog.now.base) (IsOpenFor c.args.catalog.now (g.B.Blobs.seen c.args.catalog.now.area)) (g.B.Blobs.seen c.args.area.now) (g.B.Blobs.seen c.round.new.area) (Err c.round_err.result) (rounds_err (fold_of g.H.Hive.keeps g.H.Hive.makes c.args.catalog.now.base) (IsOpenFor c.args.catalog.now (g.B.Blobs.seen c.args.catalog.now.area)) _ c.in-Err.stop c.round_err.result (g.B.Blobs.seen c.args.area.now) (g.B.Blobs.seen c.round.new.area) c.round_err.ensures c.in-Err.ensures.runs)

pub returns-in-Err-clause-damaged : goal.returns-in-Err-clause-damaged
returns-in-Err-clause-damaged g c = damaged_text c.args.catalog.now c.round.new.catalog (g.B.Blobs.seen c.args.catalog.now.area) (g.B.Blobs.seen c.round.new.catalog.area) (g.B.Blobs.seen c.round.new.area).held _ c.in-Err.stop c.round_err.result c.round_err.ensures c.in-Err.ensures.cause

pub returns-in-Ok-clause-reads : goal.returns-in-Ok-clause-reads
returns-in-Ok-clause-reads g c = λ settled.
    reads_ok (fold_of g.H.Hive.keeps g.H.Hive.makes c.args.catalog.now.base) (IsOpenFor c.args.catalog.now (g.B.Blobs.seen c.args.catalog.now.area)) c.args.catalog.now.kept.rows (g.B.Blobs.seen c.args.area.now) (g.B.Blobs.seen c.round.new.area) (g.B.Blobs.seen c.args.catalog.now.area) (g.B.Blobs.seen c.round.new.catalog.area) c.in-Ok.out (c.in-Ok.ensures.reads settled)

pub returns-in-Err-clause-reads : goal.returns-in-Err-clause-reads
returns-in-Err-clause-reads g c = λ settled.
    reads_err (fold_of g.H.Hive.keeps g.H.Hive.makes c.args.catalog.now.base) (IsOpenFor c.args.catalog.now (g.B.Blobs.seen c.args.catalog.now.area)) c.args.catalog.now.kept.rows (g.B.Blobs.seen c.args.area.now) (g.B.Blobs.seen c.round.new.area) (g.B.Blobs.seen c.args.catalog.now.area) (g.B.Blobs.seen c.round.new.catalog.area) _ c.in-Err.stop c.round_err.result c.round_err.ensures (c.in-Err.ensures.reads settled)
