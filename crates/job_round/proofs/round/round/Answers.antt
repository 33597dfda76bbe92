use Rattle.std.proofs.Common.{[], ◌∷◌, ap, sym, ◌∙◌, Err, subst, inl}
use Rattle.std.proofs.lemmas.Result.{err_from_is_err_and}
use Rattle.blob_store.specs.Events.{Get}
use Rattle.blob_store.proofs.OneCall.{none}
use Rattle.catalog_core.specs.Opened.{IsOpenFor}
use Rattle.cursor_doc.specs.Cursor.{cursor_name}
use Rattle.fold_core.specs.Folds.{fold_of}
use Rattle.job_round.specs.Stops.{JobHaltsAt, catalog_stop_of}
use Rattle.job_round.specs.declared.stop.Stop.{Stop}
use Rattle.job_round.proofs.Halting.{halts_behind}
use Rattle.job_round.proofs.Reading.{reads_behind}
use Rattle.job_round.proofs.ReadTelling.{quiet_halts}
use Rattle.job_round.proofs.Rounding.{early_read, end_lost, idle_read, round_ended, round_lost, round_read, round_taken, rows_lost}
use Rattle.job_round.proofs.Staying.{else_of_read, hive_quiet, quiet_ok, stays_next, stays_read, stays_still, went_well}
use Rattle.job_round.proofs.round.round.Goals as goal

pub returns-in_err-cursor-clause-stays : goal.returns-in_err-cursor-clause-stays
returns-in_err-cursor-clause-stays g c =
    let p = err_from_is_err_and c.from_residual.result c.from_residual.ensures.1 in
    stays_still _ _ c.from_residual.result (g.met.B.Blobs.now c.args.catalog.now.area) (hive_quiet _ c.in_err-cursor.field-0.0 c.from_residual.result (p.1 ∙ ap Err p.2) c.in_err-cursor.ensures.cause)

pub returns-in-Err-clause-runs : goal.returns-in-Err-clause-runs
returns-in-Err-clause-runs g c =
    inl (subst (λ (s : Stop). JobHaltsAt (Get cursor_name ∷ []) s (g.B.Blobs.seen c.args.area.now) (g.B.Blobs.seen c.cursor_in.new.area)) (sym c.catalog_stop.ensures)
    (halts_behind (Get cursor_name ∷ []) (catalog_stop_of c.in-Err.error) (g.B.Blobs.seen c.args.area.now) (g.B.Blobs.seen c.cursor_in.new.area) (else_of_read c.in-Err.error) c.in_ok-cursor.ensures.runs))

pub returns-in-Err-clause-cause : goal.returns-in-Err-clause-cause
returns-in-Err-clause-cause g c =
    rows_lost _ c.args.catalog.now c.items_after.new.self (g.B.Blobs.seen c.args.catalog.now.area) (g.B.Blobs.seen c.items_after.new.self.area) c.in-Err.error c.catalog_stop.result c.catalog_stop.ensures c.in-Err.ensures.damaged

pub returns-in-None-clause-stays : goal.returns-in-None-clause-stays
returns-in-None-clause-stays g c = stays_next _ _ _ _ _ _ tt c.at_end.result (stays_read _ _ _ _ c.in-Ok.rows went_well (quiet_ok tt) c.in-Ok.ensures.stays) c.at_end.ensures.stays

pub returns-in-None-clause-runs : goal.returns-in-None-clause-runs
returns-in-None-clause-runs g c =
    round_ended g.H.Hive.keeps g.H.Hive.makes c.args.catalog.now c.items_after.new.self (g.B.Blobs.seen c.args.catalog.now.area) (g.B.Blobs.seen c.items_after.new.self.area)
    (g.B.Blobs.seen c.args.area.now) (g.B.Blobs.seen c.cursor_in.new.area) c.in_ok-cursor.cursor c.in-Ok.rows c.in-Ok.ensures.stays c.in-Ok.ensures.settled
    (λ cs is_open. c.in-Ok.ensures.reads cs is_open) c.in_ok-cursor.ensures.number c.in_ok-cursor.ensures.runs c.cursor_in.ensures.same (rw c.as_slice.ensures at c.in-None.ensures.value)
    c.at_end.result c.at_end.ensures.cause c.at_end.ensures.idle c.at_end.ensures.last

pub returns-in-None-clause-cause : goal.returns-in-None-clause-cause
returns-in-None-clause-cause g c =
    end_lost g.H.Hive.keeps g.H.Hive.makes c.args.catalog.now c.items_after.new.self (g.B.Blobs.seen c.args.catalog.now.area) (g.B.Blobs.seen c.items_after.new.self.area)
    (g.B.Blobs.seen c.args.area.now) (g.B.Blobs.seen c.cursor_in.new.area) c.in_ok-cursor.cursor c.in-Ok.rows c.in-Ok.ensures.stays c.in-Ok.ensures.settled
    (λ cs is_open. c.in-Ok.ensures.reads cs is_open) c.in_ok-cursor.ensures.number c.in_ok-cursor.ensures.runs c.cursor_in.ensures.same (rw c.as_slice.ensures at c.in-None.ensures.value)
    c.at_end.new.catalog (g.B.Blobs.seen c.at_end.new.catalog.area) c.at_end.result (c.at_end.ensures.stays.settled c.in-Ok.ensures.settled).1 c.at_end.ensures.cause

pub returns-clause-stays : goal.returns-clause-stays
returns-clause-stays g c = stays_next _ _ _ _ _ _ tt c.take_up.result (stays_read _ _ _ _ c.in-Ok.rows went_well (quiet_ok tt) c.in-Ok.ensures.stays) c.take_up.ensures.stays

pub returns-clause-runs : goal.returns-clause-runs
returns-clause-runs g c =
    round_taken g.H.Hive.keeps g.H.Hive.makes c.args.catalog.now c.items_after.new.self (g.B.Blobs.seen c.args.catalog.now.area) (g.B.Blobs.seen c.items_after.new.self.area)
    (g.B.Blobs.seen c.args.area.now) (g.B.Blobs.seen c.cursor_in.new.area) c.in_ok-cursor.cursor c.in-Ok.rows c.in-Ok.ensures.stays c.in-Ok.ensures.settled
    (λ cs is_open. c.in-Ok.ensures.reads cs is_open) c.in_ok-cursor.ensures.number c.in_ok-cursor.ensures.runs c.cursor_in.ensures.same
    c.in-Some.row.now (rw c.as_slice.ensures at c.in-Some.ensures.value) c.take_up.result (g.B.Blobs.seen c.take_up.new.area) c.take_up.ensures.done c.take_up.ensures.runs

pub returns-clause-cause : goal.returns-clause-cause
returns-clause-cause g c =
    round_lost g.H.Hive.keeps g.H.Hive.makes c.args.catalog.now c.items_after.new.self (g.B.Blobs.seen c.args.catalog.now.area) (g.B.Blobs.seen c.items_after.new.self.area)
    (g.B.Blobs.seen c.args.area.now) (g.B.Blobs.seen c.cursor_in.new.area) c.in_ok-cursor.cursor c.in-Ok.rows c.in-Ok.ensures.stays c.in-Ok.ensures.settled
    (λ cs is_open. c.in-Ok.ensures.reads cs is_open) c.in_ok-cursor.ensures.number c.in_ok-cursor.ensures.runs c.cursor_in.ensures.same
    c.in-Some.row.now (rw c.as_slice.ensures at c.in-Some.ensures.value) c.take_up.new.catalog (g.B.Blobs.seen c.take_up.new.catalog.area) (g.B.Blobs.seen c.take_up.new.area) c.take_up.result
    (c.take_up.ensures.cause c.in_ok-cursor.cursor c.in-Ok.ensures.settled c.in-Ok.ensures.kept)

pub returns-in_err-cursor-clause-reads : goal.returns-in_err-cursor-clause-reads
returns-in_err-cursor-clause-reads g c = λ settled.
    let p = err_from_is_err_and c.from_residual.result c.from_residual.ensures.1 in
    early_read (fold_of g.H.Hive.keeps g.H.Hive.makes c.args.catalog.now.base) (IsOpenFor c.args.catalog.now (g.B.Blobs.seen c.args.catalog.now.area)) c.args.catalog.now.kept.rows (g.B.Blobs.seen c.args.area.now) (g.B.Blobs.seen c.cursor_in.new.area) (g.B.Blobs.seen c.args.catalog.now.area) (g.B.Blobs.seen c.args.catalog.now.area) c.in_err-cursor.field-0.0 c.from_residual.result (p.1 ∙ ap Err p.2)
    (reads_behind [] (g.B.Blobs.seen c.args.catalog.now.area) (g.B.Blobs.seen c.args.catalog.now.area) (none (g.B.Blobs.seen c.args.catalog.now.area) (g.met.B.Blobs.now c.args.catalog.now.area)) _ c.in_err-cursor.field-0.0 c.in_err-cursor.ensures.cause)

pub returns-in-Err-clause-reads : goal.returns-in-Err-clause-reads
returns-in-Err-clause-reads g c = λ settled.
    inl (quiet_halts c.args.catalog.now c.in-Err.error c.catalog_stop.result (g.B.Blobs.seen c.args.catalog.now.area) (g.B.Blobs.seen c.items_after.new.self.area) c.catalog_stop.ensures settled (c.in-Err.ensures.runs settled)
    c.in-Err.ensures.damaged)

pub returns-in-None-clause-reads : goal.returns-in-None-clause-reads
returns-in-None-clause-reads g c = λ settled.
    idle_read (fold_of g.H.Hive.keeps g.H.Hive.makes c.args.catalog.now.base) (IsOpenFor c.args.catalog.now (g.B.Blobs.seen c.args.catalog.now.area)) c.args.catalog.now.kept.rows c.in_ok-cursor.cursor (g.B.Blobs.seen c.args.area.now) (g.B.Blobs.seen c.cursor_in.new.area) (g.B.Blobs.seen c.args.catalog.now.area) (g.B.Blobs.seen c.items_after.new.self.area) (g.B.Blobs.seen c.at_end.new.catalog.area)
    c.at_end.result c.at_end.ensures.idle (c.in-Ok.ensures.runs settled) (c.at_end.ensures.reads c.in-Ok.ensures.settled)

pub returns-clause-reads : goal.returns-clause-reads
returns-clause-reads g c = λ settled.
    round_read g.H.Hive.keeps g.H.Hive.makes c.args.catalog.now c.items_after.new.self (g.B.Blobs.seen c.args.catalog.now.area) (g.B.Blobs.seen c.items_after.new.self.area)
    (g.B.Blobs.seen c.args.area.now) (g.B.Blobs.seen c.cursor_in.new.area) c.in_ok-cursor.cursor c.in-Ok.rows c.in-Ok.ensures.stays c.in-Ok.ensures.settled
    (λ cs is_open. c.in-Ok.ensures.reads cs is_open) c.in_ok-cursor.ensures.number c.in_ok-cursor.ensures.runs c.cursor_in.ensures.same
    c.in-Some.row.now (rw c.as_slice.ensures at c.in-Some.ensures.value) c.take_up.result (g.B.Blobs.seen c.take_up.new.area) (g.B.Blobs.seen c.take_up.new.catalog.area) c.take_up.ensures.done
    (c.in-Ok.ensures.stays.kept settled) c.in-Ok.ensures.kept (c.in-Ok.ensures.runs settled) (λ k above. c.take_up.ensures.reads k c.in-Ok.ensures.settled above)
