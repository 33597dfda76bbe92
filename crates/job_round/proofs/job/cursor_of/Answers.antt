use Rattle.std.proofs.Common.{◌∷◌, [], Ok, Err}
use Rattle.blob_store.specs.Events.{Get}
use Rattle.cursor_doc.specs.Cursor.{cursor_name}
use Rattle.job_round.proofs.Telling.{damaged_told, ends_of, no_number, number_counts}
use Rattle.job_round.proofs.job.cursor_of.Goals as goal

pub returns-in-Ok-clause-counts : goal.returns-in-Ok-clause-counts
returns-in-Ok-clause-counts g c = number_counts (Get cursor_name ∷ []) (g.B.Blobs.seen c.args.area.now) (g.B.Blobs.seen c.cursor_in.new.area) (Ok c.in-Ok.number) c.in-Ok.ensures.runs

pub returns-in-Err-clause-runs : goal.returns-in-Err-clause-runs
returns-in-Err-clause-runs g c = ends_of c.args.hive c.in-Err.stop c.round_err.result (Get cursor_name ∷ []) (g.B.Blobs.seen c.args.area.now) (g.B.Blobs.seen c.cursor_in.new.area) c.round_err.ensures c.in-Err.ensures.runs

pub returns-in-Err-clause-counts : goal.returns-in-Err-clause-counts
returns-in-Err-clause-counts g c = number_counts (Get cursor_name ∷ []) (g.B.Blobs.seen c.args.area.now) (g.B.Blobs.seen c.cursor_in.new.area) (Err c.round_err.result)
    (ends_of c.args.hive c.in-Err.stop c.round_err.result (Get cursor_name ∷ []) (g.B.Blobs.seen c.args.area.now) (g.B.Blobs.seen c.cursor_in.new.area) c.round_err.ensures c.in-Err.ensures.runs)

pub returns-in-Err-clause-cause : goal.returns-in-Err-clause-cause
returns-in-Err-clause-cause g c = no_number c.args.hive (g.B.Blobs.seen c.args.area.now).held c.in-Err.stop c.round_err.result c.round_err.ensures c.in-Err.ensures.cause

pub returns-in-Err-clause-got : goal.returns-in-Err-clause-got
returns-in-Err-clause-got g c = damaged_told c.args.hive c.in-Err.stop c.round_err.result _ _ c.round_err.ensures c.in-Err.ensures.cause c.in-Err.ensures.got
