use Rattle.std.proofs.Common.{◌∷◌, [], ap, refl}
use Rattle.std.specs.declared.result.Result.TheVariants.{Err}
use Rattle.blob_store.specs.Events.{Get}
use Rattle.cursor_doc.specs.Cursor.{cursor_name}
use Rattle.feed_app.proofs.Behind.{cursor_runs, damaged_answer, made_all}
use Rattle.feed_app.proofs.Cursors.{stop_tells}
use Rattle.feed_app.proofs.Jobs.{rose_by, stop_of_hive}
use Rattle.feed_app.proofs.cursor.cursor_in.Goals as goal

pub returns-in-Err-clause-is : goal.returns-in-Err-clause-is
returns-in-Err-clause-is g c = stop_tells c.args.hive _ c.in-Err.error c.of_stop.result c.of_stop.ensures c.in-Err.ensures.cause

pub returns-in-Err-clause-hive_cause : goal.returns-in-Err-clause-hive_cause
returns-in-Err-clause-hive_cause g c = λ is. rose_by _ _ _ c.in-Err.ensures.counts
    (ap Err (stop_of_hive c.args.hive c.in-Err.error c.of_stop.result c.of_stop.ensures is))

pub returns-in-Ok-clause-runs : goal.returns-in-Ok-clause-runs
returns-in-Ok-clause-runs g c = made_all (Get cursor_name ∷ []) (g.B.Blobs.seen c.args.area.now) (g.B.Blobs.seen c.cursor_of.new.area) _ refl c.in-Ok.ensures.runs

pub returns-in-Err-clause-runs : goal.returns-in-Err-clause-runs
returns-in-Err-clause-runs g c = cursor_runs c.args.hive _ (Get cursor_name ∷ []) (g.B.Blobs.seen c.args.area.now) (g.B.Blobs.seen c.cursor_of.new.area)
    c.in-Err.error c.of_stop.result c.of_stop.ensures c.in-Err.ensures.cause c.in-Err.ensures.runs

pub returns-in-Ok-clause-got : goal.returns-in-Ok-clause-got
returns-in-Ok-clause-got g c = λ which name told. let no : ⊥ = cc told in absurd no

pub returns-in-Err-clause-got : goal.returns-in-Err-clause-got
returns-in-Err-clause-got g c = λ which name. damaged_answer c.args.hive which name c.in-Err.error c.of_stop.result _ c.of_stop.ensures c.in-Err.ensures.got
