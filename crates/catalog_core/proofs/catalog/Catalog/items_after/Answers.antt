use Rattle.std.proofs.Common.{◌∙◌, [], Err, Ok, ap}
use Rattle.std.proofs.lemmas.Result.{err_from_is_err_and}
use Rattle.blob_store.proofs.OneCall.{none}
use Rattle.catalog_core.specs.Opened.{Opened}
use Rattle.catalog_core.proofs.Reading.{settled_quiet, settled_runs}
use Rattle.catalog_core.proofs.catalog.Catalog.items_after.Goals as goal

pub returns-in_err-settle-clause-runs : goal.returns-in_err-settle-clause-runs
returns-in_err-settle-clause-runs g c = λ settled. absurd (c.in_err-settle.ensures.same settled).1

pub returns-in_err-rows-clause-runs : goal.returns-in_err-rows-clause-runs
returns-in_err-rows-clause-runs g c = λ settled.
    let p = err_from_is_err_and c.from_residual-in_err-rows.result c.from_residual-in_err-rows.ensures.1 in
    settled_quiet g.B.Blobs.seen c.args.self.now c.settle.new.self [] c.from_residual-in_err-rows.result
    (c.in_ok-settle.ensures.same settled).0 (g.met.B.Blobs.now c.settle.new.self.area) (p.1 ∙ ap Err p.2)

pub returns-clause-runs : goal.returns-clause-runs
returns-clause-runs g c = λ settled.
    settled_runs g.B.Blobs.seen c.args.self.now c.settle.new.self (λ (o : Opened _). []) (g.B.Blobs.seen c.settle.new.self.area) (Ok c.in_ok-rows.rows)
    (c.in_ok-settle.ensures.same settled).0 (none (g.B.Blobs.seen c.settle.new.self.area) (g.met.B.Blobs.now c.settle.new.self.area))
