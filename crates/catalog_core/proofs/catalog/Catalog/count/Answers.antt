use Rattle.std.proofs.Common.{◌∙◌, [], Ok, ap, arith, sym}
use Rattle.blob_store.proofs.OneCall.{none}
use Rattle.catalog_core.specs.Opened.{Opened}
use Rattle.catalog_core.proofs.Frames.{ready_keeps, ready_of}
use Rattle.catalog_core.proofs.Reading.{settled_runs}
use Rattle.catalog_core.proofs.catalog.Catalog.count.Goals as goal

pub returns-clause-reads : goal.returns-clause-reads
returns-clause-reads g c = λ cs open_for.
    let at = (c.in_ok-settle.ensures.stays.open_for cs open_for).open_for in
    let keeps = ready_keeps c.settle.new.self _ cs (ready_of _ _ cs c.in_ok-settle.ensures.settled at) in
    let next = c.next_number.ensures cs at.lawful (keeps.rows ∙ sym (ap (λ (o : Opened _). o.kept.rows) c.self.view_is)) in
    omega (arith, next, c.saturating_sub.ensures)

pub returns-in_err-settle-clause-runs : goal.returns-in_err-settle-clause-runs
returns-in_err-settle-clause-runs g c = λ settled. absurd (c.in_err-settle.ensures.same settled).1

pub returns-clause-runs : goal.returns-clause-runs
returns-clause-runs g c = λ settled.
    settled_runs g.B.Blobs.seen c.args.self.now c.settle.new.self (λ (o : Opened _). []) (g.B.Blobs.seen c.settle.new.self.area) (Ok c.saturating_sub.result)
    (c.in_ok-settle.ensures.same settled).0 (none (g.B.Blobs.seen c.settle.new.self.area) (g.met.B.Blobs.now c.settle.new.self.area))
