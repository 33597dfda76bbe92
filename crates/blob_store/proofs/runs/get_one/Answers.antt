use Rattle.blob_store.proofs.OneCall.{got}
use Rattle.blob_store.proofs.runs.get_one.Goals as goal

pub returns-clause-runs : goal.returns-clause-runs
returns-clause-runs g c = got c.args.name.now (g.B.Blobs.seen c.args.area.now) (g.B.Blobs.seen c.get.new.self) c.get.result (g.met.B.Blobs.now c.get.new.self)
    c.get.ensures.time c.get.ensures.same c.get.ensures.counted c.get.ensures.asks
