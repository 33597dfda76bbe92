use Rattle.blob_store.proofs.OneCall.{changed}
use Rattle.blob_store.proofs.runs.call_one.Goals as goal

pub returns : goal.returns
returns g c = record {
  runs = changed c.args.call.now (g.B.Blobs.seen c.args.area.now) (g.B.Blobs.seen c.make_call.new.area) c.make_call.result (g.met.B.Blobs.now c.make_call.new.area)
      c.make_call.ensures.time c.make_call.ensures.after c.make_call.ensures.counted c.make_call.ensures.asks;
}
