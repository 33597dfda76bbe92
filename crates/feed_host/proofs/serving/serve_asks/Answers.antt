use Rattle.std.proofs.Common.{◌∙◌}
use Rattle.http_wire.specs.Reading.{pending}
use Rattle.feed_host.specs.Serving.{progress}
use Rattle.feed_host.proofs.ServingLemmas.{comes_to_end, goes_on, none_is_no_fault, none_is_no_read_fault}
use Rattle.feed_host.proofs.serving.serve_asks.Goals as goal

pub returns-in-Some-serve_next-clause-serves : goal.returns-in-Some-serve_next-clause-serves
returns-in-Some-serve_next-clause-serves g c =
    comes_to_end g.S.Service.acts (g.L.Link.left c.args.link.now) (pending c.loop.wire (g.L.Link.left c.loop.link)) (pending c.serve_next.new.wire
    (g.L.Link.left c.serve_next.new.link))
    (progress (g.S.Service.state c.args.service.now) (g.L.Link.written c.args.link.now)) (progress (g.S.Service.state c.loop.service)
    (g.L.Link.written c.loop.link))
    (progress (g.S.Service.state c.serve_next.new.service)
    (g.L.Link.written c.serve_next.new.link)) c.in-Some-serve_next.end c.loop.invariant.under_way c.in-Some-serve_next.ensures.next

pub loop-preserved : goal.loop-preserved
loop-preserved g c = record {
  turns = (tt, tt);
  fit = c.serve_next.ensures.fit;
  under_way =
      goes_on g.S.Service.acts (g.L.Link.left c.args.link.now) (pending c.loop.wire (g.L.Link.left c.loop.link)) (pending c.serve_next.new.wire
      (g.L.Link.left c.serve_next.new.link))
      (progress (g.S.Service.state c.args.service.now) (g.L.Link.written c.args.link.now)) (progress (g.S.Service.state c.loop.service)
      (g.L.Link.written c.loop.link))
      (progress (g.S.Service.state c.serve_next.new.service) (g.L.Link.written c.serve_next.new.link)) c.loop.invariant.under_way c.in_default.ensures.next;
  read_faults = c.in_default.ensures.read_faults.kept none_is_no_read_fault ∙ c.loop.invariant.read_faults;
  write_faults = c.in_default.ensures.write_faults.kept none_is_no_fault ∙ c.loop.invariant.write_faults;
}
