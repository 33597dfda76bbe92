use Rattle.std.proofs.Common.{◌≡◌}
use Rattle.http_wire.specs.Reading.{pending}
use Rattle.feed_host.specs.Serving.{progress}
use Rattle.feed_host.proofs.ServingLemmas.{IsUnderWay}
use Rattle.feed_host.proofs.serving.serve_asks.Given as goal

-- the requests so far are answered, and no call failed
abbrev pub invariant-loop : goal.invariant-loop
invariant-loop g l = record {
  turns : (goal.iterator-loop g).can_next l.iterator' × (goal.iterator-loop g).is_finite l.iterator';
  fit : g.S.Service.fit l.service;
  under_way : IsUnderWay g.S.Service.acts (g.L.Link.left l.fn.link) (progress (g.S.Service.state l.fn.service) (g.L.Link.written l.fn.link))
      (pending l.wire (g.L.Link.left l.link)) (progress (g.S.Service.state l.service) (g.L.Link.written l.link));
  read_faults : g.L.Link.read_faults l.link ≡ g.L.Link.read_faults l.fn.link;
  write_faults : g.L.Link.write_faults l.link ≡ g.L.Link.write_faults l.fn.link;
}
