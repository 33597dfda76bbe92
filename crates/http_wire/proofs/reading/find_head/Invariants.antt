use Rattle.std.proofs.Common.{◌≡◌, ◌-◌, length}
use Rattle.http_wire.specs.Reading.{carried, unread}
use Rattle.http_wire.specs.Scanned.{IsScanned}
use Rattle.http_wire.proofs.reading.find_head.Given as goal

-- nothing is answered yet, what was looked at needs no second look, and no read failed
abbrev pub invariant-reads : goal.invariant-reads
invariant-reads g l = record {
  scanned : IsScanned (carried l.wire) l.scan.skipped l.scan.looked;
  told : unread (carried l.wire) (g.L.Link.left l.link) ≡ unread (carried l.fn.wire) (g.L.Link.left l.fn.link);
  faults : g.L.Link.read_faults l.link ≡ g.L.Link.read_faults l.fn.link;
  written : g.L.Link.written l.link ≡ g.L.Link.written l.fn.link;
  write_faults : g.L.Link.write_faults l.link ≡ g.L.Link.write_faults l.fn.link;
}

abbrev pub decreases-reads : goal.decreases-reads
decreases-reads g l = 16384 - length (carried l.wire)
