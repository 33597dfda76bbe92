use Rattle.std.proofs.Common.{◌≡◌, ◌≤◌, ◌-◌, length, take}
use Rattle.http_wire.specs.Reading.{unread}
use Rattle.http_wire.proofs.body.read_rest.Given as goal

-- the front of the room and what is left are the bytes, and no read failed
abbrev pub invariant-reads : goal.invariant-reads
invariant-reads g l = record {
  low : l.from ≤ l.at;
  high : l.at ≤ length l.room.items;
  size : length l.room.items ≤ l.size;
  longer : length l.fn.room.items ≤ length l.room.items;
  told : unread (take l.at l.room.items) (g.L.Link.left l.link) ≡ unread (take l.from l.fn.room.items) (g.L.Link.left l.fn.link);
  faults : g.L.Link.read_faults l.link ≡ g.L.Link.read_faults l.fn.link;
  written : g.L.Link.written l.link ≡ g.L.Link.written l.fn.link;
  write_faults : g.L.Link.write_faults l.link ≡ g.L.Link.write_faults l.fn.link;
}

abbrev pub decreases-reads : goal.decreases-reads
decreases-reads g l = l.size - l.at
