use Rattle.std.proofs.Common.{◌≡◌, codes, drop, map}
use Rattle.std.specs.List.{list_any}
use Rattle.httparse.specs.Spans.{header_bytes}
use Rattle.http_wire.specs.Fields.{asks_to_close, values_of}
use Rattle.http_wire.proofs.fields.closes.Given as goal

-- no field so far asks to close
abbrev pub invariant-loop-field : goal.invariant-loop-field
invariant-loop-field l = list_any asks_to_close (values_of (codes "connection") (map (header_bytes l.bytes) (drop l.field-index l.fields))) ≡ list_any asks_to_close (values_of (codes "connection") (map (header_bytes l.bytes) l.fields))
