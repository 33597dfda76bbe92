use Rattle.std.proofs.Common.{◌≡◌, ◌≤◌, ◌+◌, drop, map}
use Rattle.httparse.specs.Spans.{header_bytes}
use Rattle.http_wire.specs.Fields.{count_of}
use Rattle.http_wire.proofs.fields.count_named.Given as goal

-- those counted and those of the fields that are left are all
abbrev pub invariant-loop-field : goal.invariant-loop-field
invariant-loop-field l = record {
  told : l.count + count_of l.name (map (header_bytes l.bytes) (drop l.field-index l.fields)) ≡ count_of l.name (map (header_bytes l.bytes) l.fields);
  few : l.count ≤ l.field-index;
}
