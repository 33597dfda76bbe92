use Rattle.std.proofs.Common.{◌≡◌, ◌++◌, IfSome, codes, drop, length, map}
use Rattle.httparse.specs.Spans.{IsWithin, header_bytes}
use Rattle.http_wire.specs.Fields.{announced, values_of}
use Rattle.http_wire.specs.Found.{found_values}
use Rattle.http_wire.proofs.fields.announced_length.Given as goal

-- the value found and those of the fields that are left announce what all do
abbrev pub invariant-loop-field : goal.invariant-loop-field
invariant-loop-field l = record {
  told : announced (found_values l.bytes l.found ++ values_of (codes "content-length") (map (header_bytes l.bytes) (drop l.field-index l.fields))) ≡ announced (values_of (codes "content-length") (map (header_bytes l.bytes) l.fields));
  within : IfSome l.found (IsWithin (length l.bytes));
}
