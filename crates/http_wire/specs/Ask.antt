-- What one request at the front of some bytes is, by the bytes alone.
use Rattle.std.specs.Prelude.{◌≡◌, ◌⊎◌, ◌≤◌, ℕ, ◌==◌, nat_le, if◌then◌else◌, List, [], length, take, drop, slice_range, Option, Some, None, Result, Ok, Err}
use Rattle.httparse.specs.Grammar.{RequestHead, ReadsRequest}
use Rattle.http_wire.specs.Fields.{body_size, fields_of, is_last}
use Rattle.http_wire.specs.Lines.{blank, head_span}
use Rattle.http_wire.specs.declared.request.Request.{Request}

-- the most bytes of a head with the empty lines before it, and its most fields
abbrev pub most_head : ℕ
most_head = 16384

abbrev pub most_fields : ℕ
most_fields = 64

-- what stands at the front of bytes
pub data Front : Type 0 where
  Whole : (request : Request) (behind : List ℕ) → Front  -- a request and the bytes behind it
  Refused : (status : ℕ) → Front  -- no request, whatever follows
  Blank : Front  -- nothing but empty lines
  More : Front  -- the beginning of a request, or of a refusal

-- the bytes are a head by httparse's grammar, and nothing else
abbrev pub IsHead : List ℕ → RequestHead → Type 0
IsHead bytes h = ReadsRequest bytes h [] × (length h.fields ≤ most_fields)

abbrev pub IsNoHead : List ℕ → Type 0
IsNoHead bytes = (h : RequestHead) → IsHead bytes h → ⊥

-- the request of a head and a body
abbrev pub request_of : RequestHead → List ℕ → Request
request_of h body = record { method = h.method; target = h.target; last = is_last h.minor (fields_of h); body = body }

abbrev pub body_len : RequestHead → Result ℕ ℕ
body_len h = body_size h.minor (fields_of h)

-- a head and the bytes behind it, of which so many are the body
abbrev pub with_body : RequestHead → Result ℕ ℕ → List ℕ → Front
with_body h (Err status) rest = Refused status
with_body h (Ok n) rest =
    if nat_le n (length rest)
    then Whole (request_of h (take n rest)) (drop n rest)
    else More

-- Bytes that have no head's end within the limit.
abbrev pub unended : List ℕ → Front
unended bytes =
    if nat_le most_head (length bytes) then Refused 431
    else if blank bytes == length bytes then Blank
    else More

-- the head's bytes, and those behind
abbrev pub AtHead : List ℕ → List ℕ → Front → Type 0
AtHead head rest front =
    ((h : RequestHead) × IsHead head h × (front ≡ with_body h (body_len h) rest))
    ⊎ (IsNoHead head × (front ≡ Refused 400))

abbrev pub AtSpan : Option (ℕ × ℕ) → List ℕ → Front → Type 0
AtSpan None bytes front = front ≡ unended bytes
AtSpan (Some span) bytes front = AtHead (slice_range bytes span.0 span.1) (drop span.1 bytes) front

-- what stands at the front of the bytes
abbrev pub Ask : List ℕ → Front → Type 0
Ask bytes front = AtSpan (head_span (take most_head bytes)) bytes front
