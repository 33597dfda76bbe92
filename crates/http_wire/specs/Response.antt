-- The bytes of a response.
use Rattle.std.specs.Prelude.{ℕ, Bool, if◌then◌else◌, List, [], ◌∷◌, ◌++◌, length, codes, decimal, Option, Some, None}
use Rattle.http.specs.StatusCode.{status_text}
use Rattle.http_wire.specs.declared.response.Kind.{Kind}
use Rattle.http_wire.specs.declared.response.Kind.TheVariants.{Json, Octets, Xml, Plain}
use Rattle.http_wire.specs.declared.response.Verb.{Verb}
use Rattle.http_wire.specs.declared.response.Verb.TheVariants.{Get, Post}

-- the media type of a body
abbrev pub media_type : Kind → List ℕ
media_type Json = codes "application/json"
media_type Octets = codes "application/octet-stream"
media_type Xml = codes "application/xml"
media_type Plain = codes "text/plain"

-- the method's name
abbrev pub verb_name : Verb → List ℕ
verb_name Get = codes "GET"
verb_name Post = codes "POST"

-- the status line; its number and phrase are what http prints of the status
abbrev pub status_line : ℕ → List ℕ
status_line status = codes "HTTP/1.1 " ++ status_text status ++ codes "\r\n"

-- where the link ends behind this response
abbrev pub close_line : Bool → List ℕ
close_line last = if last then codes "Connection: close\r\n" else []

-- the method that the target has
abbrev pub allow_line : Option Verb → List ℕ
allow_line None = []
allow_line (Some verb) = codes "Allow: " ++ verb_name verb ++ codes "\r\n"

abbrev pub length_line : ℕ → List ℕ
length_line size = codes "Content-Length: " ++ decimal size ++ codes "\r\n"

-- An empty body has no type.
abbrev pub type_line : Kind → List ℕ → List ℕ
type_line kind [] = []
type_line kind (byte ∷ body) = codes "Content-Type: " ++ media_type kind ++ codes "\r\n"

-- the response: its head, which an empty line ends, and its body
abbrev pub wire_bytes : ℕ → Kind → Option Verb → Bool → List ℕ → List ℕ
wire_bytes status kind allow last body =
    status_line status
    ++ close_line last
    ++ allow_line allow
    ++ length_line (length body)
    ++ type_line kind body
    ++ codes "\r\n"
    ++ body
