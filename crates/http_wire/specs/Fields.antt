-- What the fields of a head say of its request: its body's length or its refusal, and whether it is the last.
use Rattle.std.specs.Prelude.{ℕ, ◌==◌, ◌&&◌, ◌||◌, nat_lt, nat_le, if◌then◌else◌, Bool, List, [], ◌∷◌, length, map, codes, Result, Ok, Err}
use Rattle.std.specs.Char.{is_ascii_digit}
use Rattle.std.specs.List.{list_all, list_any, slice_split}
use Rattle.std.specs.Str.{bytes_eq, str_eq_ignore_ascii_case}
use Rattle.std.specs.Str.Parse.{digits_value}
use Rattle.httparse.specs.Grammar.{RequestHead, trim_ows}
use Rattle.httparse.specs.Spans.{name_and_value}

-- the most bytes of a body: 64 MiB
abbrev pub most_body : ℕ
most_body = 67108864

-- the fields as pairs of a name and a value, which has no white space around it
abbrev pub fields_of : RequestHead → List (List ℕ × List ℕ)
fields_of h = map name_and_value h.fields

-- the values of the fields of a name; names compare without regard to case
abbrev pub values_of : List ℕ → List (List ℕ × List ℕ) → List (List ℕ)
values_of name [] = []
values_of name (f ∷ fields) =
    if str_eq_ignore_ascii_case f.0 name then f.1 ∷ values_of name fields else values_of name fields

-- how many fields have a name
abbrev pub count_of : List ℕ → List (List ℕ × List ℕ) → ℕ
count_of name fields = length (values_of name fields)

-- more than one field Host, or none in HTTP/1.1
abbrev pub is_bad_host : ℕ → ℕ → Bool
is_bad_host minor hosts = nat_lt 1 hosts || (minor == 1 && hosts == 0)

-- 1 to 18 digits
abbrev pub is_length : List ℕ → Bool
is_length text = nat_lt 0 (length text) && (nat_le (length text) 18 && list_all is_ascii_digit text)

-- the number of bytes that a text announces, or the status of its refusal
abbrev pub length_in : List ℕ → Result ℕ ℕ
length_in text =
    if is_length text
    then (if nat_lt most_body (digits_value 10 text) then Err 413 else Ok (digits_value 10 text))
    else Err 400

-- No field is no body. Several fields have to be the same text.
abbrev pub announced : List (List ℕ) → Result ℕ ℕ
announced [] = Ok 0
announced (text ∷ others) = if list_all (λ other. bytes_eq other text) others then length_in text else Err 400

-- How many bytes of body follow, or the status of the first refusal, in this order.
abbrev pub body_size : ℕ → List (List ℕ × List ℕ) → Result ℕ ℕ
body_size minor fields =
    if is_bad_host minor (count_of (codes "host") fields) then Err 400
    else if nat_lt 0 (count_of (codes "transfer-encoding") fields) then Err 501
    else if nat_lt 0 (count_of (codes "content-encoding") fields) then Err 415
    else announced (values_of (codes "content-length") fields)

-- the word `close`, with spaces and tabs around it, in any case
abbrev pub is_close : List ℕ → Bool
is_close piece = str_eq_ignore_ascii_case (trim_ows piece) (codes "close")

-- one of the pieces between commas is that word
abbrev pub asks_to_close : List ℕ → Bool
asks_to_close value = list_any is_close (slice_split (λ byte. byte == 44) value)

-- HTTP/1.0, or a field Connection that asks to close
abbrev pub is_last : ℕ → List (List ℕ × List ℕ) → Bool
is_last minor fields = minor == 0 || list_any asks_to_close (values_of (codes "connection") fields)
