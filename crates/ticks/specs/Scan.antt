-- Prefixes of texts, byte by byte: what the private functions of `form` compute.
use Rattle.std.specs.Prelude.{◌≡◌, ◌<◌, ◌≤◌, ◌+◌, ℕ, List, [], ◌∷◌, ◌++◌, length, take, drop, codes, Bool, true, false, ◌&&◌, ◌==◌, nat_le, if◌then◌else◌, Result, Ok, Err}
use Rattle.std.specs.Str.Parse.{AllDigits}

-- whether the byte is a digit
abbrev pub is_digit : ℕ → Bool
is_digit b = nat_le 48 b && nat_le b 57

-- the byte is the wanted one, where a `d` wants any digit
abbrev pub fits : ℕ → ℕ → Bool
fits want b = if want == 100 then is_digit b else b == want

-- how many bytes at the start of a text fit those at the start of a form
abbrev pub fitting_len : List ℕ → List ℕ → ℕ
fitting_len [] text = 0
fitting_len (want ∷ form) [] = 0
fitting_len (want ∷ form) (b ∷ bs) = if fits want b then fitting_len form bs + 1 else 0

-- the text is a prefix that fits the form, and then a text that passes the test
abbrev pub is_front_then : List ℕ → (List ℕ → Bool) → List ℕ → Bool
is_front_then [] test text = test text
is_front_then (want ∷ form) test [] = false
is_front_then (want ∷ form) test (b ∷ bs) = fits want b && is_front_then form test bs

-- the same, where the prefix may end early
abbrev pub is_part_then : List ℕ → (List ℕ → Bool) → List ℕ → Bool
is_part_then [] test text = test text
is_part_then (want ∷ form) test [] = test []
is_part_then (want ∷ form) test (b ∷ bs) = if fits want b then is_part_then form test bs else test (b ∷ bs)

-- whether the text has ended
abbrev pub is_end : List ℕ → Bool
is_end [] = true
is_end (b ∷ bs) = false

-- the zone that the text can only have
abbrev pub zone_form : List ℕ → List ℕ
zone_form [] = codes "Z"
zone_form (b ∷ bs) = if b == 43 then codes "+00:00" else codes "Z"

-- whether the text is a zone
abbrev pub is_zone : List ℕ → Bool
is_zone text = is_front_then (zone_form text) is_end text

-- whether it is one to seven decimals and a zone
abbrev pub is_decimals : List ℕ → Bool
is_decimals text = is_front_then (codes "d") (is_part_then (codes "dddddd") is_zone) text

-- whether it begins with a point
abbrev pub starts_with_point : List ℕ → Bool
starts_with_point [] = false
starts_with_point (b ∷ bs) = b == 46

-- what follows the seconds
abbrev pub is_tail : List ℕ → Bool
is_tail [] = false
is_tail (b ∷ bs) = if b == 46 then is_decimals bs else is_zone (b ∷ bs)

-- how many decimals stand there
abbrev pub tail_places : List ℕ → ℕ
tail_places [] = 0
tail_places (b ∷ bs) = if b == 46 then fitting_len (codes "ddddddd") bs else 0

-- whether it is a text of the form
abbrev pub is_stamp : List ℕ → Bool
is_stamp text = is_front_then (codes "dddd-dd-ddTdd:dd:dd") is_tail text

-- the text begins one that passes
abbrev pub BeginsOne : (List ℕ → Bool) → List ℕ → Type 0
BeginsOne test text = (rest : List ℕ) × (test (text ++ rest) ≡ true)

-- the longest prefix that begins one that passes has this length, and the text itself doesn't pass
pub record GoesWrongAt (test : List ℕ → Bool) (text : List ℕ) (at : ℕ) : Type 0 where
  pub refused : test text ≡ false
  pub within : at ≤ length text
  pub begins : BeginsOne test (take at text)
  pub longest : (n : ℕ) → at < n → n ≤ length text → BeginsOne test (take n text) → ⊥

-- the answer to a test: it passed, or where it stopped
abbrev pub Scans : {A : Type 0} → (List ℕ → Bool) → List ℕ → Result A ℕ → Type 0
Scans test text (Ok a) = test text ≡ true
Scans test text (Err at) = GoesWrongAt test text at

-- so many digits stand in the text from a place on
pub record IsNumberAt (width at : ℕ) (text : List ℕ) : Type 0 where
  pub within : at + width ≤ length text
  pub digits : AllDigits 10 (take width (drop at text))
