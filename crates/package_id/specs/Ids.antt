-- The grammar of package ids, and what an id is compared by.
use Rattle.std.specs.Prelude.{◌≢◌, ◌<◌, ◌≤◌, ℕ, List, [], ◌∷◌, ◌++◌, length, take, map, Bool, false, ◌||◌, ◌&&◌, ◌==◌, not, if◌then◌else◌, IsTrue}
use Rattle.std.specs.Char.{is_ascii_alphanumeric, to_ascii_lowercase}
use Rattle.std.specs.Int.{is_in_range}
use Rattle.std.specs.List.{list_all}

-- an ASCII letter, an ASCII digit or `_`
abbrev pub is_word_byte : ℕ → Bool
is_word_byte b = is_ascii_alphanumeric b || (b == 95)

-- `.` or `-`
abbrev pub is_joint : ℕ → Bool
is_joint b = (b == 46) || (b == 45)

-- the id_parts with a byte more at the start of the first
abbrev pub starting_with : ℕ → List (List ℕ) → List (List ℕ)
starting_with b [] = (b ∷ []) ∷ []
starting_with b (part ∷ others) = (b ∷ part) ∷ others

-- what stands before, between and behind the joints: one part more than there are joints
abbrev pub id_parts : List ℕ → List (List ℕ)
id_parts [] = [] ∷ []
id_parts (b ∷ bs) = if is_joint b then [] ∷ id_parts bs else starting_with b (id_parts bs)

-- one word byte or more, and nothing else
abbrev pub is_id_part : List ℕ → Bool
is_id_part [] = false
is_id_part (b ∷ bs) = list_all is_word_byte (b ∷ bs)

-- each part is one
abbrev pub is_id : List ℕ → Bool
is_id text = list_all is_id_part (id_parts text)

-- an id, of any length
abbrev pub IsId : List ℕ → Type 0
IsId text = IsTrue (is_id text)

-- an id that is no longer than ids may be
abbrev pub IsShortId : List ℕ → Type 0
IsShortId text = IsId text × (length text ≤ 100)

-- in ASCII lower case
abbrev pub id_key : List ℕ → List ℕ
id_key text = map to_ascii_lowercase text

-- some id begins with the text
abbrev pub BeginsId : List ℕ → Type 0
BeginsId text = (rest : List ℕ) × IsId (text ++ rest)

-- the longest prefix of the text that some id begins with has this length
pub record IsLongestIdFront (text : List ℕ) (at : ℕ) : Type 0 where
  pub within : at ≤ length text
  pub begins : BeginsId (take at text)
  pub longest : (n : ℕ) → at < n → n ≤ length text → ¬ BeginsId (take n text)

-- a byte of a key: a small ASCII letter, an ASCII digit, `_`, `.` or `-`
abbrev pub is_id_key_byte : ℕ → Bool
is_id_key_byte b = is_in_range 97 122 b || (is_in_range 48 57 b || ((b == 95) || is_joint b))

-- an ASCII byte that JSON writes as it is: no control character, no `"` and no `\`
abbrev pub is_bare_byte : ℕ → Bool
is_bare_byte b = is_in_range 32 126 b && (not (b == 34) && not (b == 92))

-- one segment of a path: it isn't empty and has no `/`
pub record IsSegment (name : List ℕ) : Type 0 where
  pub filled : name ≢ []
  pub whole : IsTrue (list_all (λ b. not (b == 47)) name)
