-- The grammar of versions: SemVer 2.0.0, sections 9 and 10, with NuGet's fourth number, with missing
-- numbers and with leading zeros, which don't count.
use Rattle.std.specs.Prelude.{◌≡◌, ◌<◌, ◌≤◌, ◌+◌, ℕ, ◌&&◌, nat_lt, if◌then◌else◌, Bool, false, IsTrue, List, [], ◌∷◌, ◌++◌, length, take, Option, Some, None, slice_index_or}
use Rattle.std.specs.List.{list_all}
use Rattle.std.specs.Char.{is_ascii_digit}
use Rattle.std.specs.Str.Parse.{digits_value}
use Rattle.nuget_version.specs.Parts.{is_dotted, marked}
use Rattle.nuget_version.specs.declared.version.Version.{Version}

-- one ASCII digit or more
abbrev pub is_number : List ℕ → Bool
is_number [] = false
is_number (b ∷ rest) = is_ascii_digit b && list_all is_ascii_digit rest

-- each text behind a dot
abbrev pub behind_dots : List (List ℕ) → List ℕ
behind_dots [] = []
behind_dots (part ∷ rest) = 46 ∷ (part ++ behind_dots rest)

-- the texts joined by dots
abbrev pub join_dots : List (List ℕ) → List ℕ
join_dots [] = []
join_dots (part ∷ rest) = part ++ behind_dots rest

-- what a version text is made of: numbers as they are written, labels and metadata, which are
-- empty where it has none
pub record Pieces : Type 0 where
  pub numbers : List (List ℕ)
  pub labels : List ℕ
  pub meta : List ℕ

-- one to four numbers of digits; labels and metadata of parts that aren't empty
pub record ArePieces (p : Pieces) : Type 0 where
  pub some : 1 ≤ length p.numbers
  pub few : length p.numbers ≤ 4
  pub digits : IsTrue (list_all is_number p.numbers)
  pub labels : IsTrue (is_dotted p.labels)
  pub meta : IsTrue (is_dotted p.meta)

-- their text: numbers joined by dots, labels behind `-`, metadata behind `+`
abbrev pub pieces_text : Pieces → List ℕ
pieces_text p = join_dots p.numbers ++ (marked 45 p.labels ++ marked 43 p.meta)

-- the text is in the grammar, with these pieces
pub record IsMadeOf (text : List ℕ) (p : Pieces) : Type 0 where
  pub are : ArePieces p
  pub spelled : text ≡ pieces_text p

-- a text of the grammar
abbrev pub IsVersionText : List ℕ → Type 0
IsVersionText text = (p : Pieces) × IsMadeOf text p

-- the text begins some version text
abbrev pub Begins : List ℕ → Type 0
Begins text = (rest : List ℕ) × IsVersionText (text ++ rest)

-- the longest prefix of the text that begins some version text has this length
pub record IsLongestFront (text : List ℕ) (at : ℕ) : Type 0 where
  pub within : at ≤ length text
  pub begins : Begins (take at text)
  pub longest : (n : ℕ) → at < n → n ≤ length text → Begins (take n text) → ⊥

-- the number at a place, and 0 where it is missing
abbrev pub number_at : Pieces → ℕ → ℕ
number_at p k = digits_value 10 (slice_index_or p.numbers k [])

-- where the first number above the limit begins, of numbers joined by dots from this place on
abbrev pub first_too_big : ℕ → List (List ℕ) → Option ℕ
first_too_big at [] = None
first_too_big at (number ∷ rest) =
    if nat_lt 2147483647 (digits_value 10 number) then Some at else first_too_big (at + length number + 1) rest

-- the text has at most 64 bytes, and is one of this version
pub record Spells (text : List ℕ) (v : Version) : Type 0 where
  pub short : length text ≤ 64
  pub pieces : Pieces
  pub made : IsMadeOf text pieces
  pub major : v.major ≡ number_at pieces 0
  pub minor : v.minor ≡ number_at pieces 1
  pub patch : v.patch ≡ number_at pieces 2
  pub revision : v.revision ≡ number_at pieces 3
  pub labels : v.labels ≡ pieces.labels
  pub meta : v.meta ≡ pieces.meta
