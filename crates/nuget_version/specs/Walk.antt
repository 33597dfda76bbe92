-- What each step over a version's text does.
use Rattle.std.specs.Prelude.{◌≡◌, ◌≤◌, ℕ, ◌+◌, ◌-◌, ◌*◌, ◌==◌, ◌&&◌, if◌then◌else◌, min, nat_le, find, option_map, Bool, true, false, List, [], ◌∷◌, length, take, drop, slice_index_or, Option, Some, None}
use Rattle.std.specs.Char.{is_ascii_digit}
use Rattle.std.specs.Str.Parse.{digits_value}
use Rattle.nuget_version.specs.Parts.{is_part_byte, marked}
use Rattle.nuget_version.specs.Grammar.{IsMadeOf, Pieces, first_too_big, join_dots}
use Rattle.nuget_version.specs.declared.walk.Stage.{Stage}
use Rattle.nuget_version.specs.declared.walk.Stage.TheVariants.{Major, Minor, Patch, Revision, Labels, Meta}
use Rattle.nuget_version.specs.declared.walk.Place.{Place}
use Rattle.nuget_version.specs.declared.walk.Number.{Number}
use Rattle.nuget_version.specs.declared.walk.Found.{Found}

-- where the walk stands: in which piece, and whether that has a byte
abbrev pub place : Stage → Bool → Place
place stage begun = record { stage = stage; begun = begun }

-- whether the piece is a number
abbrev pub is_number_stage : Stage → Bool
is_number_stage Labels = false
is_number_stage Meta = false
is_number_stage stage = true

-- where a dot leads behind a number
abbrev pub after_dot : Stage → Option Place
after_dot Major = Some (place Minor false)
after_dot Minor = Some (place Patch false)
after_dot Patch = Some (place Revision false)
after_dot stage = None

-- where a byte that is no digit leads behind a number
abbrev pub after_number : Stage → ℕ → Option Place
after_number stage b =
    if b == 46 then after_dot stage else (if b == 45 then Some (place Labels false) else (if b == 43 then Some (place Meta false) else None))

-- where a `+` behind a part leads
abbrev pub after_plus : Stage → Option Place
after_plus Labels = Some (place Meta false)
after_plus stage = None

-- where a byte of no part leads behind a part
abbrev pub after_part : Stage → ℕ → Option Place
after_part stage b = if b == 46 then Some (place stage false) else (if b == 43 then after_plus stage else None)

-- where a byte in a number leads
abbrev pub next_in_number : Stage → Bool → ℕ → Option Place
next_in_number stage begun b =
    if is_ascii_digit b then Some (place stage true) else (if begun then after_number stage b else None)

-- where a byte in a part leads
abbrev pub next_in_part : Stage → Bool → ℕ → Option Place
next_in_part stage begun b =
    if is_part_byte b then Some (place stage true) else (if begun then after_part stage b else None)

-- the place behind a byte, and nothing where no version text goes on with it
unfoldable pub next_of : Stage → Bool → ℕ → Option Place
next_of stage begun b = if is_number_stage stage then next_in_number stage begun b else next_in_part stage begun b

-- a number with one digit more, at most the first value above the limit
abbrev pub with_digit : Number → ℕ → Number
with_digit n digit = record n { value = min (n.value * 10 + digit) 2147483648 }

-- a number of one digit
abbrev pub first_digit : ℕ → ℕ → Number
first_digit at digit = record { value = digit; at = at }

-- no number yet
abbrev pub nothing_found : Found
nothing_found =
    let zero : Number = record { value = 0; at = 0 } in
    record { major = zero; minor = zero; patch = zero; revision = zero; dash = None; plus = None }

-- the number of a stage
abbrev pub number_of : Stage → Found → Number
number_of Minor f = f.minor
number_of Patch f = f.patch
number_of Revision f = f.revision
number_of stage f = f.major

-- with another number in a stage's place
abbrev pub with_number : Stage → Number → Found → Found
with_number Major n f = record f { major = n }
with_number Minor n f = record f { minor = n }
with_number Patch n f = record f { patch = n }
with_number Revision n f = record f { revision = n }
with_number stage n f = f

-- with one digit more in that place
abbrev pub with_digit_at : Stage → Bool → ℕ → ℕ → Found → Found
with_digit_at stage begun at digit f =
    with_number stage (if begun then with_digit (number_of stage f) digit else first_digit at digit) f

-- what was found, and the place of a dash behind a number or of a plus
abbrev pub with_mark : Stage → ℕ → ℕ → Found → Found
with_mark stage at b f =
    if (b == 45) && is_number_stage stage then record f { dash = Some at } else (if b == 43 then record f { plus = Some at } else f)

-- what was found, and the byte at this place
unfoldable pub note_of : Stage → Bool → ℕ → ℕ → Found → Found
note_of stage begun at b f = if is_ascii_digit b then with_digit_at stage begun at (b - 48) f else with_mark stage at b f

-- whether a byte goes on with the piece of a stage
abbrev pub is_piece_byte : Stage → ℕ → Bool
is_piece_byte stage b = if is_number_stage stage then is_ascii_digit b else is_part_byte b

-- the text between a mark and this end, and nothing without a mark
abbrev pub behind_of : List ℕ → Option ℕ → ℕ → List ℕ
behind_of text None end = []
behind_of text (Some at) end = take (end - (at + 1)) (drop (at + 1) text)

-- a number as it is kept
abbrev pub capped : ℕ → ℕ → Number
capped value at = record { value = min value 2147483648; at = at }

-- what was found, and the bytes of a piece from this place on
abbrev pub with_piece : Stage → ℕ → List ℕ → Found → Found
with_piece stage at [] f = f
with_piece stage at (b ∷ bs) f = with_number stage (capped (digits_value 10 (b ∷ bs)) at) f

-- the numbers that stand behind dots, from this place on
abbrev pub numbers_behind : ℕ → List (List ℕ) → List Number
numbers_behind at [] = []
numbers_behind at (number ∷ rest) = capped (digits_value 10 number) (at + 1) ∷ numbers_behind (at + 1 + length number) rest

-- the numbers of a text, which are joined by dots
abbrev pub numbers_read : List (List ℕ) → List Number
numbers_read [] = []
numbers_read (number ∷ rest) = capped (digits_value 10 number) 0 ∷ numbers_behind (length number) rest

-- the place of a mark, where there is a text behind it
abbrev pub mark_at : ℕ → List ℕ → Option ℕ
mark_at at [] = None
mark_at at (b ∷ rest) = Some at

-- the number at a place, 0 where there is none
abbrev pub number_found : List (List ℕ) → ℕ → Number
number_found numbers k = slice_index_or (numbers_read numbers) k (record { value = 0; at = 0 })

-- what is found in the text of these pieces
unfoldable pub found_of : Pieces → Found
found_of p =
    let dash = length (join_dots p.numbers) in
    record {
      major = number_found p.numbers 0;
      minor = number_found p.numbers 1;
      patch = number_found p.numbers 2;
      revision = number_found p.numbers 3;
      dash = mark_at dash p.labels;
      plus = mark_at (dash + length (marked 45 p.labels)) p.meta;
    }

-- where the first number above the limit begins, of those found
abbrev pub too_big_of : Found → Option ℕ
too_big_of f =
    option_map (λ (n : Number). n.at)
    (find (λ (n : Number). nat_le 2147483648 n.value) (f.major ∷ f.minor ∷ f.patch ∷ f.revision ∷ []))

-- this is found in a text of at most 64 bytes, whose numbers are within the limit
pub record IsFoundIn (text : List ℕ) (f : Found) : Type 0 where
  pub pieces : Pieces
  pub made : IsMadeOf text pieces
  pub found : f ≡ found_of pieces
  pub small : first_too_big 0 pieces.numbers ≡ None
  pub short : length text ≤ 64
