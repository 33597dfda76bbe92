-- How the text of a range is cut.
use Rattle.std.specs.Prelude.{ℕ, ◌-◌, ◌==◌, List, [], ◌∷◌, Bool, true, false, if◌then◌else◌, Option, Some, None, length, take, slice_index, option_map}
use Rattle.version_range.specs.Bytes.{is_space, is_comma}

-- without the spaces at the start
abbrev pub without_spaces_before : List ℕ → List ℕ
without_spaces_before [] = []
without_spaces_before (b ∷ rest) = if is_space b then without_spaces_before rest else b ∷ rest

-- a byte, unless it is a space with nothing behind it
abbrev pub before_kept : ℕ → List ℕ → List ℕ
before_kept b [] = if is_space b then [] else b ∷ []
before_kept b (c ∷ rest) = b ∷ c ∷ rest

-- without the spaces at the end
abbrev pub without_spaces_behind : List ℕ → List ℕ
without_spaces_behind [] = []
without_spaces_behind (b ∷ rest) = before_kept b (without_spaces_behind rest)

-- without the spaces at both ends
unfoldable pub trimmed : List ℕ → List ℕ
trimmed text = without_spaces_behind (without_spaces_before text)

-- how many spaces stand at the start: all of them, where there is nothing else
unfoldable pub lead : List ℕ → ℕ
lead text = length text - length (without_spaces_before text)

-- what stands behind an opening bracket, and whether the bracket is square
abbrev pub opened : List ℕ → Option (Bool × List ℕ)
opened [] = None
opened (b ∷ rest) = if b == 91 then Some (true, rest) else (if b == 40 then Some (false, rest) else None)

-- what stands before a closing bracket, and whether the bracket is square
abbrev pub closed_by : ℕ → List ℕ → Option (Bool × List ℕ)
closed_by last front = if last == 93 then Some (true, front) else (if last == 41 then Some (false, front) else None)

-- the same of a text, by its last byte
unfoldable pub closed : List ℕ → Option (Bool × List ℕ)
closed text = closed_by (slice_index text (length text - 1)) (take (length text - 1) text)

-- what stands before the first comma, and what stands behind it
abbrev pub in_front : ℕ → List ℕ × List ℕ → List ℕ × List ℕ
in_front b cut = (b ∷ cut.0, cut.1)

-- a text cut at its first comma
abbrev pub parted : List ℕ → Option (List ℕ × List ℕ)
parted [] = None
parted (b ∷ rest) = if is_comma b then Some ([], rest) else option_map (in_front b) (parted rest)
