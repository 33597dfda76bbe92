-- The texts that a version is made of.
use Rattle.std.specs.Prelude.{ℕ, ◌==◌, ◌&&◌, ◌||◌, nat_le, if◌then◌else◌, Bool, true, false, List, [], ◌∷◌, ◌++◌}
use Rattle.std.specs.List.{list_all, slice_split}
use Rattle.std.specs.Fmt.{decimal}

-- a byte of labels and of metadata: an ASCII letter, a digit or `-` (SemVer 2.0.0, sections 9 and 10)
abbrev pub is_part_byte : ℕ → Bool
is_part_byte b = (nat_le 48 b && nat_le b 57) || ((nat_le 65 b && nat_le b 90) || ((nat_le 97 b && nat_le b 122) || (b == 45)))

-- one such byte or more
abbrev pub is_part : List ℕ → Bool
is_part [] = false
is_part (b ∷ rest) = is_part_byte b && list_all is_part_byte rest

-- the parts of a text between its dots
abbrev pub parts : List ℕ → List (List ℕ)
parts text = slice_split (λ b. b == 46) text

-- nothing, or parts joined by dots
unfoldable pub is_dotted : List ℕ → Bool
is_dotted [] = true
is_dotted (b ∷ rest) = list_all is_part (parts (b ∷ rest))

-- a text behind its mark, and nothing where it is empty
abbrev pub marked : ℕ → List ℕ → List ℕ
marked mark [] = []
marked mark (b ∷ rest) = mark ∷ b ∷ rest

-- the fourth number, which isn't printed where it is 0
abbrev pub fourth_of : ℕ → List ℕ
fourth_of n = if n == 0 then [] else 46 ∷ decimal n

-- the numbers, joined by dots
abbrev pub numbers_of : ℕ → ℕ → ℕ → ℕ → List ℕ
numbers_of major minor patch revision = decimal major ++ (46 ∷ (decimal minor ++ (46 ∷ (decimal patch ++ fourth_of revision))))

-- the full form: numbers, labels behind `-`, metadata behind `+`
unfoldable pub full_of : ℕ → ℕ → ℕ → ℕ → List ℕ → List ℕ → List ℕ
full_of major minor patch revision labels meta = numbers_of major minor patch revision ++ (marked 45 labels ++ marked 43 meta)
