-- How long printed texts are.
use Rattle.std.proofs.Common.{◌≡◌, ◌<◌, ◌≤◌, ◌+◌, ◌/◌, ◌%◌, ◌^◌, ℕ, List, [], ◌∷◌, ◌++◌, length, ◌∙◌, ap, arith, inl, inr, length-append}
use Rattle.std.specs.Prelude.{◌==◌}
use Rattle.std.specs.Fmt.{decimal}
use Rattle.std.proofs.lemmas.Bool.{cases_Bool}
use Rattle.std.proofs.lemmas.Fmt.{decimal_digit, decimal_step, length-decimal-le}
use Rattle.nuget_version.specs.Parts.{fourth_of, full_of, marked, numbers_of}
use Rattle.nuget_version.specs.declared.version.Version.{Version}

pub digits_one : (n : ℕ) → n < 10 → length (decimal n) ≡ 1
digits_one n small = ap length (decimal_digit n small)

pub digits_more : (n : ℕ) → 10 ≤ n → n < 2 ^ 64 → length (decimal n) ≡ length (decimal (n / 10)) + 1
digits_more n big fits = ap length (decimal_step n big fits) ∙ length-append (decimal (n / 10)) ((48 + n % 10) ∷ [])

pub length-full_of : (a b c d : ℕ) (labels meta : List ℕ)
    → length (full_of a b c d labels meta) ≡ length (numbers_of a b c d) + length (marked 45 labels) + length (marked 43 meta)
unfolding full_of
length-full_of a b c d labels meta =
    omega (arith, length-append (numbers_of a b c d) (marked 45 labels ++ marked 43 meta), length-append (marked 45 labels) (marked 43 meta))

pub length-marked_some : (mark : ℕ) (t : List ℕ) → 0 < length t → length (marked mark t) ≡ length t + 1
length-marked_some mark [] some = absurd (omega arith)
length-marked_some mark (b ∷ t) some = omega arith

length-le-marked : (mark : ℕ) (t : List ℕ) → length t ≤ length (marked mark t)
length-le-marked mark [] = omega arith
length-le-marked mark (b ∷ t) = omega arith

length-marked-le : (mark : ℕ) (t : List ℕ) → length (marked mark t) ≤ length t + 1
length-marked-le mark [] = omega arith
length-marked-le mark (b ∷ t) = omega arith

-- a number of 32 bits has at most 10 digits
decimal_short : (n : ℕ) → n < 2 ^ 32 → length (decimal n) ≤ 10
decimal_short n fits = length-decimal-le 10 n (omega arith) (omega arith) (omega arith)

fourth_short : (n : ℕ) → n < 2 ^ 32 → length (fourth_of n) ≤ 11
fourth_short n fits = elim (cases_Bool (n == 0)) [
  | inl none ↦ rw none (omega arith)
  | inr some ↦ rw some (omega (arith, decimal_short n fits))
]

numbers_short : (a b c d : ℕ) → a < 2 ^ 32 → b < 2 ^ 32 → c < 2 ^ 32 → d < 2 ^ 32 → length (numbers_of a b c d) ≤ 43
numbers_short a b c d fa fb fc fd =
    simp length-append (omega (arith, decimal_short a fa, decimal_short b fb, decimal_short c fc, fourth_short d fd))

-- the full form of short texts is short, whatever the numbers
pub full_short : (a b c d : ℕ) (labels meta : List ℕ) → a < 2 ^ 32 → b < 2 ^ 32 → c < 2 ^ 32 → d < 2 ^ 32 → length labels + length meta ≤ 19
    → length (full_of a b c d labels meta) ≤ 64
full_short a b c d labels meta fa fb fc fd short =
    omega (arith, length-full_of a b c d labels meta, numbers_short a b c d fa fb fc fd, length-marked-le 45 labels, length-marked-le 43 meta)

-- the texts of a version are short
pub labels_short : (v : Version) → length v.labels ≤ 64
labels_short v =
    omega (arith, v.short, length-full_of v.major v.minor v.patch v.revision v.labels v.meta, length-le-marked 45 v.labels)

pub meta_short : (v : Version) → length v.meta ≤ 64
meta_short v =
    omega (arith, v.short, length-full_of v.major v.minor v.patch v.revision v.labels v.meta, length-le-marked 43 v.meta)
