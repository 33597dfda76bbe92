-- The numbers that digits write.
use Rattle.std.proofs.Common.{◌≡◌, ◌<◌, ◌≤◌, ◌+◌, ◌-◌, ◌^◌, ◌/◌, ◌%◌, ℕ, zero, suc, List, [], ◌∷◌, length, take, get_or, arith, length-take}
use Rattle.std.specs.Char.{digit_value}
use Rattle.std.specs.Str.Parse.{AllDigits, digits_value}
use Rattle.std.proofs.Math.Nat.{pow-le-pow_right, pow-suc}
use Rattle.std.proofs.lemmas.Bool.Decides.{nat_tests}
use Rattle.std.proofs.lemmas.Int.Digits.{digits_value-lt, digits_value_push, digits_push}
use Rattle.std.proofs.lemmas.Str.Parse.{digit_at}
use Rattle.ticks.specs.Stamp.{last_digits}

AllDigits-take : (ds : List ℕ) (i : ℕ) → AllDigits 10 ds → AllDigits 10 (take i ds)
AllDigits-take ds zero h = tt
AllDigits-take [] (suc i) h = tt
AllDigits-take (d ∷ ds) (suc i) h = (h.0, AllDigits-take ds i h.1)

-- a prefix of at most six digits writes a small number
pub front_small : (ds : List ℕ) (i : ℕ) → AllDigits 10 ds → length ds ≤ 7 → i < length ds → digits_value 10 (take i ds) < 1_000_000
front_small ds i h short in_ds =
    let front = digits_value-lt 10 (take i ds) (AllDigits-take ds i h) in
    let long : length (take i ds) ≤ 6 = simp length-take (omega arith) in
    let power : 10 ^ length (take i ds) ≤ 10 ^ 6 = pow-le-pow_right (omega arith) long in
    omega arith

-- a digit of the text and its value
pub digit_is : (ds : List ℕ) (i : ℕ) → AllDigits 10 ds → i < length ds → (48 ≤ get_or ds i 0) × (get_or ds i 0 ≤ 57) × (digit_value (get_or ds i 0) ≡ get_or ds i 0 - 48)
digit_is ds i h in_ds = value_of (get_or ds i 0) (digit_at ds i h in_ds).0 (digit_at ds i h in_ds).1 where
  value_of : (b : ℕ) → 48 ≤ b → b ≤ 57 → (48 ≤ b) × (b ≤ 57) × (digit_value b ≡ b - 48)
  value_of b low high = (low, high, grind (arith, nat_tests))

glyph_value : (d : ℕ) → d < 10 → digit_value (48 + d) ≡ d
glyph_value d small = grind (arith, nat_tests)

pub AllDigits-last_digits : (width n : ℕ) → AllDigits 10 (last_digits width n)
unfolding last_digits
AllDigits-last_digits zero n = tt
AllDigits-last_digits (suc width) n =
    let value = glyph_value (n % 10) (omega arith) in
    digits_push 10 (last_digits width (n / 10)) (48 + n % 10) (AllDigits-last_digits width (n / 10)) (omega arith)

pub digits_value-last_digits : (width n : ℕ) → n < 10 ^ width → digits_value 10 (last_digits width n) ≡ n
unfolding last_digits
digits_value-last_digits zero n fits = omega arith
digits_value-last_digits (suc width) n fits =
    let value = glyph_value (n % 10) (omega arith) in
    let power = pow-suc 10 width in
    let front = digits_value-last_digits width (n / 10) (omega arith) in
    omega (arith, digits_value_push 10 (last_digits width (n / 10)) (48 + n % 10))
