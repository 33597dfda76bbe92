-- The digits of a number with a fixed width.
use Rattle.std.proofs.Common.{◌≡◌, ℕ, zero, suc, ◌+◌, ◌-◌, ◌*◌, ◌/◌, ◌%◌, ◌^◌, ◌<◌, ◌≤◌, List, [], ◌∷◌, ◌++◌, length, false, refl, sym, ap, ◌∙◌, arith, length-append, append_assoc, append-nil, ⊎_elim}
use Rattle.std.specs.Prelude.{replicate}
use Rattle.std.specs.Str.{IsAscii}
use Rattle.std.specs.Fmt.{decimal, padded_integral, format_spec, char_count}
use Rattle.std.proofs.lemmas.Bool.{cases_lt}
use Rattle.std.proofs.lemmas.Fmt.{decimal_digit, decimal_step}
use Rattle.std.proofs.lemmas.List.{replicate_more}
use Rattle.std.proofs.lemmas.Str.{IsAscii-append}
use Rattle.std.proofs.lemmas.Str.Ascii.{IsAscii-nil}
use Rattle.std.proofs.Math.Nat.{pow-succ'}
use Rattle.ticks.specs.Stamp.{last_digits}

pub length-last_digits : (width n : ℕ) → length (last_digits width n) ≡ width
unfolding last_digits
length-last_digits zero n = refl
length-last_digits (suc width) n = omega (arith, length-append (last_digits width (n / 10)) ((48 + n % 10) ∷ []), length-last_digits width (n / 10))

suc-is : (n : ℕ) → suc n ≡ n + 1
suc-is n = omega arith

last_digits-zero : (width : ℕ) → last_digits width 0 ≡ replicate width 48
unfolding last_digits
last_digits-zero zero = refl
last_digits-zero (suc width) =
    ap (λ (l : List ℕ). l ++ 48 ∷ []) (last_digits-zero width) ∙ replicate_more width 48 ∙ ap (λ (k : ℕ). replicate k 48) (sym (suc-is width))

-- a number that fits the width has zeros before its own digits
last_digits-decimal : (width n : ℕ) → n < 10 ^ width → n < 2 ^ 64 → 0 < width → last_digits width n ≡ replicate (width - length (decimal n)) 48 ++ decimal n
unfolding last_digits
last_digits-decimal zero n fits small some = absurd (omega arith)
last_digits-decimal (suc zero) n fits small some =
    let none : n / 10 ≡ 0 = omega arith in
    let same : n % 10 ≡ n = omega arith in
    rw (same, decimal_digit n fits)
last_digits-decimal (suc (suc width)) n fits small some =
    ⊎_elim
    (λ (one : n < 10).
    let none : n / 10 ≡ 0 = omega arith in
    let same : n % 10 ≡ n = omega arith in
    let back : suc (suc width) - 1 ≡ suc width = omega arith in
    rw (decimal_digit n one, none, same, last_digits-zero (suc width), back))
    (λ (more : 10 ≤ n).
    let power : 10 ^ suc (suc width) ≡ 10 * 10 ^ suc width = pow-succ' 10 (suc width) in
    let rest = last_digits-decimal (suc width) (n / 10) (omega arith) (omega arith) (omega arith) in
    let long = length-append (decimal (n / 10)) ((48 + n % 10) ∷ []) in
    let gap : suc (suc width) - (length (decimal (n / 10)) + 1) ≡ suc width - length (decimal (n / 10)) = omega arith in
    rw (decimal_step n more small, long, gap, rest, append_assoc))
    (cases_lt n 10)

-- what a hole with a width and `0` writes
abbrev pub padded : ℕ → ℕ → List ℕ
padded width n = padded_integral (format_spec 32 0 4 width (2 ^ 64 - 1)) false [] (decimal n)

-- what `{:02}`, `{:04}` and `{:07}` write
pub padded-2 : (n : ℕ) → n < 100 → padded 2 n ≡ last_digits 2 n
unfolding padded_integral char_count
padded-2 n fits =
    let gap : 2 - length (decimal n) - 0 - 0 ≡ 2 - length (decimal n) = omega arith in
    rw (gap, last_digits-decimal 2 n fits (omega arith) (omega arith), append-nil)

pub padded-4 : (n : ℕ) → n < 10_000 → padded 4 n ≡ last_digits 4 n
unfolding padded_integral char_count
padded-4 n fits =
    let gap : 4 - length (decimal n) - 0 - 0 ≡ 4 - length (decimal n) = omega arith in
    rw (gap, last_digits-decimal 4 n fits (omega arith) (omega arith), append-nil)

pub padded-7 : (n : ℕ) → n < 10_000_000 → padded 7 n ≡ last_digits 7 n
unfolding padded_integral char_count
padded-7 n fits =
    let gap : 7 - length (decimal n) - 0 - 0 ≡ 7 - length (decimal n) = omega arith in
    rw (gap, last_digits-decimal 7 n fits (omega arith) (omega arith), append-nil)

IsAscii-cons : (b : ℕ) (bs : List ℕ) → b < 128 → IsAscii bs → IsAscii (b ∷ bs)
IsAscii-cons b bs first rest zero = first
IsAscii-cons b bs first rest (suc i) = rest i

pub IsAscii-last_digits : (width n : ℕ) → IsAscii (last_digits width n)
unfolding last_digits
IsAscii-last_digits zero n = IsAscii-nil
IsAscii-last_digits (suc width) n =
    IsAscii-append (last_digits width (n / 10)) ((48 + n % 10) ∷ []) (IsAscii-last_digits width (n / 10)) (IsAscii-cons (48 + n % 10) [] (omega arith) IsAscii-nil)

-- digits, a sign between, and more
pub IsAscii-digits_then : (width n sign : ℕ) (rest : List ℕ) → sign < 128 → IsAscii rest → IsAscii (last_digits width n ++ sign ∷ rest)
IsAscii-digits_then width n sign rest small h = IsAscii-append (last_digits width n) (sign ∷ rest) (IsAscii-last_digits width n) (IsAscii-cons sign rest small h)
