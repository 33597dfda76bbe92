-- The pieces of a stamp in a row, its length and its bytes.
use Rattle.std.proofs.Common.{◌≡◌, ◌/◌, ◌%◌, ℕ, List, [], ◌∷◌, ◌++◌, length, arith, append_assoc, length-append, sym, subst}
use Rattle.std.specs.Str.{IsAscii}
use Rattle.ticks.specs.Stamp.{last_digits, civil_date, stamp_text}
use Rattle.ticks.proofs.Digits.{length-last_digits, IsAscii-digits_then}
use Rattle.std.proofs.lemmas.Str.Ascii.{IsAscii-nil}

-- the seven numbers of a stamp, and the signs between
abbrev pub row_text : ℕ → ℕ → ℕ → ℕ → ℕ → ℕ → ℕ → List ℕ
row_text year month day hour minute second ticks =
    last_digits 4 year ++ 45 ∷ (last_digits 2 month ++ 45 ∷ (last_digits 2 day ++ 84 ∷ (last_digits 2 hour ++ 58 ∷ (last_digits 2 minute ++ 58 ∷ (last_digits 2 second ++ 46 ∷ (last_digits 7 ticks ++ 90 ∷ []))))))

pieces_in_row : (a b c d e f g : List ℕ) → (a ++ 45 ∷ (b ++ 45 ∷ c)) ++ 84 ∷ ((d ++ 58 ∷ (e ++ 58 ∷ (f ++ 46 ∷ g))) ++ 90 ∷ []) ≡ a ++ 45 ∷ (b ++ 45 ∷ (c ++ 84 ∷ (d ++ 58 ∷ (e ++ 58 ∷ (f ++ 46 ∷ (g ++ 90 ∷ []))))))
pieces_in_row a b c d e f g = simp append_assoc

pub stamp_text-row : (n : ℕ) → stamp_text n ≡ row_text (civil_date (n / 864_000_000_000)).year (civil_date (n / 864_000_000_000)).month (civil_date (n / 864_000_000_000)).day (n % 864_000_000_000 / 36_000_000_000) (n % 864_000_000_000 / 600_000_000 % 60) (n % 864_000_000_000 / 10_000_000 % 60) (n % 864_000_000_000 % 10_000_000)
unfolding stamp_text
stamp_text-row n = pieces_in_row _ _ _ _ _ _ _

length-row_text : (year month day hour minute second ticks : ℕ) → length (row_text year month day hour minute second ticks) ≡ 28
length-row_text year month day hour minute second ticks =
    simp (length-append, length-last_digits)

pub length-stamp_text : (n : ℕ) → length (stamp_text n) ≡ 28
length-stamp_text n = rw (stamp_text-row n) (length-row_text _ _ _ _ _ _ _)

IsAscii-row_text : (year month day hour minute second ticks : ℕ) → IsAscii (row_text year month day hour minute second ticks)
IsAscii-row_text year month day hour minute second ticks =
    IsAscii-digits_then 4 year 45 _ (omega arith) (IsAscii-digits_then 2 month 45 _ (omega arith) (IsAscii-digits_then 2 day 84 _ (omega arith) (IsAscii-digits_then 2 hour 58 _ (omega arith) (IsAscii-digits_then 2 minute 58 _ (omega arith) (IsAscii-digits_then 2 second 46 _ (omega arith) (IsAscii-digits_then 7 ticks 90 [] (omega arith) IsAscii-nil))))))

pub IsAscii-stamp_text : (n : ℕ) → IsAscii (stamp_text n)
IsAscii-stamp_text n = subst IsAscii (sym (stamp_text-row n)) (IsAscii-row_text _ _ _ _ _ _ _)
