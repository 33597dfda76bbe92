-- Which texts name a moment, and what is wrong with the others.
use Rattle.std.specs.Prelude.{◌≡◌, ◌<◌, ◌≤◌, ◌+◌, ◌-◌, ◌*◌, ◌^◌, ℕ, zero, suc, List, [], ◌∷◌, ◌++◌, length, take, codes}
use Rattle.ticks.specs.declared.error.TickErr.{TickErr}
use Rattle.ticks.specs.declared.error.TickErr.TheVariants.{BadByte, OutOfRange, Memory}
use Rattle.ticks.specs.Calendar.{IsDateAt}
use Rattle.ticks.specs.Stamp.{last_digits}

-- the two ways to write the offset of UTC
pub data Zone : Type 0 where
  letter : Zone
  digits : Zone

-- the numbers of a text, and how many decimals the second has
pub record Written : Type 0 where
  pub year : ℕ
  pub month : ℕ
  pub day : ℕ
  pub hour : ℕ
  pub minute : ℕ
  pub second : ℕ
  pub places : ℕ
  pub fraction : ℕ
  pub zone : Zone

-- each number fits the digits that it is written with
pub record FitsForm (w : Written) : Type 0 where
  pub year : w.year < 10_000
  pub month : w.month < 100
  pub day : w.day < 100
  pub hour : w.hour < 100
  pub minute : w.minute < 100
  pub second : w.second < 100
  pub places : w.places ≤ 7
  pub fraction : w.fraction < 10 ^ w.places

-- a point and the decimals, where there are any
abbrev pub decimals_text : ℕ → ℕ → List ℕ
decimals_text zero fraction = []
decimals_text (suc n) fraction = 46 ∷ last_digits (suc n) fraction

-- how UTC is written
abbrev pub zone_text : Zone → List ℕ
zone_text letter = codes "Z"
zone_text digits = codes "+00:00"

-- `YYYY-MM-DDTHH:MM:SS`, the decimals and the offset
unfoldable pub written_text : Written → List ℕ
written_text w =
    last_digits 4 w.year ++ 45 ∷ (last_digits 2 w.month ++ 45 ∷ (last_digits 2 w.day ++ 84 ∷ (last_digits 2 w.hour ++ 58 ∷ (last_digits 2 w.minute ++ 58 ∷ (last_digits 2 w.second ++ (decimals_text w.places w.fraction ++ zone_text w.zone))))))

-- the text has the form, and these numbers
pub record IsTextOf (w : Written) (text : List ℕ) : Type 0 where
  pub fits : FitsForm w
  pub spelled : text ≡ written_text w

-- a text of the form
abbrev pub IsForm : List ℕ → Type 0
IsForm text = (w : Written) × IsTextOf w text

-- the calendar has the date, from 0001-01-01 on, a clock shows the time, and the moment has this number
pub record IsMomentOf (w : Written) (number : ℕ) : Type 0 where
  pub days : ℕ
  pub date : IsDateAt days (record { year = w.year; month = w.month; day = w.day })
  pub hour : w.hour < 24
  pub minute : w.minute < 60
  pub second : w.second < 60
  pub counted : number ≡ (((days * 24 + w.hour) * 60 + w.minute) * 60 + w.second) * 10_000_000 + w.fraction * 10 ^ (7 - w.places)

-- a text of the form that names this moment
abbrev pub NamesMoment : List ℕ → ℕ → Type 0
NamesMoment text number = (w : Written) × IsTextOf w text × IsMomentOf w number

-- the text begins some text of the form
abbrev pub BeginsForm : List ℕ → Type 0
BeginsForm text = (rest : List ℕ) × IsForm (text ++ rest)

-- the longest prefix of the text that begins some text of the form has this length
pub record IsLongestFormFront (text : List ℕ) (at : ℕ) : Type 0 where
  pub within : at ≤ length text
  pub begins : BeginsForm (take at text)
  pub longest : (n : ℕ) → at < n → n ≤ length text → BeginsForm (take n text) → ⊥

-- when each refusal comes
abbrev pub Refuses : List ℕ → TickErr → Type 0
Refuses text (BadByte at) = (IsForm text → ⊥) × IsLongestFormFront text at
Refuses text OutOfRange = IsForm text × ((number : ℕ) → NamesMoment text number → ⊥)
Refuses text Memory = ⊥
