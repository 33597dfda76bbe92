-- The text of a moment: the date and the time of day in the proleptic Gregorian calendar, to the tick of 100 nanoseconds.
use Rattle.std.specs.Prelude.{ℕ, zero, suc, ◌+◌, ◌-◌, ◌*◌, ◌/◌, ◌%◌, List, [], ◌∷◌, ◌++◌, nat_lt, if◌then◌else◌}

-- the last digits of a number, in ASCII
unfoldable pub last_digits : ℕ → ℕ → List ℕ
last_digits zero n = []
last_digits (suc width) n = last_digits width (n / 10) ++ (48 + n % 10) ∷ []

-- a date of the calendar
pub record Civil : Type 0 where
  pub year : ℕ
  pub month : ℕ
  pub day : ℕ

-- Years are counted here from 1 March on, so that a leap day comes last: 4 years have 1461 days, and 400 have 146,097.

-- the year from March on that has a day, where day 0 is 1 March of the year 0
abbrev pub march_year : ℕ → ℕ
march_year day = 100 * ((4 * day + 3) / 146_097) + ((4 * day + 3) % 146_097 / 4 * 4 + 3) / 1461

-- how many days of that year come before it
abbrev pub day_of_march_year : ℕ → ℕ
day_of_march_year day = ((4 * day + 3) % 146_097 / 4 * 4 + 3) % 1461 / 4

-- the date of a day of the year y from March on: months have 153 days in five, and those above 12 lie in the next year
abbrev pub date_in_march_year : ℕ → ℕ → Civil
date_in_march_year y day =
    let month : ℕ = (5 * day + 461) / 153 in
    record {
      year = if nat_lt 12 month then y + 1 else y;
      month = if nat_lt 12 month then month - 12 else month;
      day = (5 * day + 461) % 153 / 5 + 1;
    }

-- the date of a day, where day 0 is 0001-01-01
unfoldable pub civil_date : ℕ → Civil
civil_date day = date_in_march_year (march_year (day + 306)) (day_of_march_year (day + 306))

-- `YYYY-MM-DD`
abbrev pub date_text : Civil → List ℕ
date_text d = last_digits 4 d.year ++ 45 ∷ (last_digits 2 d.month ++ 45 ∷ last_digits 2 d.day)

-- `HH:MM:SS.fffffff` of a number of ticks since midnight
abbrev pub time_text : ℕ → List ℕ
time_text t =
    last_digits 2 (t / 36_000_000_000) ++ 58 ∷ (last_digits 2 (t / 600_000_000 % 60) ++ 58 ∷ (last_digits 2 (t / 10_000_000 % 60) ++ 46 ∷ last_digits 7 (t % 10_000_000)))

-- `YYYY-MM-DDTHH:MM:SS.fffffffZ` of a number of ticks since 0001-01-01T00:00:00
unfoldable pub stamp_text : ℕ → List ℕ
stamp_text n = date_text (civil_date (n / 864_000_000_000)) ++ 84 ∷ (time_text (n % 864_000_000_000) ++ 90 ∷ [])
