-- The date of a day number is the one of jiff's calendar.
use Rattle.std.proofs.Common.{◌≡◌, ℕ, suc, ◌+◌, ◌-◌, ◌*◌, ◌/◌, ◌%◌, ◌<◌, ◌≤◌, true, false, nat_lt, arith, pos, ◌+ℤ◌, ⊎_elim, subst, sym}
use Rattle.std.proofs.lemmas.Bool.Decides.{nat_tests}
use Rattle.std.proofs.lemmas.Bool.{cases_lt}
use Rattle.jiff_core.specs.March.{march_days}
use Rattle.jiff_core.proofs.SignedLemmas.{signed_arith}
use Rattle.jiff_core.proofs.MarchLemmas.{leap_day, march_days-suc, day_count-early, day_count-late, month_and_day, day_in_month, day_in_early_month}
use Rattle.jiff_core.proofs.CalendarLemmas.{days_from_civil-day_count}
use Rattle.jiff_core.proofs.DateLemmas.{epoch_day_injective}
use Rattle.jiff_core.specs.Date.{epoch_day}
use Rattle.jiff_core.specs.declared.civil.date.Date.{Date}
use Rattle.ticks.specs.Calendar.{IsDateAt}
use Rattle.ticks.specs.Stamp.{Civil, march_year, day_of_march_year, date_in_march_year, civil_date}

-- a day is its year's first of March and its place in that year
march_year_is : (n : ℕ) → march_days (march_year n) + day_of_march_year n ≡ n
march_year_is n = omega arith

before_next_march : (n : ℕ) → n < march_days (march_year n + 1)
before_next_march n = omega arith

-- dates from March to December, and those of January and February
late_date : (y n : ℕ) → (5 * n + 461) / 153 ≤ 12 → date_in_march_year y n ≡ record { year = y; month = (5 * n + 461) / 153; day = (5 * n + 461) % 153 / 5 + 1 }
late_date y n h = let test : nat_lt 12 ((5 * n + 461) / 153) ≡ false = grind (arith, nat_tests) in rw test

early_date : (y n : ℕ) → 12 < (5 * n + 461) / 153 → date_in_march_year y n ≡ record { year = y + 1; month = (5 * n + 461) / 153 - 12; day = (5 * n + 461) % 153 / 5 + 1 }
early_date y n h = let test : nat_lt 12 ((5 * n + 461) / 153) ≡ true = grind (arith, nat_tests) in rw test

-- the calendar is the same 10000 years on
march_days-shift : (y : ℕ) → march_days (y + 10_000) ≡ march_days y + 3_652_425
march_days-shift y = omega arith

-- the day lies within its year
place_in_year : (n : ℕ) → day_of_march_year n < 365 + leap_day (pos (march_year n + 1))
place_in_year n =
    let next : suc (march_year n) ≡ march_year n + 1 = omega arith in
    omega (arith, march_year_is n, before_next_march n, rw next at (march_days-suc (march_year n)))

place_bound : (n : ℕ) → day_of_march_year n < 366
place_bound n = omega arith

module _ (day y n : ℕ) (place : n < 366) (within : n < 365 + leap_day (pos (y + 1))) (count : march_days y + n ≡ day + 306) (bound : day < 3_652_059) where
  late : (5 * n + 461) / 153 ≤ 12 → IsDateAt day (date_in_march_year y n)
  late h =
      let month = (5 * n + 461) / 153 in
      let counted = day_count-late (pos y) (y + 10_000) ((5 * n + 461) / 153) ((5 * n + 461) % 153 / 5 + 1) (omega (arith, signed_arith)) (omega arith) h (omega arith) in
      rw (late_date y n h) (record {
        on_calendar = (omega (arith, signed_arith), omega arith, (omega arith, day_in_month (pos y) n h));
        counted = omega (arith, signed_arith, days_from_civil-day_count (pos y) ((5 * n + 461) / 153) ((5 * n + 461) % 153 / 5 + 1), counted, march_days-shift y, month_and_day n place);
      })

  early : 12 < (5 * n + 461) / 153 → IsDateAt day (date_in_march_year y n)
  early h =
      let same : (5 * n + 461) / 153 - 12 + 12 ≡ (5 * n + 461) / 153 = omega arith in
      let counted = rw same at (day_count-early (pos (y + 1)) (y + 10_000) ((5 * n + 461) / 153 - 12) ((5 * n + 461) % 153 / 5 + 1) (omega (arith, signed_arith)) (omega arith) (omega arith) (omega arith)) in
      rw (early_date y n h) (record {
        on_calendar = (omega (arith, signed_arith), omega arith, (omega arith, day_in_early_month (pos (y + 1)) n h within));
        counted = omega (arith, signed_arith, days_from_civil-day_count (pos (y + 1)) ((5 * n + 461) / 153 - 12) ((5 * n + 461) % 153 / 5 + 1), counted, march_days-shift y, month_and_day n place);
      })

-- the date of a day number is the one that jiff's calendar has there
pub civil_date_is : (day : ℕ) → day < 3_652_059 → IsDateAt day (civil_date day)
unfolding civil_date
civil_date_is day bound =
    let n = day + 306 in
    let fact = march_year_is n in
    ⊎_elim
    (early day (march_year n) (day_of_march_year n) (place_bound n) (place_in_year n) fact bound)
    (late day (march_year n) (day_of_march_year n) (place_bound n) (place_in_year n) fact bound)
    (cases_lt 12 ((5 * day_of_march_year n + 461) / 153))

-- no date lies before the year 1, or behind 9999
first_year : (day y n : ℕ) → march_days y + n ≡ day + 306 → 1 ≤ (date_in_march_year y n).year
first_year day y n count =
    ⊎_elim
    (λ h. subst (λ (d : Civil). 1 ≤ d.year) (sym (early_date y n h)) (omega arith))
    (λ h. subst (λ (d : Civil). 1 ≤ d.year) (sym (late_date y n h)) (omega arith))
    (cases_lt 12 ((5 * n + 461) / 153))

pub civil_date-year : (day : ℕ) → day < 3_652_059 → (1 ≤ (civil_date day).year) × ((civil_date day).year ≤ 9999)
unfolding civil_date
civil_date-year day bound =
    let is = (civil_date_is day bound).on_calendar.0 in
    (first_year day (march_year (day + 306)) (day_of_march_year (day + 306)) (march_year_is (day + 306)), omega (arith, signed_arith))

-- and jiff's date of that day is no other
pub civil_date-only : (d : Date) (day : ℕ) → day < 3_652_059 → epoch_day d +ℤ pos 4_371_587 ≡ pos (day + 3_652_425) → (d.year ≡ pos (civil_date day).year) × (d.month ≡ (civil_date day).month) × (d.day ≡ (civil_date day).day)
civil_date-only d day bound e =
    let is = civil_date_is day bound in
    let c = civil_date day in
    let date : Date = record { year = pos c.year; month = c.month; day = c.day; year_in = is.on_calendar.0; month_in = is.on_calendar.1; day_in = is.on_calendar.2 } in
    let counted = is.counted in
    epoch_day_injective d date (omega (arith, signed_arith, counted))
