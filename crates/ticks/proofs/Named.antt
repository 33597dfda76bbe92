-- A stamp names its moment.
use Rattle.std.proofs.Common.{◌≡◌, ◌<◌, ◌≤◌, ◌+◌, ◌-◌, ◌*◌, ◌/◌, ◌%◌, ◌^◌, ℕ, arith, pos}
use Rattle.jiff_core.proofs.CalendarLemmas.{days_in_month_bounds}
use Rattle.ticks.specs.Stamp.{civil_date, stamp_text, last_digits}
use Rattle.ticks.specs.Reading.{letter, Written, FitsForm, IsTextOf, IsMomentOf, NamesMoment, written_text}
use Rattle.ticks.proofs.Dates.{civil_date_is, civil_date-year}
use Rattle.ticks.proofs.StampLemmas.{stamp_text-row}

-- the numbers of a stamp
abbrev pub stamp_numbers : ℕ → Written
stamp_numbers n = record {
  year = (civil_date (n / 864_000_000_000)).year;
  month = (civil_date (n / 864_000_000_000)).month;
  day = (civil_date (n / 864_000_000_000)).day;
  hour = n % 864_000_000_000 / 36_000_000_000;
  minute = n % 864_000_000_000 / 600_000_000 % 60;
  second = n % 864_000_000_000 / 10_000_000 % 60;
  places = 7;
  fraction = n % 864_000_000_000 % 10_000_000;
  zone = letter;
}

day_bound : (n : ℕ) → n ≤ 3_155_378_975_999_999_999 → n / 864_000_000_000 < 3_652_059
day_bound n h = omega arith

pub stamp_is_text : (n : ℕ) → n ≤ 3_155_378_975_999_999_999 → IsTextOf (stamp_numbers n) (stamp_text n)
unfolding written_text last_digits
stamp_is_text n h =
    let date = (civil_date_is (n / 864_000_000_000) (day_bound n h)).on_calendar in
    let year = civil_date-year (n / 864_000_000_000) (day_bound n h) in
    let month = date.1 in
    let day = date.2 in
    let bounds = days_in_month_bounds (pos (civil_date (n / 864_000_000_000)).year) (civil_date (n / 864_000_000_000)).month in
    record {
      fits = record {
        year = omega (arith, year.1);
        month = omega (arith, month.1);
        day = omega (arith, day.1, bounds.0);
        hour = omega arith;
        minute = omega arith;
        second = omega arith;
        places = omega arith;
        fraction = omega arith;
      };
      spelled = stamp_text-row n;
    }

stamp_count : (n : ℕ) → n ≡ (((n / 864_000_000_000 * 24 + n % 864_000_000_000 / 36_000_000_000) * 60 + n % 864_000_000_000 / 600_000_000 % 60) * 60 + n % 864_000_000_000 / 10_000_000 % 60) * 10_000_000 + n % 864_000_000_000 % 10_000_000 * 10 ^ (7 - 7)
stamp_count n = omega arith

pub stamp_is_moment : (n : ℕ) → n ≤ 3_155_378_975_999_999_999 → IsMomentOf (stamp_numbers n) n
stamp_is_moment n h = record {
  days = n / 864_000_000_000;
  date = civil_date_is (n / 864_000_000_000) (day_bound n h);
  hour = omega arith;
  minute = omega arith;
  second = omega arith;
  counted = stamp_count n;
}

pub stamp_names : (n : ℕ) → n ≤ 3_155_378_975_999_999_999 → NamesMoment (stamp_text n) n
stamp_names n h = (stamp_numbers n, stamp_is_text n h, stamp_is_moment n h)

pub stamp_fits : (n : ℕ) → n ≤ 3_155_378_975_999_999_999 → FitsForm (stamp_numbers n)
stamp_fits n h = (stamp_is_text n h).fits
