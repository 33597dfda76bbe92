-- What jiff's calendar says of a date.
use Rattle.std.specs.Prelude.{◌≡◌, ℕ, pos, ◌+ℤ◌}
use Rattle.jiff_core.specs.Calendar.{IsCivilDate, days_from_civil}
use Rattle.ticks.specs.Stamp.{Civil}

-- the calendar has the date, so many days after 0001-01-01, which is 719,162 days before 1970-01-01
pub record IsDateAt (day : ℕ) (d : Civil) : Type 0 where
  pub on_calendar : IsCivilDate (pos d.year) d.month d.day
  pub counted : days_from_civil (pos d.year) d.month d.day +ℤ pos 719_162 ≡ pos day
