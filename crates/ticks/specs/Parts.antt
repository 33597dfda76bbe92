-- The numbers of a text as the code holds them.
use Rattle.std.specs.Prelude.{◌≡◌, ◌-◌, ◌*◌, ◌^◌}
use Rattle.ticks.specs.declared.civil.CivilDate.{CivilDate}
use Rattle.ticks.specs.declared.reading.Parts.{Parts}
use Rattle.ticks.specs.Reading.{Written}
use Rattle.ticks.specs.Stamp.{Civil}

-- the same date
abbrev pub civil_of : CivilDate → Civil
civil_of d = record { year = d.year; month = d.month; day = d.day }

-- the date is the one that is written
abbrev pub IsDatePartOf : Written → CivilDate → Type 0
IsDatePartOf w d = (d.year ≡ w.year) × (d.month ≡ w.month) × (d.day ≡ w.day)

-- the parts are the numbers of the text, with its decimals in ticks
pub record ArePartsOf (w : Written) (p : Parts) : Type 0 where
  pub date : IsDatePartOf w p.date
  pub hour : p.hour ≡ w.hour
  pub minute : p.minute ≡ w.minute
  pub second : p.second ≡ w.second
  pub ticks : p.ticks ≡ w.fraction * 10 ^ (7 - w.places)
