use Rattle.std.proofs.Common.{◌≡◌, ℕ, ◌≤◌, arith, pos, to_z, of_z, w16, ℤ}
use Rattle.jiff_core.proofs.SignedLemmas.{back_small}
use Rattle.ticks.proofs.Dates.{civil_date-only, civil_date-year}
use Rattle.ticks.specs.Stamp.{civil_date}
use Rattle.ticks.proofs.civil.date_of.Goals as goal

-- the year as the code reads it
year_read : (z : ℤ) (y : ℕ) → y ≤ 9999 → z ≡ pos y → to_z w16 (of_z w16 z) ≡ pos y
year_read z y high e = rw e (back_small w16 (pos y) (omega arith))

pub overflow_cast-result : goal.overflow_cast-result
overflow_cast-result c =
    let only = civil_date-only c.from_days_since_min-date.result c.args.day c.requires c.from_days_since_min-date.ensures in
    let year = civil_date-year c.args.day c.requires in
    rw (year_read c.from_days_since_min-date.result.year (civil_date c.args.day).year year.1 only.0) (tt, omega arith)

pub returns-clause-year : goal.returns-clause-year
returns-clause-year c =
    let only = civil_date-only c.from_days_since_min-date.result c.args.day c.requires c.from_days_since_min-date.ensures in
    let year = civil_date-year c.args.day c.requires in
    rw (year_read c.from_days_since_min-date.result.year (civil_date c.args.day).year year.1 only.0)

pub returns-clause-month : goal.returns-clause-month
returns-clause-month c = (civil_date-only c.from_days_since_min-date.result c.args.day c.requires c.from_days_since_min-date.ensures).1

pub returns-clause-day : goal.returns-clause-day
returns-clause-day c = (civil_date-only c.from_days_since_min-date.result c.args.day c.requires c.from_days_since_min-date.ensures).2

pub returns-clause-year_in : goal.returns-clause-year_in
returns-clause-year_in c =
    let only = civil_date-only c.from_days_since_min-date.result c.args.day c.requires c.from_days_since_min-date.ensures in
    let year = civil_date-year c.args.day c.requires in
    rw (year_read c.from_days_since_min-date.result.year (civil_date c.args.day).year year.1 only.0) year
