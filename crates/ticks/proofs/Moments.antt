-- The number of a moment from the parts of its text.
use Rattle.std.proofs.Common.{◌≡◌, ◌<◌, ◌≤◌, ◌+◌, ◌*◌, ℕ, sym, ◌∙◌, ap, arith, pos}
use Rattle.std.specs.Prelude.{Option, Some, None, IsSome, IfSome, ◌↔◌}
use Rattle.std.proofs.lemmas.Bool.{false≢true}
use Rattle.jiff_core.proofs.SignedLemmas.{signed_arith}
use Rattle.ticks.specs.Calendar.{IsDateAt}
use Rattle.ticks.specs.Stamp.{Civil}
use Rattle.ticks.specs.Reading.{Written, FitsForm, IsMomentOf}
use Rattle.ticks.specs.Parts.{ArePartsOf, civil_of}
use Rattle.ticks.proofs.Pieces.{scaled_small}
use Rattle.ticks.specs.declared.reading.Parts.{Parts}

-- one date lies at one day
pub same_day : (a b : ℕ) (c : Civil) → IsDateAt a c → IsDateAt b c → a ≡ b
same_day a b c at_a at_b = let e : pos a ≡ pos b = sym at_a.counted ∙ at_b.counted in omega (arith, signed_arith)

-- the date of the parts is the one of the text
pub date_read : (w : Written) (p : Parts) (days : ℕ) → ArePartsOf w p → IsDateAt days (record { year = w.year; month = w.month; day = w.day }) → IsDateAt days (civil_of p.date)
date_read w p days are h = rw (are.date.0, are.date.1, are.date.2) h

pub date_written : (w : Written) (p : Parts) (days : ℕ) → ArePartsOf w p → IsDateAt days (civil_of p.date) → IsDateAt days (record { year = w.year; month = w.month; day = w.day })
date_written w p days are h = rw (← are.date.0, ← are.date.1, ← are.date.2) h

pub clock_read : (w : Written) (p : Parts) (n : ℕ) → ArePartsOf w p → IsMomentOf w n → (p.hour < 24) × (p.minute < 60) × (p.second < 60)
clock_read w p n are is =
    let hour = is.hour in
    let minute = is.minute in
    let second = is.second in
    (omega (arith, are.hour), omega (arith, are.minute), omega (arith, are.second))

pub moment_from : (w : Written) (p : Parts) (days n : ℕ) → ArePartsOf w p → IsDateAt days (civil_of p.date) → (p.hour < 24) × (p.minute < 60) × (p.second < 60) → n ≡ (((days * 24 + p.hour) * 60 + p.minute) * 60 + p.second) * 10_000_000 + p.ticks → IsMomentOf w n
moment_from w p days n are date clock count = record {
  days = days;
  date = date_written w p days are date;
  hour = omega (arith, are.hour, clock.0);
  minute = omega (arith, are.minute, clock.1);
  second = omega (arith, are.second, clock.2);
  counted = count ∙ rw (are.hour, are.minute, are.second, are.ticks);
}

pub moment_only : (w : Written) (p : Parts) (days n : ℕ) → ArePartsOf w p → IsDateAt days (civil_of p.date) → IsMomentOf w n → n ≡ (((days * 24 + p.hour) * 60 + p.minute) * 60 + p.second) * 10_000_000 + p.ticks
moment_only w p days n are date is =
    let same : is.days ≡ days = same_day is.days days (civil_of p.date) (date_read w p is.days are is.date) date in
    is.counted ∙ rw (same, ← are.hour, ← are.minute, ← are.second, ← are.ticks)

-- what `of` answers within the limit
pub of_is : (r : Option ℕ) (m n : ℕ) → (IsSome r ↔ (m ≤ 3_155_378_975_999_999_999)) → IfSome r (λ t. t ≡ m) → m ≤ 3_155_378_975_999_999_999 → m ≡ n → r ≡ Some n
of_is None m n within value le same = absurd (false≢true (within.1 le))
of_is (Some t) m n within value le same = ap (λ (k : ℕ). Some k) (value ∙ same)

-- each moment lies within the limit
pub moment_bound : (days seconds ticks : ℕ) → days < 3_652_059 → seconds < 86_400 → ticks < 10_000_000 → (days * 86_400 + seconds) * 10_000_000 + ticks ≤ 3_155_378_975_999_999_999
moment_bound days seconds ticks d s t = omega arith

pub ticks_bound : (w : Written) (p : Parts) → FitsForm w → ArePartsOf w p → p.ticks < 10_000_000
ticks_bound w p fits are = omega (arith, are.ticks, scaled_small w.places w.fraction fits.places fits.fraction)

pub some_weaker : (r : Option ℕ) (P Q : ℕ → Type 0) → ((n : ℕ) → P n → Q n) → IfSome r P → IfSome r Q
some_weaker None P Q f h = tt
some_weaker (Some n) P Q f h = f n h
