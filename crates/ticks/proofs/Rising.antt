-- Stamps of later moments come later in the order of bytes.
use Rattle.std.proofs.Common.{◌≡◌, ◌<◌, ◌≤◌, ◌+◌, ◌/◌, ◌%◌, ◌^◌, ℕ, zero, suc, List, [], ◌∷◌, ◌++◌, length, ◌⊎◌, inl, inr, refl, sym, ◌∙◌, arith, subst, pos, ◌+ℤ◌}
use Rattle.std.specs.Cmp.Lexicographic.{slice_cmp}
use Rattle.std.specs.Ordering.{nat_cmp}
use Rattle.std.specs.declared.cmp.Ordering.TheVariants.{Less, Equal, Greater}
use Rattle.std.proofs.Math.Nat.{pow-suc}
use Rattle.std.proofs.lemmas.Bool.{cases_order}
use Rattle.std.proofs.lemmas.Bool.Decides.{nat_tests}
use Rattle.jiff_core.proofs.SignedLemmas.{signed_arith}
use Rattle.jiff_core.proofs.DateLemmas.{cases_date, epoch_day-lt, epoch_day_same}
use Rattle.jiff_core.specs.Date.{epoch_day}
use Rattle.jiff_core.specs.declared.civil.date.Date.{Date}
use Rattle.ticks.specs.Stamp.{Civil, civil_date, stamp_text, last_digits}
use Rattle.ticks.proofs.Dates.{civil_date_is}
use Rattle.ticks.proofs.Digits.{length-last_digits}
use Rattle.ticks.proofs.Named.{stamp_fits}
use Rattle.ticks.proofs.StampLemmas.{stamp_text-row}

nat_cmp-less : (a b : ℕ) → a < b → nat_cmp a b ≡ Less
nat_cmp-less a b h = grind (arith, nat_tests)

nat_cmp-same : (a b : ℕ) → a ≡ b → nat_cmp a b ≡ Equal
nat_cmp-same a b e = grind (arith, nat_tests)

nat_cmp-greater : (a b : ℕ) → b < a → nat_cmp a b ≡ Greater
nat_cmp-greater a b h = grind (arith, nat_tests)

-- the same prefix, and a later rest
same_front : (front xs ys : List ℕ) → slice_cmp nat_cmp xs ys ≡ Less → slice_cmp nat_cmp (front ++ xs) (front ++ ys) ≡ Less
same_front [] xs ys h = h
same_front (b ∷ front) xs ys h = rw (nat_cmp-same b b refl) (same_front front xs ys h)

-- an earlier prefix of the same length
earlier_front : (front later xs ys : List ℕ) → length front ≡ length later → slice_cmp nat_cmp front later ≡ Less → slice_cmp nat_cmp (front ++ xs) (later ++ ys) ≡ Less
earlier_front [] [] xs ys long h = cc
earlier_front [] (c ∷ later) xs ys long h = absurd (omega arith)
earlier_front (b ∷ front) [] xs ys long h = absurd (omega arith)
earlier_front (b ∷ front) (c ∷ later) xs ys long h =
    elim (cases_order b c) [
      | inl same ↦ rw (nat_cmp-same b c same) (earlier_front front later xs ys (omega arith) (rw (nat_cmp-same b c same) at h))
      | inr (inl less) ↦ rw (nat_cmp-less b c less)
      | inr (inr more) ↦ (let wrong = rw (nat_cmp-greater b c more) at h in cc)
    ]

-- digits of the same width rise with the number
digits_rise : (width a b : ℕ) → a < b → b < 10 ^ width → slice_cmp nat_cmp (last_digits width a) (last_digits width b) ≡ Less
unfolding last_digits
digits_rise zero a b less fits = absurd (omega arith)
digits_rise (suc width) a b less fits =
    let power = pow-suc 10 width in
    elim (cases_order (a / 10) (b / 10)) [
      | inl same ↦ rw same (same_front (last_digits width (b / 10)) ((48 + a % 10) ∷ []) ((48 + b % 10) ∷ []) (rw (nat_cmp-less (48 + a % 10) (48 + b % 10) (omega arith))))
      | inr (inl front) ↦ earlier_front (last_digits width (a / 10)) (last_digits width (b / 10)) _ _ (length-last_digits width (a / 10) ∙ sym (length-last_digits width (b / 10))) (digits_rise width (a / 10) (b / 10) front (omega arith))
      | inr (inr wrong) ↦ absurd (omega arith)
    ]

-- a number before a sign and a rest
less_first : (width a b sign : ℕ) (xs ys : List ℕ) → a < b → b < 10 ^ width → slice_cmp nat_cmp (last_digits width a ++ sign ∷ xs) (last_digits width b ++ sign ∷ ys) ≡ Less
less_first width a b sign xs ys less fits =
    earlier_front (last_digits width a) (last_digits width b) _ _ (length-last_digits width a ∙ sym (length-last_digits width b)) (digits_rise width a b less fits)

same_first : (width a b sign : ℕ) (xs ys : List ℕ) → a ≡ b → slice_cmp nat_cmp xs ys ≡ Less → slice_cmp nat_cmp (last_digits width a ++ sign ∷ xs) (last_digits width b ++ sign ∷ ys) ≡ Less
same_first width a b sign xs ys same h =
    rw same (same_front (last_digits width b) (sign ∷ xs) (sign ∷ ys) (same_front (sign ∷ []) xs ys h))

-- the order of two dates
record Dated (day : ℕ) : Type 0 where
  pub date : Date
  pub year : date.year ≡ pos (civil_date day).year
  pub month : date.month ≡ (civil_date day).month
  pub day_of : date.day ≡ (civil_date day).day
  pub counted : epoch_day date +ℤ pos 719_162 ≡ pos day

dated : (day : ℕ) → day < 3_652_059 → Dated day
dated day bound =
    let is = civil_date_is day bound in
    let c = civil_date day in
    record {
      date = record { year = pos c.year; month = c.month; day = c.day; year_in = is.on_calendar.0; month_in = is.on_calendar.1; day_in = is.on_calendar.2 };
      year = refl;
      month = refl;
      day_of = refl;
      counted = is.counted;
    }

abbrev IsLater : Civil → Civil → Type 0
IsLater c d = (c.year < d.year) ⊎ ((c.year ≡ d.year) × ((c.month < d.month) ⊎ ((c.month ≡ d.month) × (c.day < d.day))))

later_date : (a b : ℕ) → a < b → b < 3_652_059 → IsLater (civil_date a) (civil_date b)
later_date a b less bound =
    let first = dated a (omega arith) in
    let second = dated b bound in
    let at_a = first.counted in
    let at_b = second.counted in
    let ya = first.year in
    let yb = second.year in
    let ma = first.month in
    let mb = second.month in
    let da = first.day_of in
    let db = second.day_of in
    elim (cases_date first.date second.date) [
      | inl (inl year) ↦ inl (omega (arith, signed_arith))
      | inl (inr (year, inl month)) ↦ inr (omega (arith, signed_arith), inl (omega arith))
      | inl (inr (year, inr (month, day))) ↦ inr (omega (arith, signed_arith), inr (omega arith, omega arith))
      | inr (inl gt) ↦ absurd (omega (arith, signed_arith, epoch_day-lt second.date first.date gt))
      | inr (inr same) ↦ absurd (let e = epoch_day_same first.date second.date same.0 same.1 same.2 in omega (arith, signed_arith))
    ]

-- the time of day in a stamp
abbrev clock_text : ℕ → List ℕ
clock_text t =
    last_digits 2 (t / 36_000_000_000) ++ 58 ∷ (last_digits 2 (t / 600_000_000 % 60) ++ 58 ∷ (last_digits 2 (t / 10_000_000 % 60) ++ 46 ∷ (last_digits 7 (t % 10_000_000) ++ 90 ∷ [])))

later_clock : (s t : ℕ) → s < t → t < 864_000_000_000 → slice_cmp nat_cmp (clock_text s) (clock_text t) ≡ Less
later_clock s t less bound =
    elim (cases_order (s / 36_000_000_000) (t / 36_000_000_000)) [
      | inr (inl hour) ↦ less_first 2 _ _ 58 _ _ hour (omega arith)
      | inr (inr wrong) ↦ absurd (omega arith)
      | inl hour ↦ same_first 2 _ _ 58 _ _ hour (elim (cases_order (s / 600_000_000 % 60) (t / 600_000_000 % 60)) [
        | inr (inl minute) ↦ less_first 2 _ _ 58 _ _ minute (omega arith)
        | inr (inr wrong) ↦ absurd (omega arith)
        | inl minute ↦ same_first 2 _ _ 58 _ _ minute (elim (cases_order (s / 10_000_000 % 60) (t / 10_000_000 % 60)) [
          | inr (inl second) ↦ less_first 2 _ _ 46 _ _ second (omega arith)
          | inr (inr wrong) ↦ absurd (omega arith)
          | inl second ↦ same_first 2 _ _ 46 _ _ second (less_first 7 _ _ 90 [] [] (omega arith) (omega arith))
        ])
      ])
    ]

abbrev dated_text : Civil → List ℕ → List ℕ
dated_text c rest = last_digits 4 c.year ++ 45 ∷ (last_digits 2 c.month ++ 45 ∷ (last_digits 2 c.day ++ 84 ∷ rest))

-- an earlier date comes first, whatever the time
earlier_date : (c d : Civil) (xs ys : List ℕ) → IsLater c d → d.year < 10_000 → d.month < 100 → d.day < 100 → slice_cmp nat_cmp (dated_text c xs) (dated_text d ys) ≡ Less
earlier_date c d xs ys (inl year) yb mb db = less_first 4 _ _ 45 _ _ year (omega arith)
earlier_date c d xs ys (inr (year, inl month)) yb mb db = same_first 4 _ _ 45 _ _ year (less_first 2 _ _ 45 _ _ month (omega arith))
earlier_date c d xs ys (inr (year, inr (month, day))) yb mb db = same_first 4 _ _ 45 _ _ year (same_first 2 _ _ 45 _ _ month (less_first 2 _ _ 84 _ _ day (omega arith)))

same_date : (c : Civil) (xs ys : List ℕ) → slice_cmp nat_cmp xs ys ≡ Less → slice_cmp nat_cmp (dated_text c xs) (dated_text c ys) ≡ Less
same_date c xs ys h = same_first 4 _ _ 45 _ _ refl (same_first 2 _ _ 45 _ _ refl (same_first 2 _ _ 84 _ _ refl h))

abbrev day_number : ℕ → ℕ
day_number n = n / 864_000_000_000

rows_rise : (m n : ℕ) → m < n → n ≤ 3_155_378_975_999_999_999 → slice_cmp nat_cmp (dated_text (civil_date (day_number m)) (clock_text (m % 864_000_000_000))) (dated_text (civil_date (day_number n)) (clock_text (n % 864_000_000_000))) ≡ Less
rows_rise m n less within =
    let bound : day_number n < 3_652_059 = omega arith in
    elim (cases_order (day_number m) (day_number n)) [
      | inl same ↦ subst (λ (k : ℕ). slice_cmp nat_cmp (dated_text (civil_date (day_number m)) (clock_text (m % 864_000_000_000))) (dated_text (civil_date k) (clock_text (n % 864_000_000_000))) ≡ Less) same
          (same_date (civil_date (day_number m)) (clock_text (m % 864_000_000_000)) (clock_text (n % 864_000_000_000)) (later_clock (m % 864_000_000_000) (n % 864_000_000_000) (omega arith) (omega arith)))
      | inr (inl earlier) ↦ (
          let fits = stamp_fits n within in
          earlier_date (civil_date (day_number m)) (civil_date (day_number n)) (clock_text (m % 864_000_000_000)) (clock_text (n % 864_000_000_000)) (later_date (day_number m) (day_number n) earlier bound) fits.year fits.month fits.day)
      | inr (inr wrong) ↦ absurd (omega arith)
    ]

-- stamps rise with their moments
pub stamp_text-rises : (m n : ℕ) → m < n → n ≤ 3_155_378_975_999_999_999 → slice_cmp nat_cmp (stamp_text m) (stamp_text n) ≡ Less
stamp_text-rises m n less within = rw (stamp_text-row m, stamp_text-row n) (rows_rise m n less within)
