-- The numbers of a text by their places.
use Rattle.std.proofs.Common.{◌≡◌, ◌<◌, ◌≤◌, ◌+◌, ◌-◌, ◌*◌, ◌^◌, ℕ, zero, suc, List, [], ◌∷◌, ◌++◌, length, take, drop, get_or, true, refl, sym, ◌∙◌, ap, arith, subst, length-append}
use Rattle.std.specs.Str.Parse.{digits_value}
use Rattle.std.proofs.Math.Seq.{take-append_seam}
use Rattle.ticks.specs.Stamp.{last_digits}
use Rattle.ticks.specs.Scan.{IsNumberAt, is_stamp, tail_places}
use Rattle.ticks.specs.Reading.{Zone, letter, digits, Written, IsTextOf, decimals_text, zone_text, written_text}
use Rattle.ticks.proofs.Digits.{length-last_digits}
use Rattle.ticks.proofs.Forms.{written_from, places_are}
use Rattle.ticks.proofs.Numbers.{AllDigits-last_digits, digits_value-last_digits}

-- a number of the text stands at a place
pub record Piece (width at n : ℕ) (text : List ℕ) : Type 0 where
  pub number : IsNumberAt width at text
  pub value : digits_value 10 (take width (drop at text)) ≡ n

piece : (width at n : ℕ) (text : List ℕ) → n < 10 ^ width → at + width ≤ length text → take width (drop at text) ≡ last_digits width n → Piece width at n text
piece width at n text fits within front = record {
  number = record { within = within; digits = rw front (AllDigits-last_digits width n) };
  value = rw front (digits_value-last_digits width n fits);
}

zone_len : (zone : Zone) → 1 ≤ length (zone_text zone)
zone_len letter = omega arith
zone_len digits = omega arith

decimals_len : (places fraction : ℕ) → places ≤ length (decimals_text places fraction)
decimals_len zero fraction = omega arith
decimals_len (suc n) fraction = omega (arith, length-last_digits (suc n) fraction)

module _ (text : List ℕ) (w : Written) (is : IsTextOf w text) where
  long : 20 + w.places ≤ length text
  unfolding written_text last_digits
  long =
      let whole = ap (λ (l : List ℕ). length l) is.spelled in
      omega (arith, length-append (decimals_text w.places w.fraction) (zone_text w.zone), zone_len w.zone, decimals_len w.places w.fraction)

  pub year_piece : Piece 4 0 w.year text
  unfolding written_text last_digits
  year_piece = piece 4 0 w.year text is.fits.year (omega (arith, long)) (ap (λ (l : List ℕ). take 4 (drop 0 l)) is.spelled)

  pub month_piece : Piece 2 5 w.month text
  unfolding written_text last_digits
  month_piece = piece 2 5 w.month text is.fits.month (omega (arith, long)) (ap (λ (l : List ℕ). take 2 (drop 5 l)) is.spelled)

  pub day_piece : Piece 2 8 w.day text
  unfolding written_text last_digits
  day_piece = piece 2 8 w.day text is.fits.day (omega (arith, long)) (ap (λ (l : List ℕ). take 2 (drop 8 l)) is.spelled)

  pub hour_piece : Piece 2 11 w.hour text
  unfolding written_text last_digits
  hour_piece = piece 2 11 w.hour text is.fits.hour (omega (arith, long)) (ap (λ (l : List ℕ). take 2 (drop 11 l)) is.spelled)

  pub minute_piece : Piece 2 14 w.minute text
  unfolding written_text last_digits
  minute_piece = piece 2 14 w.minute text is.fits.minute (omega (arith, long)) (ap (λ (l : List ℕ). take 2 (drop 14 l)) is.spelled)

  pub second_piece : Piece 2 17 w.second text
  unfolding written_text last_digits
  second_piece = piece 2 17 w.second text is.fits.second (omega (arith, long)) (ap (λ (l : List ℕ). take 2 (drop 17 l)) is.spelled)

decimals_front : (places fraction : ℕ) (rest : List ℕ) → take places (drop 1 (decimals_text places fraction ++ rest)) ≡ last_digits places fraction
unfolding last_digits
decimals_front zero fraction rest = refl
decimals_front (suc n) fraction rest =
    subst (λ (k : ℕ). take k (last_digits (suc n) fraction ++ rest) ≡ last_digits (suc n) fraction) (length-last_digits (suc n) fraction) (take-append_seam (last_digits (suc n) fraction) rest)

pub decimals_piece : (text : List ℕ) (w : Written) → IsTextOf w text → Piece w.places 20 w.fraction text
unfolding written_text last_digits
decimals_piece text w is =
    piece w.places 20 w.fraction text is.fits.fraction (long text w is)
    (ap (λ (l : List ℕ). take w.places (drop 20 l)) is.spelled ∙ decimals_front w.places w.fraction (zone_text w.zone))

-- what one of the last decimals counts, by their number
pub scale_is : (p : ℕ) → p ≤ 7 → get_or (10_000_000 ∷ 1_000_000 ∷ 100_000 ∷ 10_000 ∷ 1000 ∷ 100 ∷ 10 ∷ 1 ∷ []) p 0 ≡ 10 ^ (7 - p)
scale_is zero h = refl
scale_is (suc zero) h = refl
scale_is (suc (suc zero)) h = refl
scale_is (suc (suc (suc zero))) h = refl
scale_is (suc (suc (suc (suc zero)))) h = refl
scale_is (suc (suc (suc (suc (suc zero))))) h = refl
scale_is (suc (suc (suc (suc (suc (suc zero)))))) h = refl
scale_is (suc (suc (suc (suc (suc (suc (suc zero))))))) h = refl
scale_is (suc (suc (suc (suc (suc (suc (suc (suc p)))))))) h = absurd (omega arith)

pub scaled_small : (p n : ℕ) → p ≤ 7 → n < 10 ^ p → n * 10 ^ (7 - p) < 10_000_000
scaled_small zero n h small = omega arith
scaled_small (suc zero) n h small = omega arith
scaled_small (suc (suc zero)) n h small = omega arith
scaled_small (suc (suc (suc zero))) n h small = omega arith
scaled_small (suc (suc (suc (suc zero)))) n h small = omega arith
scaled_small (suc (suc (suc (suc (suc zero))))) n h small = omega arith
scaled_small (suc (suc (suc (suc (suc (suc zero)))))) n h small = omega arith
scaled_small (suc (suc (suc (suc (suc (suc (suc zero))))))) n h small = omega arith
scaled_small (suc (suc (suc (suc (suc (suc (suc (suc p)))))))) n h small = absurd (omega arith)

-- the decimals of a text of the form, by the place that the code counts them to
pub decimals_number : (text : List ℕ) (places : ℕ) → is_stamp text ≡ true → places ≡ tail_places (drop 19 text) → IsNumberAt places 20 text × (places ≤ 7)
decimals_number text places form same =
    let w = written_from text form in
    let count : w.0.places ≡ places = sym (places_are text w.0 w.1) ∙ sym same in
    (subst (λ (k : ℕ). IsNumberAt k 20 text) count (decimals_piece text w.0 w.1).number, subst (λ (k : ℕ). k ≤ 7) count w.1.fits.places)

pub decimals_value : (text : List ℕ) (places : ℕ) (w : Written) → IsTextOf w text → places ≡ tail_places (drop 19 text) → (places ≡ w.places) × (digits_value 10 (take places (drop 20 text)) ≡ w.fraction)
decimals_value text places w is same =
    let count : places ≡ w.places = same ∙ places_are text w is in
    (count, ap (λ (k : ℕ). digits_value 10 (take k (drop 20 text))) count ∙ (decimals_piece text w is).value)
