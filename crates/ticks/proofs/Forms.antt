-- The texts that pass the test byte by byte are those that are written from numbers.
use Rattle.std.proofs.Common.{◌≡◌, ◌<◌, ◌≤◌, ◌+◌, ◌-◌, ◌*◌, ◌^◌, ◌/◌, ◌%◌, ℕ, zero, suc, List, [], ◌∷◌, ◌++◌, length, take, drop, Bool, true, false, ◌&&◌, ◌==◌, refl, sym, ◌∙◌, ap, arith, subst, ⊎_elim, ◌⊎◌, inl, inr}
use Rattle.std.specs.Prelude.{codes, replicate}
use Rattle.std.specs.List.{list_all}
use Rattle.std.proofs.Math.Nat.{pow-suc, mul_assoc, mul-le-mul_right}
use Rattle.std.proofs.lemmas.Bool.{eqb-true}
use Rattle.std.proofs.lemmas.List.{replicate-append-replicate}
use Rattle.std.proofs.lemmas.List.Folds.{list_all-append}
use Rattle.std.proofs.lemmas.Bool.Decides.{nat_tests}
use Rattle.ticks.specs.Stamp.{last_digits}
use Rattle.ticks.specs.Scan.{is_digit, fits, fitting_len, is_front_then, is_part_then, is_end, is_zone, is_decimals, is_tail, tail_places, is_stamp, GoesWrongAt}
use Rattle.ticks.specs.Reading.{Zone, letter, digits, Written, IsTextOf, IsForm, IsLongestFormFront, decimals_text, zone_text, written_text}
use Rattle.ticks.proofs.Digits.{length-last_digits}

-- a digit before others
pub last_digits-first : (width d n : ℕ) → d < 10 → n < 10 ^ width → last_digits (suc width) (d * 10 ^ width + n) ≡ (48 + d) ∷ last_digits width n
unfolding last_digits
last_digits-first zero d n low small =
    let same : (d * 10 ^ 0 + n) % 10 ≡ d = omega arith in
    rw same
last_digits-first (suc width) d n low small =
    let power = pow-suc 10 width in
    let product : d * 10 ^ suc width ≡ d * 10 ^ width * 10 = ap (λ (k : ℕ). d * k) power ∙ sym (mul_assoc d (10 ^ width) 10) in
    let front : (d * 10 ^ suc width + n) / 10 ≡ d * 10 ^ width + n / 10 = omega arith in
    let last : (d * 10 ^ suc width + n) % 10 ≡ n % 10 = omega arith in
    rw (front, last, last_digits-first width d (n / 10) low (omega arith))

both : (a b : Bool) → a && b ≡ true → (a ≡ true) × (b ≡ true)
both true b e = (refl, e)
both false b e = cc

true_or_false : (b : Bool) → (b ≡ true) ⊎ (b ≡ false)
true_or_false true = inl refl
true_or_false false = inr refl

differ : (b : Bool) → b ≡ false → b ≡ true → ⊥
differ b no_ yes_ = cc

-- no byte of the form wants a digit
abbrev IsPlain : List ℕ → Type 0
IsPlain [] = Unit {0}
IsPlain (sign ∷ form) = ((sign == 100) ≡ false) × IsPlain form

-- a text that begins with so many digits
record Digits (width : ℕ) (text : List ℕ) (passes : List ℕ → Type 0) : Type 0 where
  pub number : ℕ
  pub rest : List ℕ
  pub fits : number < 10 ^ width
  pub spelled : text ≡ last_digits width number ++ rest
  pub passed : passes rest

digit_value_bounds : (b : ℕ) → is_digit b ≡ true → (48 + (b - 48) ≡ b) × (b - 48 < 10)
digit_value_bounds b e = grind (arith, nat_tests)

digits_split : (width : ℕ) (form : List ℕ) (test : List ℕ → Bool) (text : List ℕ) → is_front_then (replicate width 100 ++ form) test text ≡ true → Digits width text (λ rest. is_front_then form test rest ≡ true)
unfolding last_digits
digits_split zero form test text e = record { number = 0; rest = text; fits = omega arith; spelled = refl; passed = e }
digits_split (suc width) form test [] e = cc
digits_split (suc width) form test (b ∷ bs) e =
    let parts = both (is_digit b) _ e in
    let more = digits_split width form test bs parts.1 in
    let digit = digit_value_bounds b parts.0 in
    let power = pow-suc 10 width in
    let top : (b - 48) * 10 ^ width ≤ 9 * 10 ^ width = mul-le-mul_right (10 ^ width) (omega arith) in
    let below : more.number < 10 ^ width = more.fits in
    let first : last_digits (suc width) ((b - 48) * 10 ^ width + more.number) ≡ b ∷ last_digits width more.number =
    last_digits-first width (b - 48) more.number digit.1 more.fits ∙ ap (λ (k : ℕ). k ∷ last_digits width more.number) digit.0 in
    record {
      number = (b - 48) * 10 ^ width + more.number;
      rest = more.rest;
      fits = omega arith;
      spelled = ap (λ (l : List ℕ). b ∷ l) more.spelled ∙ ap (λ (l : List ℕ). l ++ more.rest) (sym first);
      passed = more.passed;
    }

-- a byte that stands for itself
record Sign (sign : ℕ) (text : List ℕ) (passes : List ℕ → Type 0) : Type 0 where
  pub rest : List ℕ
  pub spelled : text ≡ sign ∷ rest
  pub passed : passes rest

sign_split : (sign : ℕ) (form : List ℕ) (test : List ℕ → Bool) (text : List ℕ) → (sign == 100) ≡ false → is_front_then (sign ∷ form) test text ≡ true → Sign sign text (λ rest. is_front_then form test rest ≡ true)
sign_split sign form test [] plain e = cc
sign_split sign form test (b ∷ bs) plain e =
    let parts = both (fits sign b) _ e in
    let fit = rw plain at parts.0 in
    record { rest = bs; spelled = ap (λ (k : ℕ). k ∷ bs) (eqb-true b sign fit); passed = parts.1 }

-- a prefix of such bytes alone
whole_split : (form text : List ℕ) → IsPlain form → is_front_then form is_end text ≡ true → text ≡ form
whole_split [] [] plain e = refl
whole_split [] (b ∷ bs) plain e = cc
whole_split (sign ∷ form) text plain e =
    let split = sign_split sign form is_end text plain.0 e in
    split.spelled ∙ ap (λ (l : List ℕ). sign ∷ l) (whole_split form split.rest plain.1 split.passed)

zone_split : (text : List ℕ) → is_zone text ≡ true → (zone : Zone) × (text ≡ zone_text zone)
zone_split [] e = cc
zone_split (b ∷ bs) e =
    ⊎_elim
    (λ (plus : (b == 43) ≡ true). let h = rw plus at e in (digits, whole_split (codes "+00:00") (b ∷ bs) (refl, (refl, (refl, (refl, (refl, (refl, tt)))))) h))
    (λ (none : (b == 43) ≡ false). let h = rw none at e in (letter, whole_split (codes "Z") (b ∷ bs) (refl, tt) h))
    (true_or_false (b == 43))

-- decimals, up to so many, and a zone
record Part (width : ℕ) (text : List ℕ) (test : List ℕ → Bool) : Type 0 where
  pub places : ℕ
  pub number : ℕ
  pub rest : List ℕ
  pub within : places ≤ width
  pub fits : number < 10 ^ places
  pub spelled : text ≡ last_digits places number ++ rest
  pub passed : test rest ≡ true

part_split : (width : ℕ) (test : List ℕ → Bool) (text : List ℕ) → is_part_then (replicate width 100) test text ≡ true → Part width text test
unfolding last_digits
part_split zero test text e = record { places = 0; number = 0; rest = text; within = omega arith; fits = omega arith; spelled = refl; passed = e }
part_split (suc width) test [] e = record { places = 0; number = 0; rest = []; within = omega arith; fits = omega arith; spelled = refl; passed = e }
part_split (suc width) test (b ∷ bs) e =
    ⊎_elim
    (λ (is : is_digit b ≡ true).
    let more = part_split width test bs (rw is at e) in
    let digit = digit_value_bounds b is in
    let power = pow-suc 10 more.places in
    let top : (b - 48) * 10 ^ more.places ≤ 9 * 10 ^ more.places = mul-le-mul_right (10 ^ more.places) (omega arith) in
    let below : more.number < 10 ^ more.places = more.fits in
    let first : last_digits (suc more.places) ((b - 48) * 10 ^ more.places + more.number) ≡ b ∷ last_digits more.places more.number =
    last_digits-first more.places (b - 48) more.number digit.1 more.fits ∙ ap (λ (k : ℕ). k ∷ last_digits more.places more.number) digit.0 in
    record {
      places = suc more.places;
      number = (b - 48) * 10 ^ more.places + more.number;
      rest = more.rest;
      within = (let w = more.within in omega arith);
      fits = omega arith;
      spelled = ap (λ (l : List ℕ). b ∷ l) more.spelled ∙ ap (λ (l : List ℕ). l ++ more.rest) (sym first);
      passed = more.passed;
    })
    (λ (none : is_digit b ≡ false). record { places = 0; number = 0; rest = b ∷ bs; within = omega arith; fits = omega arith; spelled = refl; passed = rw none at e })
    (true_or_false (is_digit b))

-- what follows the seconds
record Tail (text : List ℕ) : Type 0 where
  pub places : ℕ
  pub fraction : ℕ
  pub zone : Zone
  pub within : places ≤ 7
  pub fits : fraction < 10 ^ places
  pub spelled : text ≡ decimals_text places fraction ++ zone_text zone

decimals_split : (text : List ℕ) → is_decimals text ≡ true → Tail (46 ∷ text)
unfolding last_digits
decimals_split [] e = cc
decimals_split (b ∷ bs) e =
    let parts = both (is_digit b) _ e in
    let more = part_split 6 is_zone bs parts.1 in
    let zone = zone_split more.rest more.passed in
    let digit = digit_value_bounds b parts.0 in
    let power = pow-suc 10 more.places in
    let top : (b - 48) * 10 ^ more.places ≤ 9 * 10 ^ more.places = mul-le-mul_right (10 ^ more.places) (omega arith) in
    let below : more.number < 10 ^ more.places = more.fits in
    let first : last_digits (suc more.places) ((b - 48) * 10 ^ more.places + more.number) ≡ b ∷ last_digits more.places more.number =
    last_digits-first more.places (b - 48) more.number digit.1 more.fits ∙ ap (λ (k : ℕ). k ∷ last_digits more.places more.number) digit.0 in
    record {
      places = suc more.places;
      fraction = (b - 48) * 10 ^ more.places + more.number;
      zone = zone.0;
      within = (let w = more.within in omega arith);
      fits = omega arith;
      spelled = ap (λ (l : List ℕ). 46 ∷ (b ∷ l)) (more.spelled ∙ ap (λ (l : List ℕ). last_digits more.places more.number ++ l) zone.1) ∙ ap (λ (l : List ℕ). 46 ∷ (l ++ zone_text zone.0)) (sym first);
    }

tail_split : (text : List ℕ) → is_tail text ≡ true → Tail text
tail_split [] e = cc
tail_split (b ∷ bs) e =
    ⊎_elim
    (λ (point : (b == 46) ≡ true). subst (λ (k : ℕ). Tail (k ∷ bs)) (sym (eqb-true b 46 point)) (decimals_split bs (rw point at e)))
    (λ (none : (b == 46) ≡ false).
    let zone = zone_split (b ∷ bs) (rw none at e) in
    record { places = 0; fraction = 0; zone = zone.0; within = omega arith; fits = omega arith; spelled = zone.1 })
    (true_or_false (b == 46))

in_a_row : (text year r1 t1 month r2 t2 day r3 t3 hour r4 t4 minute r5 t5 second r6 tail : List ℕ) → text ≡ year ++ r1 → r1 ≡ 45 ∷ t1 → t1 ≡ month ++ r2 → r2 ≡ 45 ∷ t2 → t2 ≡ day ++ r3 → r3 ≡ 84 ∷ t3 → t3 ≡ hour ++ r4 → r4 ≡ 58 ∷ t4 → t4 ≡ minute ++ r5 → r5 ≡ 58 ∷ t5 → t5 ≡ second ++ r6 → r6 ≡ tail
    → text ≡ year ++ 45 ∷ (month ++ 45 ∷ (day ++ 84 ∷ (hour ++ 58 ∷ (minute ++ 58 ∷ (second ++ tail)))))
in_a_row text year r1 t1 month r2 t2 day r3 t3 hour r4 t4 minute r5 t5 second r6 tail e0 e1 e2 e3 e4 e5 e6 e7 e8 e9 e10 e11 =
    rw (e0, e1, e2, e3, e4, e5, e6, e7, e8, e9, e10, e11)

-- a text that passes is written from numbers
pub written_from : (text : List ℕ) → is_stamp text ≡ true → (w : Written) × IsTextOf w text
unfolding written_text
written_from text e =
    let year = digits_split 4 (codes "-dd-ddTdd:dd:dd") is_tail text e in
    let s1 = sign_split 45 (codes "dd-ddTdd:dd:dd") is_tail year.rest refl year.passed in
    let month = digits_split 2 (codes "-ddTdd:dd:dd") is_tail s1.rest s1.passed in
    let s2 = sign_split 45 (codes "ddTdd:dd:dd") is_tail month.rest refl month.passed in
    let day = digits_split 2 (codes "Tdd:dd:dd") is_tail s2.rest s2.passed in
    let s3 = sign_split 84 (codes "dd:dd:dd") is_tail day.rest refl day.passed in
    let hour = digits_split 2 (codes ":dd:dd") is_tail s3.rest s3.passed in
    let s4 = sign_split 58 (codes "dd:dd") is_tail hour.rest refl hour.passed in
    let minute = digits_split 2 (codes ":dd") is_tail s4.rest s4.passed in
    let s5 = sign_split 58 (codes "dd") is_tail minute.rest refl minute.passed in
    let second = digits_split 2 [] is_tail s5.rest s5.passed in
    let tail = tail_split second.rest second.passed in (
      record {
        year = year.number;
        month = month.number;
        day = day.number;
        hour = hour.number;
        minute = minute.number;
        second = second.number;
        places = tail.places;
        fraction = tail.fraction;
        zone = tail.zone;
      },
      record {
        fits = record {
          year = year.fits;
          month = month.fits;
          day = day.fits;
          hour = hour.fits;
          minute = minute.fits;
          second = second.fits;
          places = tail.within;
          fraction = tail.fits;
        };
        spelled = in_a_row _ _ _ _ _ _ _ _ _ _ _ _ _ _ _ _ _ _ _ year.spelled s1.spelled month.spelled s2.spelled day.spelled s3.spelled hour.spelled s4.spelled minute.spelled s5.spelled second.spelled tail.spelled;
      },
    )

-- and the other way round
are_digits : List ℕ → Bool
are_digits ds = list_all is_digit ds

glyph_is_digit : (n : ℕ) → is_digit (48 + n % 10) ≡ true
glyph_is_digit n = let small : n % 10 < 10 = omega arith in grind (arith, nat_tests)

are_digits-last_digits : (width n : ℕ) → are_digits (last_digits width n) ≡ true
unfolding are_digits last_digits
are_digits-last_digits zero n = refl
are_digits-last_digits (suc width) n =
    list_all-append is_digit (last_digits width (n / 10)) ((48 + n % 10) ∷ [])
    ∙ rw (are_digits-last_digits width (n / 10), glyph_is_digit n)

front_of_digits : (ds form : List ℕ) (test : List ℕ → Bool) (rest : List ℕ) → are_digits ds ≡ true → is_front_then (replicate (length ds) 100 ++ form) test (ds ++ rest) ≡ is_front_then form test rest
unfolding are_digits
front_of_digits [] form test rest e = refl
front_of_digits (d ∷ ds) form test rest e =
    let parts = both (is_digit d) _ e in
    rw parts.0 (front_of_digits ds form test rest parts.1)

part_of_digits : (ds form : List ℕ) (test : List ℕ → Bool) (rest : List ℕ) → are_digits ds ≡ true → is_part_then (replicate (length ds) 100 ++ form) test (ds ++ rest) ≡ is_part_then form test rest
unfolding are_digits
part_of_digits [] form test rest e = refl
part_of_digits (d ∷ ds) form test rest e =
    let parts = both (is_digit d) _ e in
    rw parts.0 (part_of_digits ds form test rest parts.1)

fitting_digits : (ds form rest : List ℕ) → are_digits ds ≡ true → fitting_len (replicate (length ds) 100 ++ form) (ds ++ rest) ≡ length ds + fitting_len form rest
unfolding are_digits
fitting_digits [] form rest e = omega arith
fitting_digits (d ∷ ds) form rest e =
    let parts = both (is_digit d) _ e in
    rw parts.0 (omega (arith, fitting_digits ds form rest parts.1))

digits_pass : (width n : ℕ) (form : List ℕ) (test : List ℕ → Bool) (rest : List ℕ) → is_front_then (replicate width 100 ++ form) test (last_digits width n ++ rest) ≡ is_front_then form test rest
digits_pass width n form test rest =
    subst (λ (k : ℕ). is_front_then (replicate k 100 ++ form) test (last_digits width n ++ rest) ≡ is_front_then form test rest) (length-last_digits width n) (front_of_digits (last_digits width n) form test rest (are_digits-last_digits width n))

digits_part : (width n : ℕ) (form : List ℕ) (test : List ℕ → Bool) (rest : List ℕ) → is_part_then (replicate width 100 ++ form) test (last_digits width n ++ rest) ≡ is_part_then form test rest
digits_part width n form test rest =
    subst (λ (k : ℕ). is_part_then (replicate k 100 ++ form) test (last_digits width n ++ rest) ≡ is_part_then form test rest) (length-last_digits width n) (part_of_digits (last_digits width n) form test rest (are_digits-last_digits width n))

digits_fit : (width n : ℕ) (form rest : List ℕ) → fitting_len (replicate width 100 ++ form) (last_digits width n ++ rest) ≡ width + fitting_len form rest
digits_fit width n form rest =
    subst (λ (k : ℕ). fitting_len (replicate k 100 ++ form) (last_digits width n ++ rest) ≡ k + fitting_len form rest) (length-last_digits width n) (fitting_digits (last_digits width n) form rest (are_digits-last_digits width n))

zone_is : (zone : Zone) → is_zone (zone_text zone) ≡ true
zone_is letter = refl
zone_is digits = refl

zone_ends_digits : (zone : Zone) (width : ℕ) → is_part_then (replicate width 100) is_zone (zone_text zone) ≡ true
zone_ends_digits letter zero = refl
zone_ends_digits letter (suc width) = refl
zone_ends_digits digits zero = refl
zone_ends_digits digits (suc width) = refl

zone_fits_none : (zone : Zone) (width : ℕ) → fitting_len (replicate width 100) (zone_text zone) ≡ 0
zone_fits_none letter zero = refl
zone_fits_none letter (suc width) = refl
zone_fits_none digits zero = refl
zone_fits_none digits (suc width) = refl

-- so many wanted digits are a part of them and the others
wanted : (k width : ℕ) → k ≤ width → ◌++◌ {A = ℕ} (replicate k 100) (replicate (width - k) 100) ≡ replicate width 100
wanted k width h =
    let back : k + (width - k) ≡ width = omega arith in
    replicate-append-replicate k (width - k) 100 ∙ ap (λ (n : ℕ). replicate n 100) back

decimals_pass : (ds : List ℕ) (zone : Zone) → are_digits ds ≡ true → 0 < length ds → length ds ≤ 7 → is_decimals (ds ++ zone_text zone) ≡ true
unfolding are_digits
decimals_pass [] zone e some within = absurd (omega arith)
decimals_pass (d ∷ ds) zone e some within =
    let parts = both (is_digit d) _ e in
    rw parts.0
    (subst (λ (form : List ℕ). is_part_then form is_zone (ds ++ zone_text zone) ≡ true) (wanted (length ds) 6 (omega arith))
    (part_of_digits ds (replicate (6 - length ds) 100) is_zone (zone_text zone) parts.1 ∙ zone_ends_digits zone (6 - length ds)))

tail_passes : (places fraction : ℕ) (zone : Zone) → places ≤ 7 → is_tail (decimals_text places fraction ++ zone_text zone) ≡ true
tail_passes zero fraction letter within = refl
tail_passes zero fraction digits within = refl
tail_passes (suc n) fraction zone within =
    let long = length-last_digits (suc n) fraction in
    decimals_pass (last_digits (suc n) fraction) zone (are_digits-last_digits (suc n) fraction) (omega arith) (omega arith)

tail_places_are : (places fraction : ℕ) (zone : Zone) → places ≤ 7 → tail_places (decimals_text places fraction ++ zone_text zone) ≡ places
tail_places_are zero fraction letter within = refl
tail_places_are zero fraction digits within = refl
tail_places_are (suc n) fraction zone within =
    let none = zone_fits_none zone (7 - suc n) in
    subst (λ (form : List ℕ). fitting_len form (last_digits (suc n) fraction ++ zone_text zone) ≡ suc n) (wanted (suc n) 7 within)
    (digits_fit (suc n) fraction (replicate (7 - suc n) 100) (zone_text zone) ∙ omega arith)

-- a text that is written from numbers passes
pub written_passes : (text : List ℕ) (w : Written) → IsTextOf w text → is_stamp text ≡ true
unfolding written_text
written_passes text w is =
    ap is_stamp is.spelled
    ∙ digits_pass 4 w.year (codes "-dd-ddTdd:dd:dd") is_tail _
    ∙ digits_pass 2 w.month (codes "-ddTdd:dd:dd") is_tail _
    ∙ digits_pass 2 w.day (codes "Tdd:dd:dd") is_tail _
    ∙ digits_pass 2 w.hour (codes ":dd:dd") is_tail _
    ∙ digits_pass 2 w.minute (codes ":dd") is_tail _
    ∙ digits_pass 2 w.second [] is_tail _
    ∙ tail_passes w.places w.fraction w.zone is.fits.places

-- and has the decimals that are counted behind its seconds
pub places_are : (text : List ℕ) (w : Written) → IsTextOf w text → tail_places (drop 19 text) ≡ w.places
unfolding written_text last_digits
places_are text w is =
    ap (λ (l : List ℕ). tail_places (drop 19 l)) is.spelled ∙ tail_places_are w.places w.fraction w.zone is.fits.places

-- where the test stops is the end of the longest prefix
pub refused_there : (text : List ℕ) (at : ℕ) → GoesWrongAt is_stamp text at → (IsForm text → ⊥) × IsLongestFormFront text at
refused_there text at h = (
  λ form. differ (is_stamp text) h.refused (written_passes text form.0 form.1),
  record {
    within = h.within;
    begins = (h.begins.0, written_from (take at text ++ h.begins.0) h.begins.1);
    longest = λ n above below begins. h.longest n above below (begins.0, written_passes (take n text ++ begins.0) begins.1.0 begins.1.1);
  },
)
