-- Digits compared by length and then by bytes are compared by value.
use Rattle.std.proofs.Common.{◌≡◌, ◌<◌, ◌≤◌, ◌+◌, ◌-◌, ◌*◌, ◌^◌, ℕ, List, [], ◌∷◌, length, true, refl, sym, ◌∙◌, arith, inl, inr}
use Rattle.std.specs.Prelude.{not, nat_lt}
use Rattle.std.specs.List.{list_all}
use Rattle.std.specs.Char.{digit_value, is_ascii_digit}
use Rattle.std.specs.Cmp.Lexicographic.{slice_cmp}
use Rattle.std.specs.Ordering.{nat_cmp, ordering_then}
use Rattle.std.specs.Str.Parse.{digits_value, digits_value_after}
use Rattle.std.specs.declared.cmp.Ordering.TheVariants.{Less, Equal, Greater}
use Rattle.std.proofs.Math.Nat.{mul-le-mul_right, pow-le-pow_right, pow-suc}
use Rattle.std.proofs.lemmas.Bool.{and_parts, cases_order, lt-ltb, le-ltb, eq-eqb, ne_eqb}
use Rattle.nuget_version.specs.Grammar.{is_number}
use Rattle.nuget_version.specs.Precedence.{has_leading_zero, is_numeric}

abbrev Digits : List ℕ → Type 0
Digits ds = list_all is_ascii_digit ds ≡ true

digit_is : (b : ℕ) → is_ascii_digit b ≡ true → (digit_value b ≡ b - 48) × (48 ≤ b) × (b ≤ 57)
digit_is b h = grind arith

-- the comparisons of numbers
pub cmp_less : (x y : ℕ) → x < y → nat_cmp x y ≡ Less
cmp_less x y h = rw (lt-ltb x y h) refl

pub cmp_equal : (x y : ℕ) → x ≡ y → nat_cmp x y ≡ Equal
cmp_equal x y h = rw (le-ltb x y (omega arith), eq-eqb x y h) refl

pub cmp_greater : (x y : ℕ) → y < x → nat_cmp x y ≡ Greater
cmp_greater x y h = let ne : x ≡ y → ⊥ = λ e. absurd (omega arith) in rw (le-ltb x y (omega arith), ne_eqb x y ne) refl

-- the weights of digits
value_after : (v : ℕ) (ds : List ℕ) → digits_value_after 10 v ds ≡ v * 10 ^ length ds + digits_value 10 ds
value_after v [] = omega arith
value_after v (d ∷ ds) =
    let first = value_after (v * 10 + digit_value d) ds in
    let second = value_after (0 * 10 + digit_value d) ds in
    rw (pow-suc 10 (length ds)) (omega (arith, first, second))

value-cons : (d : ℕ) (ds : List ℕ) → digits_value 10 (d ∷ ds) ≡ digit_value d * 10 ^ length ds + digits_value 10 ds
value-cons d ds = omega (arith, value_after (0 * 10 + digit_value d) ds)

value_short : (ds : List ℕ) → Digits ds → digits_value 10 ds < 10 ^ length ds
value_short [] h = omega arith
value_short (d ∷ ds) h =
    let p = and_parts (is_ascii_digit d) (list_all is_ascii_digit ds) h in
    let ih = value_short ds p.1 in
    let is = digit_is d p.0 in
    let nine : digit_value d ≤ 9 = omega (arith, is.0, is.2) in
    let top : digit_value d * 10 ^ length ds ≤ 9 * 10 ^ length ds = mul-le-mul_right (10 ^ length ds) nine in
    rw (pow-suc 10 (length ds)) (omega (arith, value-cons d ds, ih, top))

cmp-add : (k x y : ℕ) → nat_cmp (k + x) (k + y) ≡ nat_cmp x y
cmp-add k x y = elim (cases_order x y) [
  | inl same ↦ cmp_equal (k + x) (k + y) (omega arith) ∙ sym (cmp_equal x y same)
  | inr apart ↦ elim apart [
    | inl below ↦ cmp_less (k + x) (k + y) (omega arith) ∙ sym (cmp_less x y below)
    | inr above ↦ cmp_greater (k + x) (k + y) (omega arith) ∙ sym (cmp_greater x y above)
  ]
]

-- a higher first digit makes the higher value
higher : (b c : ℕ) (x y : List ℕ) → is_ascii_digit b ≡ true → is_ascii_digit c ≡ true → Digits x → length x ≡ length y → b < c
    → digits_value 10 (b ∷ x) < digits_value 10 (c ∷ y)
higher b c x y db dc dx same lt =
    let p = digit_is b db in
    let q = digit_is c dc in
    let short = value_short x dx in
    let step : digit_value b + 1 ≤ digit_value c = omega (arith, p.0, p.1, q.0) in
    let more : (digit_value b + 1) * 10 ^ length x ≤ digit_value c * 10 ^ length x = mul-le-mul_right (10 ^ length x) step in
    let vy : digits_value 10 (c ∷ y) ≡ digit_value c * 10 ^ length x + digits_value 10 y = rw same (value-cons c y) in
    omega (arith, value-cons b x, vy, short, more)

same_length : (x y : List ℕ) → Digits x → Digits y → length x ≡ length y → slice_cmp nat_cmp x y ≡ nat_cmp (digits_value 10 x) (digits_value 10 y)
same_length [] [] dx dy same = refl
same_length [] (c ∷ y) dx dy same = absurd (omega arith)
same_length (b ∷ x) [] dx dy same = absurd (omega arith)
same_length (b ∷ x) (c ∷ y) dx dy same =
    let p = and_parts (is_ascii_digit b) (list_all is_ascii_digit x) dx in
    let q = and_parts (is_ascii_digit c) (list_all is_ascii_digit y) dy in
    let rest : length x ≡ length y = omega arith in
    elim (cases_order b c) [
      | inl is ↦
          let ih = same_length x y p.1 q.1 rest in
          let vy : digits_value 10 (c ∷ y) ≡ digit_value b * 10 ^ length x + digits_value 10 y = rw (is, rest) (value-cons c y) in
          rw (cmp_equal b c is) (ih ∙ sym (cmp-add (digit_value b * 10 ^ length x) (digits_value 10 x) (digits_value 10 y)) ∙ rw (value-cons b x, vy) refl)
      | inr apart ↦ elim apart [
        | inl below ↦ rw (cmp_less b c below) (sym (cmp_less _ _ (higher b c x y p.0 q.0 p.1 rest below)))
        | inr above ↦ rw (cmp_greater b c above) (sym (cmp_greater _ _ (higher c b y x q.0 p.0 q.1 (sym rest) above)))
      ]
    ]

-- more digits make the higher value, where none leads with a zero
longer : (x y : List ℕ) → Digits x → 0 < length x → is_numeric y ≡ true → length x < length y → digits_value 10 x < digits_value 10 y
longer x [] dx some ny lt = absurd (omega arith)
longer x (c ∷ y) dx some ny lt =
    let n = and_parts (is_number (c ∷ y)) (not (has_leading_zero (c ∷ y))) ny in
    let p = and_parts (is_ascii_digit c) (list_all is_ascii_digit y) n.0 in
    let is = digit_is c p.0 in
    let other : c ≡ 48 → ⊥ = λ e. let big : nat_lt 0 (length y) ≡ true = lt-ltb 0 (length y) (omega arith) in cc (rw (e, big) at n.1) in
    let one : 1 ≤ digit_value c = elim (cases_order c 48) [ inl e ↦ absurd (other e) | inr apart ↦ omega (arith, is.0, is.1, apart) ] in
    let pows : 10 ^ length x ≤ 10 ^ length y = pow-le-pow_right (omega arith) (omega arith) in
    let top : 1 * 10 ^ length y ≤ digit_value c * 10 ^ length y = mul-le-mul_right (10 ^ length y) one in
    omega (arith, value-cons c y, value_short x dx, pows, top)

number_digits : (x : List ℕ) → is_number x ≡ true → Digits x × (0 < length x)
number_digits [] h = cc h
number_digits (b ∷ x) h = (h, omega arith)

-- two numbers of any length
pub numeric_cmp : (x y : List ℕ) → is_numeric x ≡ true → is_numeric y ≡ true
    → ordering_then (nat_cmp (length x) (length y)) (slice_cmp nat_cmp x y) ≡ nat_cmp (digits_value 10 x) (digits_value 10 y)
numeric_cmp x y nx ny =
    let p = number_digits x (and_parts (is_number x) (not (has_leading_zero x)) nx).0 in
    let q = number_digits y (and_parts (is_number y) (not (has_leading_zero y)) ny).0 in
    elim (cases_order (length x) (length y)) [
      | inl same ↦ rw (cmp_equal (length x) (length y) same) (same_length x y p.0 q.0 same)
      | inr apart ↦ elim apart [
        | inl below ↦ rw (cmp_less (length x) (length y) below) (sym (cmp_less _ _ (longer x y p.0 p.1 ny below)))
        | inr above ↦ rw (cmp_greater (length x) (length y) above) (sym (cmp_greater _ _ (longer y x q.0 q.1 nx above)))
      ]
    ]
