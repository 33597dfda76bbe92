-- Line ends and heads, and the bytes that follow them.
use Rattle.std.proofs.Common.{◌≡◌, ◌≢◌, ◌<◌, ◌≤◌, ◌+◌, ◌⊎◌, ◌==◌, ◌&&◌, inl, inr, ℕ, zero, suc, Bool, true, false, cond, List, [], ◌∷◌, ◌++◌, length, drop, get_or, Option, Some, None, option_map, refl, sym, ap, ◌∙◌, arith}
use Rattle.std.proofs.lemmas.Bool.Decides.{nat_tests}
use Rattle.http_wire.specs.Lines.{positive, begins_lf, ending, blank, shift, head_len}

pub zero_or : (n : ℕ) → (n ≡ 0) ⊎ (0 < n)
zero_or zero = inl refl
zero_or (suc n) = inr (omega arith)

-- ---- line ends

abbrev len_by : Bool → Bool → ℕ
len_by p q = cond p 1 (cond q 2 0)

one_stays : (p q : Bool) → 0 < len_by p (q && false) → (m : Bool) → len_by p (q && m) ≡ len_by p (q && false)
one_stays true q h m = refl
one_stays false true h m = absurd (omega (arith, h))
one_stays false false h m = refl

pub ending_stays : (bytes more : List ℕ) → 0 < ending bytes → ending (bytes ++ more) ≡ ending bytes
ending_stays [] more h = absurd (omega (arith, h))
ending_stays (b ∷ []) more h = one_stays (b == 10) (b == 13) h (begins_lf more)
ending_stays (b ∷ c ∷ bytes) more h = refl

-- the first two bytes decide
pub ending_two : (bytes more : List ℕ) → 2 ≤ length bytes → ending (bytes ++ more) ≡ ending bytes
ending_two [] more h = absurd (omega (arith, h))
ending_two (b ∷ []) more h = absurd (omega (arith, h))
ending_two (b ∷ c ∷ bytes) more h = refl

ending_at : (p q : Bool) → len_by p q ≤ 2
ending_at true q = omega arith
ending_at false true = omega arith
ending_at false false = omega arith

one_most : (p q : Bool) → len_by p (q && false) ≤ 1
one_most true q = omega arith
one_most false true = omega arith
one_most false false = omega arith

pub ending_within : (bytes : List ℕ) → ending bytes ≤ length bytes
ending_within [] = omega arith
ending_within (b ∷ []) = one_most (b == 10) (b == 13)
ending_within (b ∷ c ∷ bytes) = omega (arith, ending_at (b == 10) (b == 13 && begins_lf (c ∷ bytes)))

-- ---- empty lines

lt_on : (n a : ℕ) → 0 < n → cond (positive n) a 0 ≡ a
lt_on zero a h = absurd (omega (arith, h))
lt_on (suc n) a h = refl

lt_off : (n a : ℕ) → n ≡ 0 → cond (positive n) a 0 ≡ 0
lt_off zero a h = refl
lt_off (suc n) a h = absurd (omega (arith, h))

pub blank_on : (b : ℕ) (bytes : List ℕ) → 0 < ending (b ∷ bytes) → blank (b ∷ bytes) ≡ suc (blank bytes)
blank_on b bytes h = lt_on (ending (b ∷ bytes)) (suc (blank bytes)) h

pub blank_off : (bytes : List ℕ) → ending bytes ≡ 0 → blank bytes ≡ 0
blank_off [] h = refl
blank_off (b ∷ bytes) h = lt_off (ending (b ∷ bytes)) (suc (blank bytes)) h

pub blank_within : (bytes : List ℕ) → blank bytes ≤ length bytes
blank_within [] = omega arith
blank_within (b ∷ bytes) = elim (zero_or (ending (b ∷ bytes))) [
  | inl h ↦ omega (arith, blank_off (b ∷ bytes) h)
  | inr h ↦ omega (arith, blank_on b bytes h, blank_within bytes)
]

none_added : (n : ℕ) → n ≡ 0 + n
none_added n = omega arith

added : (m n : ℕ) → suc (m + n) ≡ suc m + n
added m n = omega arith

-- the empty lines that are there stay, and more of them can only follow
pub blank_more : (front more : List ℕ) → blank (front ++ more) ≡ blank front + blank (drop (blank front) front ++ more)
blank_more [] more = omega arith
blank_more (b ∷ bytes) more = elim (zero_or (ending (b ∷ bytes))) [
  | inl h ↦
      let this : 0 + blank (b ∷ (bytes ++ more)) ≡ blank (b ∷ bytes) + blank (drop (blank (b ∷ bytes)) (b ∷ bytes) ++ more) = sym (ap (λ (k : ℕ). k + blank (drop k (b ∷ bytes) ++ more)) (blank_off (b ∷ bytes) h)) in
      none_added (blank (b ∷ (bytes ++ more))) ∙ this
  | inr h ↦
      let stays : 0 < ending (b ∷ (bytes ++ more)) = omega (arith, h, ending_stays (b ∷ bytes) more h) in
      let on : blank (b ∷ (bytes ++ more)) ≡ suc (blank (bytes ++ more)) = blank_on b (bytes ++ more) stays in
      let rest : blank (bytes ++ more) ≡ blank bytes + blank (drop (blank bytes) bytes ++ more) = blank_more bytes more in
      let this : suc (blank bytes) + blank (drop (suc (blank bytes)) (b ∷ bytes) ++ more) ≡ blank (b ∷ bytes) + blank (drop (blank (b ∷ bytes)) (b ∷ bytes) ++ more) = sym (ap (λ (k : ℕ). k + blank (drop k (b ∷ bytes) ++ more)) (blank_on b bytes h)) in
      on ∙ ap (λ (k : ℕ). suc k) rest ∙ added (blank bytes) (blank (drop (blank bytes) bytes ++ more)) ∙ this
]

-- ---- shifts

pub shift_none : (n : ℕ) (o : Option ℕ) → n ≡ 0 → o ≡ shift n o
shift_none n None h = refl
shift_none n (Some k) h = ap Some (omega (arith, h))

pub shift_shift : (a b c : ℕ) (o : Option ℕ) → a + b ≡ c → shift a (shift b o) ≡ shift c o
shift_shift a b c None h = refl
shift_shift a b c (Some k) h = ap Some (omega (arith, h))

shift_suc : (n : ℕ) (o : Option ℕ) → option_map suc (shift n o) ≡ shift (suc n) o
shift_suc n None = refl
shift_suc n (Some k) = ap Some (omega arith)

pub shift_one : (n : ℕ) (o : Option ℕ) → n ≡ 1 → option_map suc o ≡ shift n o
shift_one n None h = refl
shift_one n (Some k) h = ap Some (omega (arith, h))

-- ---- heads

test_on : (p : Bool) (n : ℕ) (x y : Option ℕ) → p ≡ true → 0 < n → cond (p && positive n) x y ≡ x
test_on true zero x y e h = absurd (omega (arith, h))
test_on true (suc n) x y e h = refl
test_on false n x y e h = grind (arith, e)

test_off : (p : Bool) (n : ℕ) (x y : Option ℕ) → n ≡ 0 → cond (p && positive n) x y ≡ y
test_off true zero x y h = refl
test_off true (suc n) x y h = absurd (omega (arith, h))
test_off false n x y h = refl

test_other : (p : Bool) (n : ℕ) (x y : Option ℕ) → p ≡ false → cond (p && positive n) x y ≡ y
test_other true n x y h = grind (arith, h)
test_other false n x y h = refl

-- the line is the last of the head
pub head_last : (b : ℕ) (bytes : List ℕ) → b ≡ 10 → 0 < ending bytes → head_len (b ∷ bytes) ≡ Some (suc (ending bytes))
head_last b bytes e h = test_on (b == 10) (ending bytes) _ _ (grind (arith, nat_tests, e)) h

pub head_on : (b : ℕ) (bytes : List ℕ) → ending bytes ≡ 0 → head_len (b ∷ bytes) ≡ option_map suc (head_len bytes)
head_on b bytes h = test_off (b == 10) (ending bytes) _ _ h

pub head_other : (b : ℕ) (bytes : List ℕ) → b ≢ 10 → head_len (b ∷ bytes) ≡ option_map suc (head_len bytes)
head_other b bytes e = test_other (b == 10) (ending bytes) _ _ (grind (arith, nat_tests, e))

-- a head takes two bytes at least
pub no_head_in_one : (bytes : List ℕ) → length bytes < 2 → head_len bytes ≡ None
no_head_in_one [] h = refl
no_head_in_one (b ∷ []) h = head_on b [] refl
no_head_in_one (b ∷ c ∷ bytes) h = absurd (omega (arith, h))

pub no_head_yet : (b : ℕ) (bytes : List ℕ) → length bytes < 2 → ending bytes ≡ 0 → head_len (b ∷ bytes) ≡ None
no_head_yet b bytes h none = head_on b bytes none ∙ ap (option_map suc) (no_head_in_one bytes h)

none_is_not_some : {A : Type 0} (o : Option ℕ) (n : ℕ) → o ≡ None → o ≡ Some n → A
none_is_not_some None n h e = grind (arith, e)
none_is_not_some (Some k) n h e = grind (arith, h)

pub head_two : (bytes : List ℕ) (n : ℕ) → head_len bytes ≡ Some n → 2 ≤ length bytes
head_two [] n h = none_is_not_some _ n refl h
head_two (b ∷ []) n h = none_is_not_some _ n (head_on b [] refl) h
head_two (b ∷ c ∷ bytes) n h = omega arith

pub from_suc : (o : Option ℕ) (n : ℕ) → option_map suc o ≡ Some n → (k : ℕ) × (o ≡ Some k) × (suc k ≡ n)
from_suc None n h = grind (arith, h)
from_suc (Some k) n h = (k, refl, grind (arith, h))

-- one line of `head_stays`
stays_on : (b : ℕ) (bytes more : List ℕ) (n : ℕ) (p : Bool) → (b == 10) ≡ p → ((m : ℕ) → head_len bytes ≡ Some m → head_len (bytes ++ more) ≡ Some m) → head_len (b ∷ bytes) ≡ Some n → head_len (b ∷ (bytes ++ more)) ≡ Some n
stays_on b bytes more n false e on h =
    let m = from_suc (head_len bytes) n (sym (test_other (b == 10) (ending bytes) (Some (suc (ending bytes))) (option_map suc (head_len bytes)) e) ∙ h) in
    test_other (b == 10) (ending (bytes ++ more)) _ _ e ∙ ap (option_map suc) (on m.0 m.1) ∙ ap Some m.2
stays_on b bytes more n true e on h = elim (zero_or (ending bytes)) [
  | inl none ↦
      let m = from_suc (head_len bytes) n (sym (head_on b bytes none) ∙ h) in
      head_on b (bytes ++ more) (ending_two bytes more (head_two bytes m.0 m.1) ∙ none) ∙ ap (option_map suc) (on m.0 m.1) ∙ ap Some m.2
  | inr some ↦
      let stays : ending (bytes ++ more) ≡ ending bytes = ending_stays bytes more some in
      test_on (b == 10) (ending (bytes ++ more)) _ _ e (omega (arith, stays, some))
      ∙ ap (λ (k : ℕ). Some (suc k)) stays
      ∙ sym (test_on (b == 10) (ending bytes) (Some (suc (ending bytes))) (option_map suc (head_len bytes)) e some)
      ∙ h
]

-- an end that is there stays
pub head_stays : (bytes more : List ℕ) (n : ℕ) → head_len bytes ≡ Some n → head_len (bytes ++ more) ≡ Some n
head_stays [] more n h = grind (arith, h)
head_stays (b ∷ bytes) more n h = stays_on b bytes more n (b == 10) refl (λ m is. head_stays bytes more m is) h

-- bytes that are no LF
pub head_skip : (n : ℕ) (bytes more : List ℕ) → n ≤ length bytes → ((k : ℕ) → k < n → get_or bytes k 0 ≢ 10) → head_len (bytes ++ more) ≡ shift n (head_len (drop n bytes ++ more))
head_skip zero bytes more within other = shift_none 0 _ refl
head_skip (suc n) [] more within other = absurd (omega (arith, within))
head_skip (suc n) (b ∷ bytes) more within other =
    head_other b (bytes ++ more) (other 0 (omega arith))
    ∙ ap (option_map suc) (head_skip n bytes more (omega (arith, within)) (λ k less. other (suc k) (omega (arith, less))))
    ∙ shift_suc n (head_len (drop n bytes ++ more))

-- a head that is there begins with no empty line, whatever follows
pub no_blank : (bytes more : List ℕ) (n : ℕ) → head_len bytes ≡ Some n → blank bytes ≡ 0 → blank (bytes ++ more) ≡ 0
no_blank [] more n h none = grind (arith, h)
no_blank (b ∷ bytes) more n h none = elim (zero_or (ending (b ∷ bytes))) [
  | inl off ↦ blank_off (b ∷ (bytes ++ more)) (ending_two (b ∷ bytes) more (head_two (b ∷ bytes) n h) ∙ off)
  | inr on ↦ absurd (omega (arith, none, blank_on b bytes on))
]
