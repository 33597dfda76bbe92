-- What the comparisons of labels stand on.
use Rattle.std.proofs.Common.{◌≡◌, ◌<◌, ◌≤◌, ◌+◌, ◌-◌, ℕ, List, [], ◌∷◌, length, take, drop, get_or, min, map, true, false, Some, None, refl, sym, ap, arith, inl, inr, length-drop}
use Rattle.std.specs.Prelude.{◌==◌, not}
use Rattle.std.specs.Char.{is_ascii_digit, to_ascii_lowercase}
use Rattle.std.specs.Cmp.Lexicographic.{slice_cmp}
use Rattle.std.specs.List.{list_all, onto_first, position, position_or_len}
use Rattle.std.specs.Ordering.{nat_cmp, ordering_index, ordering_then}
use Rattle.std.specs.Str.{str_to_ascii_lowercase}
use Rattle.std.specs.declared.cmp.Ordering.{Ordering}
use Rattle.std.specs.declared.cmp.Ordering.TheVariants.{Less, Equal, Greater}
use Rattle.std.proofs.lemmas.Bool.{and_parts, cases_Bool, cases_lt, cases_order, le-ltb, lt-ltb}
use Rattle.std.proofs.lemmas.List.{drop_all, drop_more, length-map, take_all}
use Rattle.std.proofs.lemmas.List.Splits.{slice_split_first}
use Rattle.nuget_version.specs.Grammar.{is_number}
use Rattle.nuget_version.specs.Parts.{parts}
use Rattle.nuget_version.specs.Precedence.{has_leading_zero, is_numeric, labels_cmp, part_cmp}
use Rattle.nuget_version.proofs.Dotted.{parts-shape}
use Rattle.nuget_version.proofs.Numbers.{cmp_equal, cmp_greater, cmp_less, numeric_cmp}

abbrev lower : List ℕ → List ℕ
lower t = map to_ascii_lowercase t

-- the first part of a text ends at its first dot
abbrev pub dot_at : List ℕ → ℕ
dot_at text = position_or_len (λ b. b == 46) text

pub parts_cut : (text : List ℕ) → dot_at text < length text → parts text ≡ take (dot_at text) text ∷ parts (drop (dot_at text + 1) text)
parts_cut text lt = slice_split_first (λ b. b == 46) text 0 lt

pub parts_whole : (text : List ℕ) → length text ≤ dot_at text → parts text ≡ text ∷ []
parts_whole [] le = refl
parts_whole (b ∷ t) le = elim (cases_Bool (b == 46)) [
  | inl dot ↦ let zero : dot_at (b ∷ t) ≡ 0 = rw dot refl in absurd (omega arith)
  | inr other ↦
      let more : dot_at (b ∷ t) ≡ 1 + dot_at t = rw other refl in
      rw (other, parts_whole t (omega arith)) refl
]

pub position_cut : (text : List ℕ) (at : ℕ) → Some at ≡ position (λ b. b == 46) text
    → parts text ≡ take at text ∷ parts (take (length text - (at + 1)) (drop (at + 1) text))
position_cut text at is = elim (cases_lt (dot_at text) (length text)) [
  | inl lt ↦
      let same : at ≡ dot_at text = cc (rw (lt-ltb (dot_at text) (length text) lt) at is) in
      let whole : take (length text - (dot_at text + 1)) (drop (dot_at text + 1) text) ≡ drop (dot_at text + 1) text =
      take_all _ _ (omega (arith, length-drop (dot_at text + 1) text)) in
      rw (same, whole) (parts_cut text lt)
  | inr le ↦ cc (rw (le-ltb (dot_at text) (length text) le) at is)
]

pub position_none : (text : List ℕ) → None ≡ position (λ b. b == 46) text → parts text ≡ text ∷ []
position_none text is = elim (cases_lt (dot_at text) (length text)) [
  | inl lt ↦ cc (rw (lt-ltb (dot_at text) (length text) lt) at is)
  | inr le ↦ parts_whole text le
]

-- digits have no case
lower-digit : (b : ℕ) → is_ascii_digit (to_ascii_lowercase b) ≡ is_ascii_digit b
lower-digit b = grind arith

lower-digits : (t : List ℕ) → list_all is_ascii_digit (lower t) ≡ list_all is_ascii_digit t
lower-digits [] = refl
lower-digits (b ∷ t) = rw (lower-digit b, lower-digits t) refl

lower-zero : (b : ℕ) → (to_ascii_lowercase b == 48) ≡ (b == 48)
lower-zero b = grind arith

lower-numeric : (t : List ℕ) → is_numeric (lower t) ≡ is_numeric t
lower-numeric [] = refl
lower-numeric (b ∷ t) = rw (lower-digit b, lower-digits t, lower-zero b, length-map t to_ascii_lowercase) refl

digit_same : (b : ℕ) → is_ascii_digit b ≡ true → to_ascii_lowercase b ≡ b
digit_same b h = grind arith

digits_same : (t : List ℕ) → list_all is_ascii_digit t ≡ true → lower t ≡ t
digits_same [] h = refl
digits_same (b ∷ t) h =
    let p = and_parts (is_ascii_digit b) (list_all is_ascii_digit t) h in
    rw (digit_same b p.0, digits_same t p.1) refl

numeric_same : (t : List ℕ) → is_numeric t ≡ true → lower t ≡ t
numeric_same [] h = refl
numeric_same (b ∷ t) h = digits_same (b ∷ t) (and_parts (is_number (b ∷ t)) (not (has_leading_zero (b ∷ t))) h).0

-- two texts in lower case, byte by byte
abbrev pub texts_from : ℕ → List ℕ → List ℕ → Ordering
texts_from i x y = slice_cmp nat_cmp (lower (drop i x)) (lower (drop i y))

pub texts_more : (i : ℕ) (x y : List ℕ) → i < length x → i < length y
    → texts_from i x y ≡ ordering_then (nat_cmp (to_ascii_lowercase (get_or x i 0)) (to_ascii_lowercase (get_or y i 0))) (texts_from (i + 1) x y)
texts_more i x y lx ly = rw (drop_more x i 0 lx, drop_more y i 0 ly) refl

pub texts_end : (i : ℕ) (x y : List ℕ) → i ≤ length x → i ≤ length y → min (length x) (length y) ≤ i → texts_from i x y ≡ nat_cmp (length x) (length y)
texts_end i x y lx ly end = elim (cases_order (length x) (length y)) [
  | inl same ↦ rw (drop_all i x (omega arith), drop_all i y (omega arith), cmp_equal (length x) (length y) same) refl
  | inr apart ↦ elim apart [
    | inl below ↦ rw (drop_all i x (omega arith), drop_more y i 0 (omega arith), cmp_less (length x) (length y) below) refl
    | inr above ↦ rw (drop_all i y (omega arith), drop_more x i 0 (omega arith), cmp_greater (length x) (length y) above) refl
  ]
]

-- two parts in lower case
module _ (x y : List ℕ) where
  pub both_numeric : is_numeric x ≡ true → is_numeric y ≡ true
      → ordering_then (nat_cmp (length x) (length y)) (slice_cmp nat_cmp x y) ≡ part_cmp (lower x) (lower y)
  both_numeric nx ny = rw (lower-numeric x, lower-numeric y, nx, ny, numeric_same x nx, numeric_same y ny) (numeric_cmp x y nx ny)

  pub first_numeric : is_numeric x ≡ true → is_numeric y ≡ false → Less ≡ part_cmp (lower x) (lower y)
  first_numeric nx ny = rw (lower-numeric x, lower-numeric y, nx, ny) refl

  pub second_numeric : is_numeric x ≡ false → is_numeric y ≡ true → Greater ≡ part_cmp (lower x) (lower y)
  second_numeric nx ny = rw (lower-numeric x, lower-numeric y, nx, ny) refl

  pub none_numeric : is_numeric x ≡ false → is_numeric y ≡ false → slice_cmp nat_cmp (lower x) (lower y) ≡ part_cmp (lower x) (lower y)
  none_numeric nx ny = rw (lower-numeric x, lower-numeric y, nx, ny) refl

-- parts in lower case
lower-dot : (b : ℕ) → (to_ascii_lowercase b == 46) ≡ (b == 46)
lower-dot b = grind arith

onto_lower : (b : ℕ) (ps : List (List ℕ)) → onto_first (to_ascii_lowercase b) (map lower ps) ≡ map lower (onto_first b ps)
onto_lower b [] = refl
onto_lower b (p ∷ ps) = refl

parts-lower : (t : List ℕ) → parts (lower t) ≡ map lower (parts t)
parts-lower [] = refl
parts-lower (b ∷ t) = elim (cases_Bool (b == 46)) [
  | inl dot ↦ rw (lower-dot b, dot, parts-lower t) refl
  | inr other ↦ rw (lower-dot b, other, parts-lower t) (onto_lower b (parts t))
]

abbrev pub cmp_lower : List ℕ → List ℕ → Ordering
cmp_lower x y = part_cmp (str_to_ascii_lowercase x) (str_to_ascii_lowercase y)

slice_cmp-map : (xs ys : List (List ℕ)) → slice_cmp part_cmp (map lower xs) (map lower ys) ≡ slice_cmp cmp_lower xs ys
slice_cmp-map [] [] = refl
slice_cmp-map [] (y ∷ ys) = refl
slice_cmp-map (x ∷ xs) [] = refl
slice_cmp-map (x ∷ xs) (y ∷ ys) = ap (λ (o : Ordering). ordering_then (part_cmp (lower x) (lower y)) o) (slice_cmp-map xs ys)

pub parts_compared : (a b : List ℕ) → slice_cmp part_cmp (parts (lower a)) (parts (lower b)) ≡ slice_cmp cmp_lower (parts a) (parts b)
parts_compared a b = rw (parts-lower a, parts-lower b) (slice_cmp-map (parts a) (parts b))

-- labels on both sides
pub labels_compared : (a b : List ℕ) → (length a == 0) ≡ false → (length b == 0) ≡ false
    → slice_cmp cmp_lower (parts a) (parts b) ≡ labels_cmp (lower a) (lower b)
labels_compared a b sa sb =
    rw (length-map a to_ascii_lowercase, length-map b to_ascii_lowercase, sa, sb) (sym (parts_compared a b))

-- one list of parts begins the other
pub first_ends : (l r x y rest : List ℕ) → parts l ≡ x ∷ [] → parts r ≡ y ∷ parts rest → cmp_lower x y ≡ Equal → slice_cmp cmp_lower (parts l) (parts r) ≡ Less
first_ends l r x y rest pl pr tie = let s = parts-shape rest in rw (pl, pr, s.2, tie) refl

pub second_ends : (l r x y rest : List ℕ) → parts l ≡ x ∷ parts rest → parts r ≡ y ∷ [] → cmp_lower x y ≡ Equal → slice_cmp cmp_lower (parts l) (parts r) ≡ Greater
second_ends l r x y rest pl pr tie = let s = parts-shape rest in rw (pl, pr, s.2, tie) refl

-- an answer of `!=` between an order and Equal
pub equal_from : (r : Ordering) → not (ordering_index r == 1) ≡ false → r ≡ Equal
equal_from Less h = cc h
equal_from Equal h = refl
equal_from Greater h = cc h

pub decided : (r s : Ordering) → not (ordering_index r == 1) ≡ true → ordering_then r s ≡ r
decided Less s h = refl
decided Equal s h = cc h
decided Greater s h = refl

-- two numbers that differ decide, and equal ones leave it to the rest
pub differ_first : (x y : ℕ) (rest : Ordering) → (x ≡ y → ⊥) → nat_cmp x y ≡ ordering_then (nat_cmp x y) rest
differ_first x y rest apart = elim (cases_order x y) [
  | inl same ↦ absurd (apart same)
  | inr other ↦ elim other [
    | inl below ↦ rw (cmp_less x y below) refl
    | inr above ↦ rw (cmp_greater x y above) refl
  ]
]

pub tie_first : (x y : ℕ) (rest : Ordering) → x ≡ y → rest ≡ ordering_then (nat_cmp x y) rest
tie_first x y rest same = rw (cmp_equal x y same) refl
