-- The bytes of versions and of ends.
use Rattle.std.proofs.Common.{◌≡◌, ◌≤◌, ◌+◌, ℕ, List, [], ◌∷◌, ◌++◌, length, Bool, true, false, ◌||◌, ◌==◌, not, Option, Some, None, refl, ◌∙◌, ap, inl, inr, arith}
use Rattle.std.specs.List.{list_all, position_from}
use Rattle.std.specs.Char.{is_ascii_digit}
use Rattle.std.proofs.lemmas.Bool.Decides.{nat_tests}
use Rattle.std.proofs.lemmas.Bool.{and_parts, and_from, cases_Bool}
use Rattle.std.proofs.lemmas.List.Folds.{list_all-append}
use Rattle.nuget_version.specs.Parts.{is_dotted, marked}
use Rattle.nuget_version.specs.Grammar.{ArePieces, Pieces, Spells, behind_dots, is_number, join_dots, pieces_text}
use Rattle.nuget_version.specs.declared.version.Version.{Version}
use Rattle.nuget_version.proofs.Dotted.{dotted_bytes, is_text_byte}
use Rattle.version_range.specs.Bytes.{is_space, is_star, is_comma, is_round}
use Rattle.version_range.specs.Grammar.{IsBlank, IsSpaced, SpellsVersion, SpellsEnd}

-- what passes one test passes the other
pub list_all_weaker : (p q : ℕ → Bool) → ((b : ℕ) → p b ≡ true → q b ≡ true) → (xs : List ℕ) → list_all p xs ≡ true → list_all q xs ≡ true
list_all_weaker p q weaker [] held = refl
list_all_weaker p q weaker (x ∷ xs) held =
    let here = and_parts (p x) (list_all p xs) held in and_from _ _ (weaker x here.0) (list_all_weaker p q weaker xs here.1)

pub list_all_both : (p : ℕ → Bool) (xs ys : List ℕ) → list_all p xs ≡ true → list_all p ys ≡ true → list_all p (xs ++ ys) ≡ true
list_all_both p xs ys left right = rw (list_all-append p xs ys, left, right) refl

-- ---- versions

-- a byte of a version's text
abbrev pub is_plain : ℕ → Bool
is_plain b = is_text_byte b || (b == 43)

-- each byte is one
record IsPlain (text : List ℕ) : Type 0 where
  bytes : list_all is_plain text ≡ true

plain_append : (xs ys : List ℕ) → IsPlain xs → IsPlain ys → IsPlain (xs ++ ys)
plain_append xs ys left right = record { bytes = list_all_both is_plain xs ys left.bytes right.bytes }

plain_cons : (b : ℕ) (xs : List ℕ) → is_plain b ≡ true → IsPlain xs → IsPlain (b ∷ xs)
plain_cons b xs here others = record { bytes = and_from _ _ here others.bytes }

digit_plain : (b : ℕ) → is_ascii_digit b ≡ true → is_plain b ≡ true
digit_plain b held = grind (arith, nat_tests)

text_plain : (b : ℕ) → is_text_byte b ≡ true → is_plain b ≡ true
text_plain b held = rw held refl

number_plain : (n : List ℕ) → is_number n ≡ true → IsPlain n
number_plain [] held = cc held
number_plain (b ∷ n) held = record { bytes = list_all_weaker is_ascii_digit is_plain digit_plain (b ∷ n) held }

behind_plain : (numbers : List (List ℕ)) → list_all is_number numbers ≡ true → IsPlain (behind_dots numbers)
behind_plain [] held = record { bytes = refl }
behind_plain (n ∷ more) held =
    let here = and_parts (is_number n) (list_all is_number more) held in plain_cons 46 _ refl (plain_append n _ (number_plain n here.0) (behind_plain more here.1))

joined_plain : (numbers : List (List ℕ)) → list_all is_number numbers ≡ true → IsPlain (join_dots numbers)
joined_plain [] held = record { bytes = refl }
joined_plain (n ∷ more) held =
    let here = and_parts (is_number n) (list_all is_number more) held in plain_append n _ (number_plain n here.0) (behind_plain more here.1)

marked_plain : (mark : ℕ) (t : List ℕ) → is_plain mark ≡ true → is_dotted t ≡ true → IsPlain (marked mark t)
marked_plain mark [] plain held = record { bytes = refl }
marked_plain mark (b ∷ t) plain held =
    plain_cons mark (b ∷ t) plain (record { bytes = list_all_weaker is_text_byte is_plain text_plain (b ∷ t) (dotted_bytes (b ∷ t) held) })

pieces_plain : (p : Pieces) → ArePieces p → IsPlain (pieces_text p)
pieces_plain p are = plain_append _ _ (joined_plain p.numbers are.digits) (plain_append _ _ (marked_plain 45 p.labels refl are.labels) (marked_plain 43 p.meta refl are.meta))

pub version_plain : (core : List ℕ) (v : Version) → Spells core v → list_all is_plain core ≡ true
version_plain core v spells = ap (list_all is_plain) spells.made.spelled ∙ (pieces_plain spells.pieces spells.made.are).bytes

numbers_filled : (numbers : List (List ℕ)) (rest : List ℕ) → 1 ≤ length numbers → list_all is_number numbers ≡ true → (b : ℕ) × (others : List ℕ) × (join_dots numbers ++ rest ≡ b ∷ others)
numbers_filled [] rest some held = absurd (omega arith)
numbers_filled ([] ∷ more) rest some held = cc held
numbers_filled ((b ∷ n) ∷ more) rest some held = (b, (n ++ behind_dots more) ++ rest, refl)

-- a version's text isn't empty
pub version_filled : (core : List ℕ) (v : Version) → Spells core v → (b : ℕ) × (others : List ℕ) × (core ≡ b ∷ others)
version_filled core v spells =
    let p = spells.pieces in
    let (b, others, is) = numbers_filled p.numbers (marked 45 p.labels ++ marked 43 p.meta) spells.made.are.some spells.made.are.digits in
    (b, others, spells.made.spelled ∙ is)

-- ---- ends

-- a byte of a version's text, or a space
abbrev pub is_loose : ℕ → Bool
is_loose b = is_plain b || is_space b

space_loose : (b : ℕ) → is_space b ≡ true → is_loose b ≡ true
space_loose b held = grind (arith, nat_tests)

plain_loose : (b : ℕ) → is_plain b ≡ true → is_loose b ≡ true
plain_loose b held = rw held refl

pub blank_loose : (text : List ℕ) → IsBlank text → list_all is_loose text ≡ true
blank_loose text blank = list_all_weaker is_space is_loose space_loose text blank

pub spaced_all : (p : ℕ → Bool) → ((b : ℕ) → is_space b ≡ true → p b ≡ true) → (text inner : List ℕ) → IsSpaced text inner → list_all p inner ≡ true → list_all p text ≡ true
spaced_all p space text inner s held =
    ap (list_all p) s.spelled
    ∙ list_all_both p s.before (inner ++ s.behind) (list_all_weaker is_space p space s.before s.blank_before)
    (list_all_both p inner s.behind held (list_all_weaker is_space p space s.behind s.blank_behind))

pub version_loose : (text : List ℕ) (v : Version) → SpellsVersion text v → list_all is_loose text ≡ true
version_loose text v s = spaced_all is_loose space_loose text s.core s.spaced (list_all_weaker is_plain is_loose plain_loose s.core (version_plain s.core v s.version))

pub end_loose : (text : List ℕ) (end : Option Version) → SpellsEnd text end → list_all is_loose text ≡ true
end_loose text None blank = blank_loose text blank
end_loose text (Some v) s = version_loose text v s

-- ---- tests

pub plain_no_space : (b : ℕ) → is_plain b ≡ true → is_space b ≡ false
plain_no_space b held = grind (arith, nat_tests)

pub plain_no_square : (b : ℕ) → is_plain b ≡ true → b == 91 ≡ false
plain_no_square b held = grind (arith, nat_tests)

pub plain_no_round : (b : ℕ) → is_plain b ≡ true → b == 40 ≡ false
plain_no_round b held = grind (arith, nat_tests)

pub space_unstarred : (b : ℕ) → is_space b ≡ true → not (is_star b) ≡ true
space_unstarred b held = grind (arith, nat_tests)

pub loose_unstarred : (b : ℕ) → is_loose b ≡ true → not (is_star b) ≡ true
loose_unstarred b held = grind (arith, nat_tests)

pub loose_no_comma : (b : ℕ) → is_loose b ≡ true → not (is_comma b) ≡ true
loose_no_comma b held = grind (arith, nat_tests)

pub loose_no_bracket : (b : ℕ) → is_loose b ≡ true → not (is_round b) ≡ true
loose_no_bracket b held = grind (arith, nat_tests)

-- ---- places

pub no_place : (p : ℕ → Bool) (n : ℕ) (xs : List ℕ) → list_all (λ b. not (p b)) xs ≡ true → position_from p n xs ≡ None
no_place p n [] held = refl
no_place p n (x ∷ xs) held =
    let here = and_parts (not (p x)) (list_all (λ b. not (p b)) xs) held in
    elim (cases_Bool (p x)) [
      | inl yes' ↦ cc (rw yes' at here.0)
      | inr no' ↦ rw no' (no_place p (n + 1) xs here.1)
    ]

pub none_passes : (p : ℕ → Bool) (n : ℕ) (xs : List ℕ) → position_from p n xs ≡ None → list_all (λ b. not (p b)) xs ≡ true
none_passes p n [] none' = refl
none_passes p n (x ∷ xs) none' =
    elim (cases_Bool (p x)) [
      | inl yes' ↦ cc (rw yes' at none')
      | inr no' ↦ rw no' (none_passes p (n + 1) xs (rw no' at none'))
    ]
