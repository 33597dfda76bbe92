-- What is trimmed, and the spaces around it.
use Rattle.std.proofs.Common.{◌≡◌, ◌≤◌, ℕ, List, [], ◌∷◌, ◌++◌, length, true, false, refl, sym, ◌∙◌, ap, inl, inr, append-nil, arith}
use Rattle.std.specs.List.{list_all}
use Rattle.std.proofs.lemmas.Bool.{and_parts, and_from, cases_Bool}
use Rattle.version_range.specs.Bytes.{is_space}
use Rattle.version_range.specs.Cuts.{without_spaces_before, before_kept, without_spaces_behind, trimmed}
use Rattle.version_range.specs.Grammar.{IsBlank, IsSpaced}
use Rattle.version_range.proofs.Plain.{list_all_both, is_plain, plain_no_space}

-- ---- spaces and what is left are the text

record Before (text : List ℕ) : Type 0 where
  spaces : List ℕ
  blank : IsBlank spaces
  spelled : text ≡ spaces ++ without_spaces_before text

before : (text : List ℕ) → Before text
before [] = record { spaces = []; blank = refl; spelled = refl }
before (b ∷ rest) = elim (cases_Bool (is_space b)) [
  | inl space ↦ let more = before rest in record { spaces = b ∷ more.spaces; blank = and_from _ _ space more.blank; spelled = rw space (ap (λ (l : List ℕ). b ∷ l) more.spelled) }
  | inr other ↦ record { spaces = []; blank = refl; spelled = rw other refl }
]

record Behind (text : List ℕ) : Type 0 where
  spaces : List ℕ
  blank : IsBlank spaces
  spelled : text ≡ without_spaces_behind text ++ spaces

kept : (b : ℕ) (left spaces : List ℕ) → IsBlank spaces → (more : List ℕ) × IsBlank more × (b ∷ (left ++ spaces) ≡ before_kept b left ++ more)
kept b [] spaces blank = elim (cases_Bool (is_space b)) [
  | inl space ↦ (b ∷ spaces, and_from _ _ space blank, rw space refl)
  | inr other ↦ (spaces, blank, rw other refl)
]
kept b (c ∷ left) spaces blank = (spaces, blank, refl)

behind : (text : List ℕ) → Behind text
behind [] = record { spaces = []; blank = refl; spelled = refl }
behind (b ∷ rest) =
    let more = behind rest in
    let one = kept b (without_spaces_behind rest) more.spaces more.blank in
    record { spaces = one.0; blank = one.1; spelled = ap (λ (l : List ℕ). b ∷ l) more.spelled ∙ one.2 }

pub spaced-trimmed : (text : List ℕ) → IsSpaced text (trimmed text)
unfolding trimmed
spaced-trimmed text =
    let start = before text in
    let end = behind (without_spaces_before text) in
    record {
      before = start.spaces;
      behind = end.spaces;
      blank_before = start.blank;
      blank_behind = end.blank;
      spelled = start.spelled ∙ ap (λ (l : List ℕ). start.spaces ++ l) end.spelled;
    }

-- nothing but spaces, where nothing is left
pub blank_from : (text : List ℕ) → trimmed text ≡ [] → IsBlank text
blank_from text none =
    let s = spaced-trimmed text in
    ap (list_all is_space) (s.spelled ∙ ap (λ (l : List ℕ). s.before ++ (l ++ s.behind)) none) ∙ list_all_both is_space s.before s.behind s.blank_before s.blank_behind

-- ---- what is left of a text with spaces around it

skip_before : (spaces rest : List ℕ) → IsBlank spaces → without_spaces_before (spaces ++ rest) ≡ without_spaces_before rest
skip_before [] rest blank = refl
skip_before (b ∷ spaces) rest blank =
    let here = and_parts (is_space b) (list_all is_space spaces) blank in rw here.0 (skip_before spaces rest here.1)

none_behind : (spaces : List ℕ) → IsBlank spaces → without_spaces_behind spaces ≡ []
none_behind [] blank = refl
none_behind (b ∷ spaces) blank =
    let here = and_parts (is_space b) (list_all is_space spaces) blank in ap (before_kept b) (none_behind spaces here.1) ∙ rw here.0 refl

skip_behind : (text spaces : List ℕ) → IsBlank spaces → without_spaces_behind (text ++ spaces) ≡ without_spaces_behind text
skip_behind [] spaces blank = none_behind spaces blank
skip_behind (b ∷ text) spaces blank = ap (before_kept b) (skip_behind text spaces blank)

kept_other : (b : ℕ) (rest : List ℕ) → is_space b ≡ false → before_kept b rest ≡ b ∷ rest
kept_other b [] other = rw other refl
kept_other b (c ∷ rest) other = refl

before_some : (b : ℕ) (rest front : List ℕ) (last : ℕ) → rest ≡ front ++ last ∷ [] → before_kept b rest ≡ b ∷ rest
before_some b [] [] last is = cc
before_some b [] (c ∷ front) last is = cc
before_some b (c ∷ rest) front last is = refl

-- it begins and ends with no space
pub record IsTight (core : List ℕ) : Type 0 where
  pub first : without_spaces_before core ≡ core
  pub last : without_spaces_behind core ≡ core

kept_last : (front : List ℕ) (last : ℕ) → is_space last ≡ false → without_spaces_behind (front ++ last ∷ []) ≡ front ++ last ∷ []
kept_last [] last other = rw other refl
kept_last (b ∷ front) last other = ap (before_kept b) (kept_last front last other) ∙ before_some b (front ++ last ∷ []) front last refl

pub tight_ends : (first : ℕ) (inner : List ℕ) (last : ℕ) → is_space first ≡ false → is_space last ≡ false → IsTight (first ∷ (inner ++ last ∷ []))
tight_ends first inner last other other' = record { first = rw other refl; last = kept_last (first ∷ inner) last other' }

plain_kept : (text : List ℕ) → list_all is_plain text ≡ true → without_spaces_behind text ≡ text
plain_kept [] plain = refl
plain_kept (b ∷ rest) plain =
    let here = and_parts (is_plain b) (list_all is_plain rest) plain in ap (before_kept b) (plain_kept rest here.1) ∙ kept_other b rest (plain_no_space b here.0)

plain_first : (text : List ℕ) → list_all is_plain text ≡ true → without_spaces_before text ≡ text
plain_first [] plain = refl
plain_first (b ∷ rest) plain = let here = and_parts (is_plain b) (list_all is_plain rest) plain in rw (plain_no_space b here.0) refl

pub tight_plain : (text : List ℕ) → list_all is_plain text ≡ true → IsTight text
tight_plain text plain = record { first = plain_first text plain; last = plain_kept text plain }

length-before : (text : List ℕ) → length (without_spaces_before text) ≤ length text
length-before [] = omega arith
length-before (b ∷ rest) = elim (cases_Bool (is_space b)) [
  | inl space ↦ rw space (omega (arith, length-before rest))
  | inr other ↦ rw other (omega arith)
]

-- a text that begins with a space gets shorter
no_shorter : (b : ℕ) (rest : List ℕ) → is_space b ≡ true → without_spaces_before (b ∷ rest) ≡ b ∷ rest → ⊥
no_shorter b rest space same =
    let is : without_spaces_before rest ≡ b ∷ rest = rw space at same in
    let len = ap length is in
    omega (arith, length-before rest, len)

first_stays : (core spaces : List ℕ) → without_spaces_before core ≡ core → IsBlank spaces → without_spaces_behind (without_spaces_before (core ++ spaces)) ≡ without_spaces_behind core
first_stays [] spaces first blank = ap without_spaces_behind (ap without_spaces_before (sym (append-nil spaces)) ∙ skip_before spaces [] blank)
first_stays (b ∷ rest) spaces first blank = elim (cases_Bool (is_space b)) [
  | inl space ↦ absurd (no_shorter b rest space first)
  | inr other ↦ rw other (skip_behind (b ∷ rest) spaces blank)
]

pub trimmed_spaced : (text core : List ℕ) → IsSpaced text core → IsTight core → trimmed text ≡ core
unfolding trimmed
trimmed_spaced text core s tight =
    ap (λ (l : List ℕ). without_spaces_behind (without_spaces_before l)) s.spelled
    ∙ ap without_spaces_behind (skip_before s.before (core ++ s.behind) s.blank_before)
    ∙ first_stays core s.behind tight.first s.blank_behind ∙ tight.last

pub trimmed_blank : (text : List ℕ) → IsBlank text → trimmed text ≡ []
unfolding trimmed
trimmed_blank text blank = ap (λ (l : List ℕ). without_spaces_behind (without_spaces_before l)) (sym (append-nil text)) ∙ ap without_spaces_behind (skip_before text [] blank)
