-- The first and the last byte of what is trimmed.
use Rattle.std.proofs.Common.{◌≡◌, ◌+◌, ◌-◌, ℕ, List, [], ◌∷◌, ◌++◌, length, get_or, Bool, true, false, ◌==◌, None, refl, sym, ◌∙◌, ap, inl, inr, append_assoc, length-append, arith}
use Rattle.std.proofs.Math.Seq.{get_or-append_seam}
use Rattle.std.specs.List.{position_from}
use Rattle.std.proofs.lemmas.Bool.{cases_Bool}
use Rattle.version_range.specs.Cuts.{without_spaces_before, before_kept, without_spaces_behind, trimmed, lead, opened, closed_by, closed}
use Rattle.version_range.specs.Grammar.{opening}
use Rattle.version_range.specs.Places.{IsFirst, IsLast}
use Rattle.version_range.specs.Bytes.{is_space, is_filled, is_opening, is_closing}
use Rattle.version_range.proofs.Edges.{closed_push, ends_with_last}
use Rattle.version_range.proofs.Places.{found_behind, last_behind, filled, blank_unfilled, lead_before}
use Rattle.version_range.proofs.Sound.{no_cut}
use Rattle.version_range.proofs.Spaced.{spaced-trimmed}

-- ---- the first

first_unspaced : (text : List ℕ) (b : ℕ) (rest : List ℕ) → without_spaces_before text ≡ b ∷ rest → is_space b ≡ false
first_unspaced [] b rest is = cc
first_unspaced (x ∷ text) b rest is = elim (cases_Bool (is_space x)) [
  | inl space ↦ first_unspaced text b rest (rw space at is)
  | inr other ↦ let here : x ∷ text ≡ b ∷ rest = rw other at is in let same : x ≡ b = cc in ap is_space (sym same) ∙ other
]

kept_first : (x : ℕ) (left : List ℕ) (b : ℕ) (rest : List ℕ) → before_kept x left ≡ b ∷ rest → x ≡ b
kept_first x [] b rest is = elim (cases_Bool (is_space x)) [
  | inl space ↦ let none' : [] ≡ b ∷ rest = rw space at is in cc
  | inr other ↦ let one : x ∷ [] ≡ b ∷ rest = rw other at is in cc
]
kept_first x (c ∷ left) b rest is = cc

first_kept : (xs : List ℕ) (b : ℕ) (rest : List ℕ) → ((c : ℕ) (others : List ℕ) → xs ≡ c ∷ others → is_space c ≡ false) → without_spaces_behind xs ≡ b ∷ rest → is_space b ≡ false
first_kept [] b rest first is = cc
first_kept (x ∷ xs) b rest first is = ap is_space (sym (kept_first x (without_spaces_behind xs) b rest is)) ∙ first x xs refl

pub trimmed_unspaced : (text : List ℕ) (b : ℕ) (rest : List ℕ) → trimmed text ≡ b ∷ rest → is_space b ≡ false
unfolding trimmed
trimmed_unspaced text b rest is = first_kept (without_spaces_before text) b rest (λ c others same. first_unspaced text c others same) is

pub trimmed_first : (text : List ℕ) (b : ℕ) (rest : List ℕ) → trimmed text ≡ b ∷ rest → IsFirst is_filled text (lead text) × (get_or text (lead text) 0 ≡ b)
trimmed_first text b rest is =
    let s = spaced-trimmed text in
    let laid : text ≡ s.before ++ b ∷ (rest ++ s.behind) = s.spelled ∙ ap (λ (l : List ℕ). s.before ++ (l ++ s.behind)) is in
    let other = trimmed_unspaced text b rest is in
    let at : lead text ≡ length s.before = ap lead laid ∙ lead_before s.before b (rest ++ s.behind) s.blank_before other in (
      ap (position_from is_filled 0) laid ∙ found_behind is_filled 0 (lead text) s.before b (rest ++ s.behind) (blank_unfilled s.before s.blank_before) (filled b other) (omega arith),
      ap (λ (l : List ℕ). get_or l (lead text) 0) laid ∙ ap (λ (i : ℕ). get_or (s.before ++ b ∷ (rest ++ s.behind)) i 0) at ∙ get_or-append_seam s.before b (rest ++ s.behind) 0,
    )

-- ---- the last

none_last : (front : List ℕ) (last : ℕ) → [] ≡ front ++ last ∷ [] → is_space last ≡ false
none_last [] last is = cc
none_last (f ∷ front) last is = cc

one_last : (b : ℕ) (front : List ℕ) (last : ℕ) → is_space b ≡ false → b ∷ [] ≡ front ++ last ∷ [] → is_space last ≡ false
one_last b [] last other is = let same : b ≡ last = cc in ap is_space (sym same) ∙ other
one_last b (f ∷ front) last other is = let tail : [] ≡ front ++ last ∷ [] = cc in none_last front last tail

last_kept : (b : ℕ) (left front : List ℕ) (last : ℕ) → ((f : List ℕ) (l : ℕ) → left ≡ f ++ l ∷ [] → is_space l ≡ false) → before_kept b left ≡ front ++ last ∷ [] → is_space last ≡ false
last_kept b [] front last rest is = elim (cases_Bool (is_space b)) [
  | inl space ↦ none_last front last (rw space at is)
  | inr other ↦ one_last b front last other (rw other at is)
]
last_kept b (c ∷ left) [] last rest is = cc
last_kept b (c ∷ left) (f ∷ front) last rest is = let tail : c ∷ left ≡ front ++ last ∷ [] = cc in rest front last tail

last_unspaced : (xs front : List ℕ) (last : ℕ) → without_spaces_behind xs ≡ front ++ last ∷ [] → is_space last ≡ false
last_unspaced [] front last is = none_last front last is
last_unspaced (b ∷ xs) front last is = last_kept b (without_spaces_behind xs) front last (λ f l same. last_unspaced xs f l same) is

trimmed_end : (text front : List ℕ) (last : ℕ) → trimmed text ≡ front ++ last ∷ [] → is_space last ≡ false
unfolding trimmed
trimmed_end text front last is = last_unspaced (without_spaces_before text) front last is

trimmed_last : (text front : List ℕ) (last at : ℕ) → trimmed text ≡ front ++ last ∷ [] → lead text ≡ length (spaced-trimmed text).before → at ≡ lead text + length front
    → IsLast is_filled text at × (get_or text at 0 ≡ last)
trimmed_last text front last at is lead_is at_is =
    let s = spaced-trimmed text in
    let laid : text ≡ (s.before ++ front) ++ last ∷ s.behind =
    s.spelled ∙ ap (λ (l : List ℕ). s.before ++ (l ++ s.behind)) is ∙ ap (λ (l : List ℕ). s.before ++ l) (append_assoc front (last ∷ []) s.behind) ∙ sym (append_assoc s.before front (last ∷ s.behind)) in
    let len = length-append s.before front in
    last_behind is_filled text (s.before ++ front) s.behind last at laid (omega arith) (filled last (trimmed_end text front last is)) (blank_unfilled s.behind s.blank_behind)

-- ---- brackets

pub unopened_is : (b : ℕ) (rest : List ℕ) → opened (b ∷ rest) ≡ None → is_opening b ≡ false
unopened_is b rest is = elim (cases_Bool (b == 91)) [
  | inl yes' ↦ absurd (no_cut (true, rest) (sym (rw yes' at is)))
  | inr not_square ↦ elim (cases_Bool (b == 40)) [
    | inl yes' ↦ absurd (no_cut (false, rest) (sym (rw (not_square, yes') at is)))
    | inr not_round ↦ rw (not_square, not_round) refl
  ]
]

pub opening_opens : (a : Bool) → is_opening (opening a) ≡ true
opening_opens true = refl
opening_opens false = refl

unclosed_by : (last : ℕ) (front : List ℕ) → closed_by last front ≡ None → is_closing last ≡ false
unclosed_by last front is = elim (cases_Bool (last == 93)) [
  | inl yes' ↦ absurd (no_cut (true, front) (sym (rw yes' at is)))
  | inr not_square ↦ elim (cases_Bool (last == 41)) [
    | inl yes' ↦ absurd (no_cut (false, front) (sym (rw (not_square, yes') at is)))
    | inr not_round ↦ rw (not_square, not_round) refl
  ]
]

opening_closes_none : (a : Bool) → is_closing (opening a) ≡ false
opening_closes_none true = refl
opening_closes_none false = refl

-- the last byte of a text in which an opening bracket is closed by none
pub record Unclosed (text core : List ℕ) : Type 0 where
  pub last : IsLast is_filled text (lead text + length core - 1)
  pub unclosed : is_closing (get_or text (lead text + length core - 1) 0) ≡ false

unclosed_behind : (text front : List ℕ) (last : ℕ) (core : List ℕ) → trimmed text ≡ core → core ≡ front ++ last ∷ [] → lead text ≡ length (spaced-trimmed text).before → is_closing last ≡ false → Unclosed text core
unclosed_behind text front last core is core_is lead_is none' =
    let len = ap length core_is in
    let len' = length-append front (last ∷ []) in
    let found = trimmed_last text front last (lead text + length core - 1) (is ∙ core_is) lead_is (omega arith) in
    record { last = found.0; unclosed = ap is_closing found.1 ∙ none' }

lead_spaces : (text : List ℕ) (b : ℕ) (rest : List ℕ) → trimmed text ≡ b ∷ rest → lead text ≡ length (spaced-trimmed text).before
lead_spaces text b rest is =
    let s = spaced-trimmed text in
    let laid : text ≡ s.before ++ b ∷ (rest ++ s.behind) = s.spelled ∙ ap (λ (l : List ℕ). s.before ++ (l ++ s.behind)) is in
    ap lead laid ∙ lead_before s.before b (rest ++ s.behind) s.blank_before (trimmed_unspaced text b rest is)

pub unclosed_last : (text rest : List ℕ) (a : Bool) → trimmed text ≡ opening a ∷ rest → closed rest ≡ None → Unclosed text (opening a ∷ rest)
unclosed_last text [] a is none' = unclosed_behind text [] (opening a) (opening a ∷ []) is refl (lead_spaces text (opening a) [] is) (opening_closes_none a)
unclosed_last text (c ∷ rest) a is none' =
    let (front, last, split) = ends_with_last c rest in
    let open' : closed_by last front ≡ None = sym (closed_push front last) ∙ ap closed (sym split) ∙ none' in
    unclosed_behind text (opening a ∷ front) last (opening a ∷ c ∷ rest) is (ap (λ (l : List ℕ). opening a ∷ l) split) (lead_spaces text (opening a) (c ∷ rest) is) (unclosed_by last front open')
