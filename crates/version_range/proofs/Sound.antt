-- What a form gives is spelled by the text.
use Rattle.std.proofs.Common.{◌≡◌, ◌+◌, ℕ, List, [], ◌∷◌, ◌++◌, length, Bool, true, false, ◌==◌, not, Option, Some, None, option_map, refl, sym, ◌∙◌, ap, ap₂, subst, inl, inr}
use Rattle.std.specs.List.{list_all, position_from}
use Rattle.std.proofs.lemmas.Bool.{and_parts, cases_Bool, eqb-true}
use Rattle.std.proofs.lemmas.List.Folds.{list_all-append}
use Rattle.nuget_version.specs.declared.version.Version.{Version}
use Rattle.version_range.specs.Bytes.{is_star, is_comma, is_round}
use Rattle.version_range.specs.Cuts.{trimmed, lead, opened, closed_by, closed, in_front, parted}
use Rattle.version_range.specs.Form.{piece, form_unless, form, core_form, opened_form, closed_form, inner_form, single_unless, double_unless, single, double}
use Rattle.version_range.specs.Grammar.{IsSpaced, SpellsEnd, opening, closing, SpellsRange, any, least, exact, both}
use Rattle.version_range.specs.Steps.{IsEnd, IsReadAs}
use Rattle.version_range.specs.declared.range.VersionRange.{VersionRange}
use Rattle.version_range.proofs.Edges.{closed_push, ends_with_last}
use Rattle.version_range.proofs.Plain.{none_passes}
use Rattle.version_range.proofs.Spaced.{spaced-trimmed, blank_from}

-- ---- what was cut

same_some : {X : Type 0} (x y : X) → Some x ≡ Some y → x ≡ y
same_some x y same = cc

cut_bracket : (a b : Bool) (x y : List ℕ) → ◌≡◌ {A = Option (Bool × List ℕ)} (Some (a, x)) (Some (b, y)) → a ≡ b
cut_bracket a b x y same = ap (λ (p : Bool × List ℕ). p.0) (same_some (a, x) (b, y) same)

cut_text : (a b : Bool) (x y : List ℕ) → ◌≡◌ {A = Option (Bool × List ℕ)} (Some (a, x)) (Some (b, y)) → x ≡ y
cut_text a b x y same = ap (λ (p : Bool × List ℕ). p.1) (same_some (a, x) (b, y) same)

pub no_cut : (a : Bool × List ℕ) → ◌≡◌ {A = Option (Bool × List ℕ)} None (Some a) → ⊥
no_cut a same = cc

pub opened_is : (core rest : List ℕ) (square : Bool) → opened core ≡ Some (square, rest) → core ≡ opening square ∷ rest
opened_is [] rest square is = absurd (no_cut (square, rest) is)
opened_is (b ∷ others) rest square is = elim (cases_Bool (b == 91)) [
  | inl yes' ↦ let cut : Some (true, others) ≡ Some (square, rest) = rw yes' at is in
      ap₂ (λ (x : ℕ) (l : List ℕ). x ∷ l) (eqb-true b 91 yes' ∙ ap opening (cut_bracket true square others rest cut)) (cut_text true square others rest cut)
  | inr not_square ↦ elim (cases_Bool (b == 40)) [
    | inl yes' ↦ let cut : Some (false, others) ≡ Some (square, rest) = rw (not_square, yes') at is in
        ap₂ (λ (x : ℕ) (l : List ℕ). x ∷ l) (eqb-true b 40 yes' ∙ ap opening (cut_bracket false square others rest cut)) (cut_text false square others rest cut)
    | inr not_round ↦ absurd (no_cut (square, rest) (rw (not_square, not_round) at is))
  ]
]

closed_by_is : (last : ℕ) (front inner : List ℕ) (square : Bool) → closed_by last front ≡ Some (square, inner) → front ++ last ∷ [] ≡ inner ++ closing square ∷ []
closed_by_is last front inner square is = elim (cases_Bool (last == 93)) [
  | inl yes' ↦ let cut : Some (true, front) ≡ Some (square, inner) = rw yes' at is in
      ap₂ (λ (l : List ℕ) (x : ℕ). l ++ x ∷ []) (cut_text true square front inner cut) (eqb-true last 93 yes' ∙ ap closing (cut_bracket true square front inner cut))
  | inr not_square ↦ elim (cases_Bool (last == 41)) [
    | inl yes' ↦ let cut : Some (false, front) ≡ Some (square, inner) = rw (not_square, yes') at is in
        ap₂ (λ (l : List ℕ) (x : ℕ). l ++ x ∷ []) (cut_text false square front inner cut) (eqb-true last 41 yes' ∙ ap closing (cut_bracket false square front inner cut))
    | inr not_round ↦ absurd (no_cut (square, inner) (rw (not_square, not_round) at is))
  ]
]

pub closed_is : (rest inner : List ℕ) (square : Bool) → closed rest ≡ Some (square, inner) → rest ≡ inner ++ closing square ∷ []
unfolding closed
closed_is [] inner square is = absurd (no_cut (square, inner) is)
closed_is (b ∷ others) inner square is =
    let (front, last, split) = ends_with_last b others in
    split ∙ closed_by_is last front inner square (sym (closed_push front last) ∙ ap closed (sym split) ∙ is)

pub no_parts : (a : List ℕ × List ℕ) → ◌≡◌ {A = Option (List ℕ × List ℕ)} None (Some a) → ⊥
no_parts a same = cc

pub parts_left : (a b x y : List ℕ) → ◌≡◌ {A = Option (List ℕ × List ℕ)} (Some (a, x)) (Some (b, y)) → a ≡ b
parts_left a b x y same = ap (λ (p : List ℕ × List ℕ). p.0) (same_some (a, x) (b, y) same)

parts_right : (a b x y : List ℕ) → ◌≡◌ {A = Option (List ℕ × List ℕ)} (Some (a, x)) (Some (b, y)) → x ≡ y
parts_right a b x y same = ap (λ (p : List ℕ × List ℕ). p.1) (same_some (a, x) (b, y) same)

joined_as : (a b x y : List ℕ) → ◌≡◌ {A = Option (List ℕ × List ℕ)} (Some (a, x)) (Some (b, y)) → a ++ 44 ∷ x ≡ b ++ 44 ∷ y
joined_as a b x y same = ap₂ (λ (l m : List ℕ). l ++ 44 ∷ m) (parts_left a b x y same) (parts_right a b x y same)

parted_more : (b : ℕ) (others left right : List ℕ) (cut : Option (List ℕ × List ℕ)) → ((l m : List ℕ) → cut ≡ Some (l, m) → others ≡ l ++ 44 ∷ m)
    → option_map (in_front b) cut ≡ Some (left, right) → b ∷ others ≡ left ++ 44 ∷ right
parted_more b others left right None rest is = absurd (no_parts (left, right) is)
parted_more b others left right (Some parts) rest is =
    ap (λ (l : List ℕ). b ∷ l) (rest parts.0 parts.1 refl) ∙ joined_as (b ∷ parts.0) left parts.1 right is

pub parted_is : (inner left right : List ℕ) → parted inner ≡ Some (left, right) → inner ≡ left ++ 44 ∷ right
parted_is [] left right is = absurd (no_parts (left, right) is)
parted_is (b ∷ others) left right is = elim (cases_Bool (is_comma b)) [
  | inl comma ↦ ap (λ (x : ℕ). x ∷ others) (eqb-true b 44 comma) ∙ joined_as [] left others right (rw comma at is)
  | inr other ↦ parted_more b others left right (parted others) (λ l m cut. parted_is others l m cut) (rw other at is)
]

-- ---- ends and ranges

pub end_spelled : (text : List ℕ) (end : Option Version) → IsEnd (trimmed text) end → SpellsEnd text end
end_spelled text None none = blank_from text none
end_spelled text (Some v) spells = record { core = trimmed text; spaced = spaced-trimmed text; version = spells }

-- without round brackets both are square
pub square_low : (low_in high_in : Bool) (inner : List ℕ) → list_all (λ b. not (is_round b)) (opening low_in ∷ (inner ++ closing high_in ∷ [])) ≡ true → low_in ≡ true
square_low true high_in inner held = refl
square_low false high_in inner held = cc

pub square_high : (low_in high_in : Bool) (inner : List ℕ) → list_all (λ b. not (is_round b)) (opening low_in ∷ (inner ++ closing high_in ∷ [])) ≡ true → high_in ≡ true
square_high low_in true inner held = refl
square_high low_in false inner held =
    let rest = and_parts (not (is_round (opening low_in))) (list_all (λ b. not (is_round b)) (inner ++ 41 ∷ [])) held in
    let last = and_parts (list_all (λ b. not (is_round b)) inner) (list_all (λ b. not (is_round b)) (41 ∷ [])) (sym (list_all-append (λ b. not (is_round b)) inner (41 ∷ [])) ∙ rest.1) in
    last.1

module _ (text : List ℕ) (r : VersionRange) where
  sound_double : (core inner left right : List ℕ) (low_in high_in : Bool) (left_at right_at : ℕ) → IsSpaced text core → core ≡ opening low_in ∷ (inner ++ closing high_in ∷ []) → inner ≡ left ++ 44 ∷ right
      → IsReadAs (double low_in (piece left_at left) (piece right_at right) high_in) r → SpellsRange text r
  sound_double core inner left right low_in high_in left_at right_at spaced core_is inner_is read =
      both (record {
        low_square = low_in;
        high_square = high_in;
        left = left;
        right = right;
        bracketed = subst (IsSpaced text) (core_is ∙ ap (λ (l : List ℕ). opening low_in ∷ (l ++ closing high_in ∷ [])) inner_is) spaced;
        low_end = end_spelled left r.low read.0;
        high_end = end_spelled right r.high read.1;
        low_in = read.2;
        high_in = read.3;
      })

  sound_single : (core inner : List ℕ) (low_in high_in : Bool) (at : ℕ) → IsSpaced text core → core ≡ opening low_in ∷ (inner ++ closing high_in ∷ []) → position_from is_round 0 core ≡ None
      → IsReadAs (single (piece at inner)) r → SpellsRange text r
  sound_single core inner low_in high_in at spaced core_is none (v, spells, ends) =
      let square = none_passes is_round 0 (opening low_in ∷ (inner ++ closing high_in ∷ [])) (ap (position_from is_round 0) (sym core_is) ∙ none) in
      exact v inner
      (subst (IsSpaced text) (core_is ∙ ap₂ (λ (a b : Bool). opening a ∷ (inner ++ closing b ∷ [])) (square_low low_in high_in inner square) (square_high low_in high_in inner square)) spaced)
      (record { core = trimmed inner; spaced = spaced-trimmed inner; version = spells }) ends

  sound_single_unless : (core inner : List ℕ) (low_in high_in : Bool) (at : ℕ) → IsSpaced text core → core ≡ opening low_in ∷ (inner ++ closing high_in ∷ [])
      → (place : Option ℕ) → position_from is_round 0 core ≡ place → IsReadAs (single_unless place at inner) r → SpellsRange text r
  sound_single_unless core inner low_in high_in at spaced core_is (Some k) place read = absurd read
  sound_single_unless core inner low_in high_in at spaced core_is None place read = sound_single core inner low_in high_in (at + 1) spaced core_is place read

  sound_double_unless : (core inner left right : List ℕ) (low_in high_in : Bool) (at right_at : ℕ) → IsSpaced text core → core ≡ opening low_in ∷ (inner ++ closing high_in ∷ []) → inner ≡ left ++ 44 ∷ right
      → (place : Option ℕ) → IsReadAs (double_unless place low_in at left right_at right high_in) r → SpellsRange text r
  sound_double_unless core inner left right low_in high_in at right_at spaced core_is inner_is (Some k) read = absurd read
  sound_double_unless core inner left right low_in high_in at right_at spaced core_is inner_is None read =
      sound_double core inner left right low_in high_in (at + 1) right_at spaced core_is inner_is read

  sound_inner : (core inner : List ℕ) (low_in high_in : Bool) (at : ℕ) → IsSpaced text core → core ≡ opening low_in ∷ (inner ++ closing high_in ∷ [])
      → (cut : Option (List ℕ × List ℕ)) → parted inner ≡ cut → IsReadAs (inner_form at core low_in cut inner high_in) r → SpellsRange text r
  sound_inner core inner low_in high_in at spaced core_is None cut read = sound_single_unless core inner low_in high_in at spaced core_is (position_from is_round 0 core) refl read
  sound_inner core inner low_in high_in at spaced core_is (Some (left, right)) cut read =
      sound_double_unless core inner left right low_in high_in at (at + 1 + length left + 1) spaced core_is (parted_is inner left right cut) (position_from is_comma 0 right) read

  sound_closed : (core rest : List ℕ) (low_in : Bool) (at : ℕ) → IsSpaced text core → core ≡ opening low_in ∷ rest
      → (cut : Option (Bool × List ℕ)) → closed rest ≡ cut → IsReadAs (closed_form at core low_in cut) r → SpellsRange text r
  sound_closed core rest low_in at spaced core_is None cut read = absurd read
  sound_closed core rest low_in at spaced core_is (Some (high_in, inner)) cut read =
      sound_inner core inner low_in high_in at spaced (core_is ∙ ap (λ (l : List ℕ). opening low_in ∷ l) (closed_is rest inner high_in cut)) (parted inner) refl read

  sound_opened : (core : List ℕ) (at : ℕ) → IsSpaced text core → (cut : Option (Bool × List ℕ)) → opened core ≡ cut → IsReadAs (opened_form at core cut) r → SpellsRange text r
  sound_opened core at spaced None cut (v, spells, ends) = least v (record { core = core; spaced = spaced; version = spells }) ends
  sound_opened core at spaced (Some (low_in, rest)) cut read = sound_closed core rest low_in at spaced (opened_is core rest low_in cut) (closed rest) refl read

  sound_core : (core : List ℕ) (at : ℕ) → trimmed text ≡ core → IsReadAs (core_form at core) r → SpellsRange text r
  sound_core [] at is read = any (blank_from text is) read
  sound_core (b ∷ rest) at is read = sound_opened (b ∷ rest) at (subst (IsSpaced text) is (spaced-trimmed text)) (opened (b ∷ rest)) refl read

  sound_unless : (place : Option ℕ) → IsReadAs (form_unless place text) r → SpellsRange text r
  sound_unless (Some at) read = absurd read
  sound_unless None read = sound_core (trimmed text) (lead text) refl read

  pub sound : IsReadAs (form text) r → SpellsRange text r
  unfolding form
  sound read = sound_unless (position_from is_star 0 text) read
