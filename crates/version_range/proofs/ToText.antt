-- What a form is refused for holds of its text.
use Rattle.std.proofs.Common.{◌≡◌, ◌+◌, ◌-◌, ℕ, List, [], ◌∷◌, ◌++◌, length, get_or, Bool, true, false, Option, Some, None, refl, sym, ◌∙◌, ap, subst, inl, inr, arith}
use Rattle.std.specs.List.{position_from}
use Rattle.version_range.specs.Bytes.{is_star, is_comma, is_round, is_filled, is_opening, is_closing}
use Rattle.version_range.specs.Cuts.{trimmed, lead, opened, closed, parted}
use Rattle.version_range.specs.Form.{piece, piece_at, form_unless, form, core_form, opened_form, closed_form, inner_form, single_unless, double_unless}
use Rattle.version_range.specs.Grammar.{IsSpaced, IsBracketed, opening, closing}
use Rattle.version_range.specs.Places.{HasNone, IsFirst, IsNextPlace, IsSecond, IsLast}
use Rattle.version_range.specs.Refusals.{IsNoSpacedVersion, IsNoEnd, IsPair, IsRangeRefused}
use Rattle.version_range.specs.Steps.{SpellsNone, IsFilledNone, IsBadBound, AreBadEnds, IsBrokenAt, IsStarredAt, IsMemory, IsRefusedAs}
use Rattle.version_range.specs.declared.error.RangeErr.{RangeErr}
use Rattle.version_range.specs.declared.error.RangeErr.TheVariants.{Floating, BadBound, BadByte, Inverted, Memory}
use Rattle.version_range.proofs.BracketPlaces.{second_filled, none_comma, none_round, first_round, first_comma, right_filled, second_comma}
use Rattle.version_range.proofs.Commas.{whole_unparted, whole_left}
use Rattle.version_range.proofs.Complete.{end_read}
use Rattle.version_range.proofs.Plain.{no_place, none_passes}
use Rattle.version_range.proofs.Places.{lead_longer}
use Rattle.version_range.proofs.Sound.{end_spelled, opened_is, closed_is, parted_is, square_low, square_high}
use Rattle.version_range.proofs.Spaced.{spaced-trimmed, trimmed_blank}
use Rattle.version_range.proofs.Trimmed.{trimmed_first, unopened_is, opening_opens, unclosed_last}

pub no_version : (text : List ℕ) → SpellsNone (trimmed text) → IsNoSpacedVersion text
no_version text none' v s = none' v (end_read text (Some v) s)

pub no_end : (text : List ℕ) → IsFilledNone (trimmed text) → IsNoEnd text
no_end text none' None blank' = let len = ap length (trimmed_blank text blank') in omega (arith, len, none'.0)
no_end text none' (Some v) s = none'.1 v (end_read text (Some v) s)

module _ (text : List ℕ) (unstarred : HasNone is_star text) where
  to_bare : (b : ℕ) (rest : List ℕ) → trimmed text ≡ b ∷ rest → opened (b ∷ rest) ≡ None → (e : RangeErr) → IsBadBound (piece_at (lead text) (b ∷ rest)) e → IsRangeRefused text e
  to_bare b rest is none' Memory bad = tt
  to_bare b rest is none' (BadBound at) bad =
      let first = trimmed_first text b rest is in
      inl (record {
        unstarred = unstarred;
        first = subst (IsFirst is_filled text) (sym bad.0) first.0;
        unopened = ap (λ (i : ℕ). is_opening (get_or text i 0)) bad.0 ∙ ap is_opening first.1 ∙ unopened_is b rest none';
        none = no_version text (subst SpellsNone (sym is) bad.1);
      })
  to_bare b rest is none' (Floating at) bad = absurd bad
  to_bare b rest is none' (BadByte at) bad = absurd bad
  to_bare b rest is none' Inverted bad = absurd bad

  to_unclosed : (a : Bool) (rest : List ℕ) → trimmed text ≡ opening a ∷ rest → closed rest ≡ None → (e : RangeErr) → IsBrokenAt (lead text + length (opening a ∷ rest) - 1) e → IsRangeRefused text e
  to_unclosed a rest is none' Memory bad = tt
  to_unclosed a rest is none' (BadByte at) bad =
      let first = trimmed_first text (opening a) rest is in
      let found = unclosed_last text rest a is none' in
      inl (record {
        unstarred = unstarred;
        first = lead text;
        filled = first.0;
        opens = ap is_opening first.1 ∙ opening_opens a;
        last = subst (IsLast is_filled text) (sym bad) found.last;
        unclosed = ap (λ (i : ℕ). is_closing (get_or text i 0)) bad ∙ found.unclosed;
      })
  to_unclosed a rest is none' (Floating at) bad = absurd bad
  to_unclosed a rest is none' (BadBound at) bad = absurd bad
  to_unclosed a rest is none' Inverted bad = absurd bad

  to_round : (a : Bool) (inner : List ℕ) (b : Bool) → IsBracketed text a inner b → HasNone is_comma inner → (k : ℕ) → IsFirst is_round (opening a ∷ (inner ++ closing b ∷ [])) k
      → (e : RangeErr) → IsBrokenAt (lead text + k) e → IsRangeRefused text e
  to_round a inner b s alone k found Memory bad = tt
  to_round a inner b s alone k found (BadByte at) bad =
      inr (inr (a, inner, b, record { unstarred = unstarred; bracketed = s }, none_comma text a inner b s alone, subst (IsFirst is_round text) (sym bad) (first_round text a inner b s k found)))
  to_round a inner b s alone k found (Floating at) bad = absurd bad
  to_round a inner b s alone k found (BadBound at) bad = absurd bad
  to_round a inner b s alone k found Inverted bad = absurd bad

  to_second : (a : Bool) (left right : List ℕ) (b : Bool) → IsBracketed text a (left ++ 44 ∷ right) b → HasNone is_comma left → (k : ℕ) → IsFirst is_comma right k
      → (e : RangeErr) → IsBrokenAt (lead text + 1 + length left + 1 + k) e → IsRangeRefused text e
  to_second a left right b s whole k found Memory bad = tt
  to_second a left right b s whole k found (BadByte at) bad =
      inr (inl (a, left ++ 44 ∷ right, b, record { unstarred = unstarred; bracketed = s }, subst (IsSecond is_comma text) (sym bad) (second_comma text a left right b s whole k found)))
  to_second a left right b s whole k found (Floating at) bad = absurd bad
  to_second a left right b s whole k found (BadBound at) bad = absurd bad
  to_second a left right b s whole k found Inverted bad = absurd bad

  to_single : (inner : List ℕ) → IsBracketed text true inner true → HasNone is_comma inner → HasNone is_round (91 ∷ (inner ++ 93 ∷ [])) → (e : RangeErr) → IsBadBound (piece (lead text + 1) inner) e → IsRangeRefused text e
  to_single inner s alone square Memory bad = tt
  to_single inner s alone square (BadBound at) bad =
      inr (inl (record {
        inner = inner;
        brackets = record { unstarred = unstarred; bracketed = s };
        alone = none_comma text true inner true s alone;
        square = none_round text true inner true s square;
        none = no_version inner bad.1;
        place = subst (IsSecond is_filled text) (sym bad.0) (second_filled text true inner true s);
      }))
  to_single inner s alone square (Floating at) bad = absurd bad
  to_single inner s alone square (BadByte at) bad = absurd bad
  to_single inner s alone square Inverted bad = absurd bad

  module _ (a : Bool) (left right : List ℕ) (b : Bool) (s : IsBracketed text a (left ++ 44 ∷ right) b) (left_whole : HasNone is_comma left) (right_whole : HasNone is_comma right) where
    pair : IsPair text a left right b
    pair = record { brackets = record { unstarred = unstarred; bracketed = s }; left_whole = left_whole; right_whole = right_whole }

    pub left_place : IsSecond is_filled text (lead text + 1 + lead left)
    left_place = subst (IsSecond is_filled text) (ap (λ (n : ℕ). lead text + 1 + n) (lead_longer left 44 right refl)) (second_filled text a (left ++ 44 ∷ right) b s)

    to_double : (e : RangeErr) → AreBadEnds a (piece (lead text + 1) left) (piece (lead text + 1 + length left + 1) right) b e → IsRangeRefused text e
    to_double Memory bad = tt
    to_double (BadBound at) (inl bad) = inr (inr (inl (a, left, right, b, pair, no_end left bad.1, subst (IsSecond is_filled text) (sym bad.0) left_place)))
    to_double (BadBound at) (inr bad) =
        inr (inr (inr (record {
          low_square = a;
          left = left;
          right = right;
          high_square = b;
          pair = pair;
          low = bad.1.0;
          low_end = end_spelled left bad.1.0 bad.1.1;
          none = no_end right bad.2;
          place = (lead text + 1 + length left, first_comma text a left right b s left_whole, subst (IsNextPlace is_filled text (lead text + 1 + length left)) (sym bad.0) (right_filled text a left right b s left_whole));
        })))
    to_double Inverted (low, high, low_is, high_is, inverted) = record {
      low_square = a;
      left = left;
      right = right;
      high_square = b;
      pair = pair;
      low = low;
      low_end = end_spelled left low low_is;
      high = high;
      high_end = end_spelled right high high_is;
      inverted = inverted;
    }
    to_double (Floating at) bad = absurd bad
    to_double (BadByte at) bad = absurd bad

  -- ---- the forms, one in the other

  to_double_unless : (a : Bool) (left right : List ℕ) (b : Bool) → IsBracketed text a (left ++ 44 ∷ right) b → HasNone is_comma left
      → (place : Option ℕ) → position_from is_comma 0 right ≡ place → (e : RangeErr) → IsRefusedAs (double_unless place a (lead text) left (lead text + 1 + length left + 1) right b) e → IsRangeRefused text e
  to_double_unless a left right b s whole (Some k) found e bad = to_second a left right b s whole k found e bad
  to_double_unless a left right b s whole None none' e bad = to_double a left right b s whole none' e bad

  to_single_unless : (a : Bool) (inner : List ℕ) (b : Bool) → IsBracketed text a inner b → HasNone is_comma inner
      → (place : Option ℕ) → position_from is_round 0 (opening a ∷ (inner ++ closing b ∷ [])) ≡ place → (e : RangeErr) → IsRefusedAs (single_unless place (lead text) inner) e → IsRangeRefused text e
  to_single_unless a inner b s alone (Some k) found e bad = to_round a inner b s alone k found e bad
  to_single_unless true inner true s alone None none' e bad = to_single inner s alone none' e bad
  to_single_unless false inner b s alone None none' e bad =
      let one : false ≡ true = square_low false b inner (none_passes is_round 0 (opening false ∷ (inner ++ closing b ∷ [])) none') in cc
  to_single_unless true inner false s alone None none' e bad =
      let one : false ≡ true = square_high true false inner (none_passes is_round 0 (opening true ∷ (inner ++ closing false ∷ [])) none') in cc

  to_inner : (a : Bool) (inner : List ℕ) (b : Bool) → IsBracketed text a inner b → (cut : Option (List ℕ × List ℕ)) → parted inner ≡ cut
      → (e : RangeErr) → IsRefusedAs (inner_form (lead text) (opening a ∷ (inner ++ closing b ∷ [])) a cut inner b) e → IsRangeRefused text e
  to_inner a inner b s None cut e bad =
      to_single_unless a inner b s (no_place is_comma 0 inner (whole_unparted inner cut)) (position_from is_round 0 (opening a ∷ (inner ++ closing b ∷ []))) refl e bad
  to_inner a inner b s (Some (left, right)) cut e bad =
      to_double_unless a left right b (subst (λ (l : List ℕ). IsBracketed text a l b) (parted_is inner left right cut) s) (no_place is_comma 0 left (whole_left inner left right cut)) (position_from is_comma 0 right) refl e bad

  to_closed : (a : Bool) (rest : List ℕ) → trimmed text ≡ opening a ∷ rest → (cut : Option (Bool × List ℕ)) → closed rest ≡ cut
      → (e : RangeErr) → IsRefusedAs (closed_form (lead text) (opening a ∷ rest) a cut) e → IsRangeRefused text e
  to_closed a rest is None cut e bad = to_unclosed a rest is cut e bad
  to_closed a rest is (Some (b, inner)) cut e bad =
      let core_is : opening a ∷ rest ≡ opening a ∷ (inner ++ closing b ∷ []) = ap (λ (l : List ℕ). opening a ∷ l) (closed_is rest inner b cut) in
      to_inner a inner b (subst (IsSpaced text) (is ∙ core_is) (spaced-trimmed text)) (parted inner) refl e
      (subst (λ (l : List ℕ). IsRefusedAs (inner_form (lead text) l a (parted inner) inner b) e) core_is bad)

  to_opened : (b : ℕ) (rest : List ℕ) → trimmed text ≡ b ∷ rest → (cut : Option (Bool × List ℕ)) → opened (b ∷ rest) ≡ cut
      → (e : RangeErr) → IsRefusedAs (opened_form (lead text) (b ∷ rest) cut) e → IsRangeRefused text e
  to_opened b rest is None cut e bad = to_bare b rest is cut e bad
  to_opened b rest is (Some (a, others)) cut e bad =
      let core_is : b ∷ rest ≡ opening a ∷ others = opened_is (b ∷ rest) others a cut in
      to_closed a others (is ∙ core_is) (closed others) refl e (subst (λ (l : List ℕ). IsRefusedAs (closed_form (lead text) l a (closed others)) e) core_is bad)

  to_memory : (e : RangeErr) → IsMemory e → IsRangeRefused text e
  to_memory Memory bad = tt
  to_memory (Floating at) bad = absurd bad
  to_memory (BadBound at) bad = absurd bad
  to_memory (BadByte at) bad = absurd bad
  to_memory Inverted bad = absurd bad

  to_core : (core : List ℕ) → trimmed text ≡ core → (e : RangeErr) → IsRefusedAs (core_form (lead text) core) e → IsRangeRefused text e
  to_core [] is e bad = to_memory e bad
  to_core (b ∷ rest) is e bad = to_opened b rest is (opened (b ∷ rest)) refl e bad

to_star : (text : List ℕ) (place : ℕ) → position_from is_star 0 text ≡ Some place → (e : RangeErr) → IsStarredAt place e → IsRangeRefused text e
to_star text place found Memory bad = tt
to_star text place found (Floating at) bad = found ∙ ap Some (sym bad)
to_star text place found (BadBound at) bad = absurd bad
to_star text place found (BadByte at) bad = absurd bad
to_star text place found Inverted bad = absurd bad

to_unless : (text : List ℕ) (place : Option ℕ) → position_from is_star 0 text ≡ place → (e : RangeErr) → IsRefusedAs (form_unless place text) e → IsRangeRefused text e
to_unless text (Some at) found e bad = to_star text at found e bad
to_unless text None none' e bad = to_core text none' (trimmed text) refl e bad

pub to_text : (text : List ℕ) (e : RangeErr) → IsRefusedAs (form text) e → IsRangeRefused text e
unfolding form
to_text text e bad = to_unless text (position_from is_star 0 text) refl e bad
