-- What a text is refused for holds of its form.
use Rattle.std.proofs.Common.{◌≡◌, ◌≢◌, ◌+◌, ◌-◌, ℕ, List, [], ◌∷◌, ◌++◌, length, get_or, Bool, true, false, not, Option, Some, None, refl, sym, ◌∙◌, ap, subst, inl, inr, arith}
use Rattle.std.specs.List.{position_from}
use Rattle.nuget_version.specs.Grammar.{Spells}
use Rattle.version_range.specs.Bytes.{is_star, is_comma, is_round, is_filled, is_opening, is_closing}
use Rattle.version_range.specs.Cuts.{trimmed, lead, opened, closed, parted}
use Rattle.version_range.specs.Form.{bare, broken, double, piece, piece_at, form, core_form, opened_form, closed_form, inner_form, single_unless, double_unless}
use Rattle.version_range.specs.Grammar.{IsSpaced, IsBracketed, opening, closing}
use Rattle.version_range.specs.Places.{HasNone, IsFirst, IsNextPlace, IsSecond, IsLast}
use Rattle.version_range.specs.Refusals.{IsNoSpacedVersion, IsNoEnd, IsInBrackets, IsBadSingle, IsPair, IsBadLeft, IsBadRight, IsInverted, IsRangeRefused, HasOneReason}
use Rattle.version_range.specs.Steps.{SpellsNone, IsFilledNone, IsRefusedAs}
use Rattle.version_range.specs.declared.error.RangeErr.{RangeErr}
use Rattle.version_range.specs.declared.error.RangeErr.TheVariants.{Floating, BadBound, BadByte, Inverted, Memory}
use Rattle.version_range.proofs.BracketPlaces.{inner_all, second_filled, last_filled, none_comma, inner_none, core_none, none_round, first_round, first_comma, right_filled, second_comma, right_whole, closes}
use Rattle.version_range.proofs.Commas.{parted_whole, unparted_whole, whole_unparted, whole_left}
use Rattle.version_range.proofs.Complete.{unstarred, end_read, bracketed_form, only_memory}
use Rattle.version_range.proofs.Forms.{form_starred, form_core}
use Rattle.version_range.proofs.Plain.{no_place, none_passes}
use Rattle.version_range.proofs.Places.{same_place, no_place_found, second_once, last_once, blank_unfilled}
use Rattle.version_range.proofs.Reasons.{one_reason}
use Rattle.version_range.proofs.Sound.{end_spelled, opened_is, closed_is, parted_is}
use Rattle.version_range.proofs.Spaced.{spaced-trimmed, blank_from}
use Rattle.version_range.proofs.ToText.{left_place}
use Rattle.version_range.proofs.Trimmed.{trimmed_first, unopened_is, opening_opens, unclosed_last}

not_both : (b : Bool) → b ≡ false → b ≡ true → ⊥
not_both b is_no is_yes = cc

spells_none : (text : List ℕ) → IsNoSpacedVersion text → SpellsNone (trimmed text)
spells_none text none' v spells = none' v (record { core = trimmed text; spaced = spaced-trimmed text; version = spells })

filled_none : (text : List ℕ) (core : List ℕ) → trimmed text ≡ core → IsNoEnd text → IsFilledNone core
filled_none text [] is none' = absurd (none' None (blank_from text is))
filled_none text (b ∷ rest) is none' = (omega arith, λ v spells. none' (Some v) (end_spelled text (Some v) (subst (λ (l : List ℕ). Spells l v) (sym is) spells)))

-- a text with a byte that isn't a space
no_blank : (text : List ℕ) (at : ℕ) → IsFirst is_filled text at → trimmed text ≡ [] → ⊥
no_blank text at first is = no_place_found at (sym (no_place is_filled 0 text (blank_unfilled text (blank_from text is))) ∙ first)

-- ---- the start and the end

module _ (text : List ℕ) (unstarred' : HasNone is_star text) where
  cored : (core : List ℕ) → trimmed text ≡ core → form text ≡ core_form (lead text) core
  cored core is = form_core text core (lead text) (sym unstarred') (sym is) refl

  bare_cut : (at b : ℕ) (rest : List ℕ) → trimmed text ≡ b ∷ rest → IsFirst is_filled text at → is_opening (get_or text at 0) ≡ false → (cut : Option (Bool × List ℕ)) → opened (b ∷ rest) ≡ cut
      → (form text ≡ bare (piece_at (lead text) (b ∷ rest))) × (at ≡ lead text)
  bare_cut at b rest is first unopened (Some (a, others)) cut =
      let found = trimmed_first text b rest is in
      let same : at ≡ lead text = same_place at (lead text) (sym first ∙ found.0) in
      let core_is = opened_is (b ∷ rest) others a cut in
      let head : b ≡ opening a = cc in
      absurd (not_both (is_opening b) (ap is_opening (sym found.1) ∙ ap (λ (i : ℕ). is_opening (get_or text i 0)) (sym same) ∙ unopened) (ap is_opening head ∙ opening_opens a))
  bare_cut at b rest is first unopened None cut =
      let found = trimmed_first text b rest is in
      (cored (b ∷ rest) is ∙ ap (opened_form (lead text) (b ∷ rest)) cut, same_place at (lead text) (sym first ∙ found.0))

  from_version : (at : ℕ) (core : List ℕ) → trimmed text ≡ core → IsFirst is_filled text at → is_opening (get_or text at 0) ≡ false → IsNoSpacedVersion text → IsRefusedAs (form text) (BadBound at)
  from_version at [] is first unopened none' = absurd (no_blank text at first is)
  from_version at (b ∷ rest) is first unopened none' =
      let cut = bare_cut at b rest is first unopened (opened (b ∷ rest)) refl in
      rw cut.0 (cut.1, subst SpellsNone is (spells_none text none'))

  closed_cut : (at : ℕ) (a : Bool) (rest : List ℕ) → trimmed text ≡ opening a ∷ rest → IsLast is_filled text at → is_closing (get_or text at 0) ≡ false → (cut : Option (Bool × List ℕ)) → closed rest ≡ cut
      → closed_form (lead text) (opening a ∷ rest) a cut ≡ broken at
  closed_cut at a rest is last unclosed (Some (b, inner)) cut =
      let core_is : opening a ∷ rest ≡ opening a ∷ (inner ++ closing b ∷ []) = ap (λ (l : List ℕ). opening a ∷ l) (closed_is rest inner b cut) in
      let found = last_filled text a inner b (subst (IsSpaced text) (is ∙ core_is) (spaced-trimmed text)) in
      let same = last_once is_filled text at (lead text + 1 + length inner) last found.0 in
      absurd (not_both (is_closing (get_or text at 0)) unclosed (ap (λ (i : ℕ). is_closing (get_or text i 0)) same ∙ ap is_closing found.1 ∙ closes b))
  closed_cut at a rest is last unclosed None cut =
      let found = unclosed_last text rest a is cut in
      ap broken (last_once is_filled text (lead text + length (opening a ∷ rest) - 1) at found.last last)

  opened_cut : (at first b : ℕ) (rest : List ℕ) → trimmed text ≡ b ∷ rest → IsFirst is_filled text first → is_opening (get_or text first 0) ≡ true → IsLast is_filled text at → is_closing (get_or text at 0) ≡ false
      → (cut : Option (Bool × List ℕ)) → opened (b ∷ rest) ≡ cut → opened_form (lead text) (b ∷ rest) cut ≡ broken at
  opened_cut at first b rest is filled opens last unclosed None cut =
      let found = trimmed_first text b rest is in
      let same = same_place first (lead text) (sym filled ∙ found.0) in
      absurd (not_both (is_opening b) (unopened_is b rest cut) (ap is_opening (sym found.1) ∙ ap (λ (i : ℕ). is_opening (get_or text i 0)) (sym same) ∙ opens))
  opened_cut at first b rest is filled opens last unclosed (Some (a, others)) cut =
      let core_is = opened_is (b ∷ rest) others a cut in
      ap (λ (l : List ℕ). closed_form (lead text) l a (closed others)) core_is ∙ closed_cut at a others (is ∙ core_is) last unclosed (closed others) refl

  unclosed_form : (at first : ℕ) (core : List ℕ) → trimmed text ≡ core → IsFirst is_filled text first → is_opening (get_or text first 0) ≡ true → IsLast is_filled text at → is_closing (get_or text at 0) ≡ false
      → form text ≡ broken at
  unclosed_form at first [] is filled opens last unclosed = absurd (no_blank text first filled is)
  unclosed_form at first (b ∷ rest) is filled opens last unclosed =
      cored (b ∷ rest) is ∙ opened_cut at first b rest is filled opens last unclosed (opened (b ∷ rest)) refl

-- ---- brackets

second_place : (text : List ℕ) (a : Bool) (left right : List ℕ) (b : Bool) (at : ℕ) → IsBracketed text a (left ++ 44 ∷ right) b → HasNone is_comma left → IsSecond is_comma text at
    → (place : Option ℕ) → position_from is_comma 0 right ≡ place → double_unless place a (lead text) left (lead text + 1 + length left + 1) right b ≡ broken at
second_place text a left right b at s whole second None is =
    let comma = lead text + 1 + length left in
    let same : second.0 ≡ comma = same_place second.0 comma (sym second.1 ∙ first_comma text a left right b s whole) in
    let next : IsNextPlace is_comma text comma at = subst (λ (n : ℕ). IsNextPlace is_comma text n at) same second.2 in
    absurd (no_place_found at (sym (right_whole text a left right b s whole is) ∙ next))
second_place text a left right b at s whole second (Some k) is =
    ap broken (second_once is_comma text (lead text + 1 + length left + 1 + k) at (second_comma text a left right b s whole k is) second)

module _ (text : List ℕ) (a : Bool) (inner : List ℕ) (b : Bool) (in_brackets : IsInBrackets text a inner b) where
  inner_is : (cut : Option (List ℕ × List ℕ)) → parted inner ≡ cut → form text ≡ inner_form (lead text) (opening a ∷ (inner ++ closing b ∷ [])) a cut inner b
  unfolding unstarred
  inner_is cut is =
      bracketed_form text a b inner in_brackets.bracketed (inner_all (λ c. not (is_star c)) text a inner b in_brackets.bracketed (none_passes is_star 0 text in_brackets.unstarred))
      ∙ ap (λ (o : Option (List ℕ × List ℕ)). inner_form (lead text) (opening a ∷ (inner ++ closing b ∷ [])) a o inner b) is

  alone_is : HasNone is_comma text → (place : Option ℕ) → position_from is_round 0 (opening a ∷ (inner ++ closing b ∷ [])) ≡ place → form text ≡ single_unless place (lead text) inner
  alone_is alone place is =
      inner_is None (unparted_whole inner (none_passes is_comma 0 inner (inner_none text a inner b in_brackets.bracketed is_comma alone)))
      ∙ ap (λ (o : Option ℕ). single_unless o (lead text) inner) is

  round_form : (at : ℕ) → HasNone is_comma text → IsFirst is_round text at → (place : Option ℕ) → position_from is_round 0 (opening a ∷ (inner ++ closing b ∷ [])) ≡ place → form text ≡ broken at
  round_form at alone first None is = absurd (no_place_found at (sym (none_round text a inner b in_brackets.bracketed is) ∙ first))
  round_form at alone first (Some k) is =
      alone_is alone (Some k) is ∙ ap broken (same_place (lead text + k) at (sym (first_round text a inner b in_brackets.bracketed k is) ∙ first))

  second_right : (at : ℕ) (left right : List ℕ) → parted inner ≡ Some (left, right) → IsSecond is_comma text at → (place : Option ℕ) → position_from is_comma 0 right ≡ place → form text ≡ broken at
  second_right at left right cut second place is =
      let s = subst (λ (l : List ℕ). IsBracketed text a l b) (parted_is inner left right cut) in_brackets.bracketed in
      let whole = no_place is_comma 0 left (whole_left inner left right cut) in
      inner_is (Some (left, right)) cut
      ∙ ap (λ (o : Option ℕ). double_unless o a (lead text) left (lead text + 1 + length left + 1) right b) is
      ∙ second_place text a left right b at s whole second place is

  second_form : (at : ℕ) → IsSecond is_comma text at → (cut : Option (List ℕ × List ℕ)) → parted inner ≡ cut → form text ≡ broken at
  second_form at second None cut =
      absurd (no_place_found second.0 (sym (none_comma text a inner b in_brackets.bracketed (no_place is_comma 0 inner (whole_unparted inner cut))) ∙ second.1))
  second_form at second (Some (left, right)) cut = second_right at left right cut second (position_from is_comma 0 right) refl

-- ---- two ends

pair_form : (text : List ℕ) (a : Bool) (left right : List ℕ) (b : Bool) → IsPair text a left right b
    → form text ≡ double a (piece (lead text + 1) left) (piece (lead text + 1 + length left + 1) right) b
pair_form text a left right b pair =
    inner_is text a (left ++ 44 ∷ right) b pair.brackets (Some (left, right)) (parted_whole left right (none_passes is_comma 0 left pair.left_whole))
    ∙ ap (λ (o : Option ℕ). double_unless o a (lead text) left (lead text + 1 + length left + 1) right b) pair.right_whole

from_left : (text : List ℕ) (at : ℕ) → IsBadLeft text at → IsRefusedAs (form text) (BadBound at)
from_left text at (a, left, right, b, pair, none', place) =
    let s = pair.brackets.bracketed in
    rw (pair_form text a left right b pair)
    (inl (second_once is_filled text at (lead text + 1 + lead left) place (left_place text pair.brackets.unstarred a left right b s pair.left_whole pair.right_whole), filled_none left (trimmed left) refl none'))

from_right : (text : List ℕ) (at : ℕ) → IsBadRight text at → IsRefusedAs (form text) (BadBound at)
from_right text at r =
    let s = r.pair.brackets.bracketed in
    let comma = lead text + 1 + length r.left in
    let same : r.place.0 ≡ comma = same_place r.place.0 comma (sym r.place.1 ∙ first_comma text r.low_square r.left r.right r.high_square s r.pair.left_whole) in
    let next : IsNextPlace is_filled text comma at = subst (λ (n : ℕ). IsNextPlace is_filled text n at) same r.place.2 in
    rw (pair_form text r.low_square r.left r.right r.high_square r.pair)
    (inr (same_place at (comma + 1 + lead r.right) (sym next ∙ right_filled text r.low_square r.left r.right r.high_square s r.pair.left_whole), (r.low, end_read r.left r.low r.low_end), filled_none r.right (trimmed r.right) refl r.none))

from_inverted : (text : List ℕ) → IsInverted text → IsRefusedAs (form text) Inverted
from_inverted text i =
    rw (pair_form text i.low_square i.left i.right i.high_square i.pair)
    (i.low, i.high, end_read i.left i.low i.low_end, end_read i.right i.high i.high_end, i.inverted)

from_single : (text : List ℕ) (at : ℕ) → IsBadSingle text at → IsRefusedAs (form text) (BadBound at)
from_single text at o =
    let s = o.brackets.bracketed in
    rw (alone_is text true o.inner true o.brackets o.alone None (core_none text true o.inner true s is_round o.square))
    (second_once is_filled text at (lead text + 1 + lead o.inner) o.place (second_filled text true o.inner true s), spells_none o.inner o.none)

from_byte : (text : List ℕ) (at : ℕ) → IsRangeRefused text (BadByte at) → form text ≡ broken at
from_byte text at (inl u) = unclosed_form text u.unstarred at u.first (trimmed text) refl u.filled u.opens u.last u.unclosed
from_byte text at (inr (inl (a, inner, b, in_brackets, second))) = second_form text a inner b in_brackets at second (parted inner) refl
from_byte text at (inr (inr (a, inner, b, in_brackets, alone, first))) =
    round_form text a inner b in_brackets at alone first (position_from is_round 0 (opening a ∷ (inner ++ closing b ∷ []))) refl

from_bound : (text : List ℕ) (at : ℕ) → IsRangeRefused text (BadBound at) → IsRefusedAs (form text) (BadBound at)
from_bound text at (inl v) = from_version text v.unstarred at (trimmed text) refl v.first v.unopened v.none
from_bound text at (inr (inl one)) = from_single text at one
from_bound text at (inr (inr (inl left))) = from_left text at left
from_bound text at (inr (inr (inr right))) = from_right text at right

from_text : (text : List ℕ) (e : RangeErr) → e ≢ Memory → IsRangeRefused text e → IsRefusedAs (form text) e
from_text text Memory other why = absurd (other refl)
from_text text (Floating at) other why = rw (form_starred text at (sym why)) refl
from_text text (BadByte at) other why = rw (from_byte text at why) refl
from_text text (BadBound at) other why = from_bound text at why
from_text text Inverted other why = from_inverted text why

pub one_answer : HasOneReason
one_answer text e other why = (
  λ f other' why'. one_reason (form text) f e other' other (from_text text f other' why') (from_text text e other why),
  λ r spells. other (only_memory text r spells e (from_text text e other why)),
)
