-- The places in a text in brackets.
use Rattle.std.proofs.Common.{◌≡◌, ◌+◌, ℕ, List, [], ◌∷◌, ◌++◌, length, drop, get_or, Bool, true, false, not, None, refl, sym, ◌∙◌, ap, append_assoc, length-append, arith}
use Rattle.std.proofs.Math.Seq.{get_or-append_seam, drop-append-add}
use Rattle.std.specs.List.{list_all, position_from}
use Rattle.std.proofs.lemmas.Bool.{and_parts, and_from}
use Rattle.std.proofs.lemmas.Bool.Decides.{nat_tests}
use Rattle.std.proofs.lemmas.List.Folds.{list_all-append}
use Rattle.version_range.specs.Cuts.{lead}
use Rattle.version_range.specs.Grammar.{IsSpaced, IsBracketed, opening, closing}
use Rattle.version_range.specs.Places.{HasNone, IsFirst, IsNextPlace, IsSecond, IsLast}
use Rattle.version_range.specs.Bytes.{is_space, is_comma, is_round, is_filled, is_closing}
use Rattle.version_range.proofs.Complete.{not_space_opening, not_space_closing}
use Rattle.version_range.proofs.Plain.{list_all_weaker, list_all_both, no_place, none_passes, spaced_all}
use Rattle.version_range.proofs.Places.{skip, found_behind, shift, found_longer, last_behind, filled, blank_unfilled, filled_next, lead_before}

-- what passes in a text passes in what the spaces stand around
pub core_all : (p : ℕ → Bool) (text core : List ℕ) → IsSpaced text core → list_all p text ≡ true → list_all p core ≡ true
core_all p text core s all =
    let split : list_all p (s.before ++ (core ++ s.behind)) ≡ true = ap (list_all p) (sym s.spelled) ∙ all in
    let rest = and_parts (list_all p s.before) (list_all p (core ++ s.behind)) (sym (list_all-append p s.before (core ++ s.behind)) ∙ split) in
    (and_parts (list_all p core) (list_all p s.behind) (sym (list_all-append p core s.behind) ∙ rest.1)).0

-- and in what stands between brackets
pub inner_all : (p : ℕ → Bool) (text : List ℕ) (a : Bool) (inner : List ℕ) (b : Bool) → IsBracketed text a inner b → list_all p text ≡ true → list_all p inner ≡ true
inner_all p text a inner b s all =
    let core = core_all p text (opening a ∷ (inner ++ closing b ∷ [])) s all in
    let rest = and_parts (p (opening a)) (list_all p (inner ++ closing b ∷ [])) core in
    (and_parts (list_all p inner) (list_all p (closing b ∷ [])) (sym (list_all-append p inner (closing b ∷ [])) ∙ rest.1)).0

opening_no_comma : (a : Bool) → is_comma (opening a) ≡ false
opening_no_comma true = refl
opening_no_comma false = refl

closing_no_comma : (b : Bool) → is_comma (closing b) ≡ false
closing_no_comma true = refl
closing_no_comma false = refl

no_comma : (c : ℕ) → is_comma c ≡ false → not (is_comma c) ≡ true
no_comma c other = rw other refl

blank_no_comma : (c : ℕ) → is_space c ≡ true → not (is_comma c) ≡ true
blank_no_comma c space = grind (arith, nat_tests)

blank_no_round : (c : ℕ) → is_space c ≡ true → not (is_round c) ≡ true
blank_no_round c space = grind (arith, nat_tests)

pub closes : (b : Bool) → is_closing (closing b) ≡ true
closes true = refl
closes false = refl

module _ (text : List ℕ) (a : Bool) (inner : List ℕ) (b : Bool) (s : IsBracketed text a inner b) where
  -- the text as its parts
  pub laid : text ≡ s.before ++ opening a ∷ (inner ++ closing b ∷ s.behind)
  laid = s.spelled ∙ ap (λ (l : List ℕ). s.before ++ opening a ∷ l) (append_assoc inner (closing b ∷ []) s.behind)

  pub lead_is : lead text ≡ length s.before
  lead_is = ap lead laid ∙ lead_before s.before (opening a) (inner ++ closing b ∷ s.behind) s.blank_before (not_space_opening a)

  pub first_filled : IsFirst is_filled text (lead text)
  first_filled =
      ap (position_from is_filled 0) laid
      ∙ found_behind is_filled 0 (lead text) s.before (opening a) (inner ++ closing b ∷ s.behind) (blank_unfilled s.before s.blank_before) (filled (opening a) (not_space_opening a)) (let e = lead_is in omega arith)

  pub opening_at : get_or text (lead text) 0 ≡ opening a
  opening_at = ap (λ (l : List ℕ). get_or l (lead text) 0) laid ∙ ap (λ (i : ℕ). get_or (s.before ++ opening a ∷ (inner ++ closing b ∷ s.behind)) i 0) lead_is
      ∙ get_or-append_seam s.before (opening a) (inner ++ closing b ∷ s.behind) 0

  behind_opening : drop (lead text + 1) text ≡ inner ++ closing b ∷ s.behind
  behind_opening = ap (drop (lead text + 1)) laid ∙ ap (λ (i : ℕ). drop (i + 1) (s.before ++ opening a ∷ (inner ++ closing b ∷ s.behind))) lead_is
      ∙ drop-append-add s.before (opening a ∷ (inner ++ closing b ∷ s.behind)) 1

  pub second_filled : IsSecond is_filled text (lead text + 1 + lead inner)
  second_filled = (lead text, first_filled, ap (position_from is_filled (lead text + 1)) behind_opening ∙ filled_next (lead text + 1) inner (closing b) s.behind (not_space_closing b))

  pub last_filled : IsLast is_filled text (lead text + 1 + length inner) × (get_or text (lead text + 1 + length inner) 0 ≡ closing b)
  last_filled = last_behind is_filled text (s.before ++ opening a ∷ inner) s.behind (closing b) (lead text + 1 + length inner)
      (laid ∙ sym (append_assoc s.before (opening a ∷ inner) (closing b ∷ s.behind)))
      (let e = lead_is in let len = length-append s.before (opening a ∷ inner) in omega arith)
      (filled (closing b) (not_space_closing b)) (blank_unfilled s.behind s.blank_behind)

  pub none_comma : HasNone is_comma inner → HasNone is_comma text
  none_comma none' = no_place is_comma 0 text (spaced_all (λ c. not (is_comma c)) blank_no_comma text (opening a ∷ (inner ++ closing b ∷ [])) s
      (and_from _ _ (no_comma (opening a) (opening_no_comma a)) (list_all_both (λ c. not (is_comma c)) inner (closing b ∷ []) (none_passes is_comma 0 inner none') (and_from _ _ (no_comma (closing b) (closing_no_comma b)) refl))))

  pub inner_none : (p : ℕ → Bool) → HasNone p text → HasNone p inner
  inner_none p none' = no_place p 0 inner (inner_all (λ c. not (p c)) text a inner b s (none_passes p 0 text none'))

  pub none_round : HasNone is_round (opening a ∷ (inner ++ closing b ∷ [])) → HasNone is_round text
  none_round none' = no_place is_round 0 text (spaced_all (λ c. not (is_round c)) blank_no_round text (opening a ∷ (inner ++ closing b ∷ [])) s (none_passes is_round 0 (opening a ∷ (inner ++ closing b ∷ [])) none'))

  pub core_none : (p : ℕ → Bool) → HasNone p text → HasNone p (opening a ∷ (inner ++ closing b ∷ []))
  core_none p none' = no_place p 0 (opening a ∷ (inner ++ closing b ∷ [])) (core_all (λ c. not (p c)) text (opening a ∷ (inner ++ closing b ∷ [])) s (none_passes p 0 text none'))

  pub first_round : (k : ℕ) → IsFirst is_round (opening a ∷ (inner ++ closing b ∷ [])) k → IsFirst is_round text (lead text + k)
  first_round k found =
      let here = opening a ∷ (inner ++ closing b ∷ []) in
      ap (position_from is_round 0) s.spelled
      ∙ skip is_round 0 s.before (here ++ s.behind) (list_all_weaker is_space (λ c. not (is_round c)) blank_no_round s.before s.blank_before)
      ∙ ap (λ (n : ℕ). position_from is_round n (here ++ s.behind)) (let e = lead_is in let f : 0 + length s.before ≡ lead text + 0 = omega arith in f)
      ∙ found_longer is_round (lead text + 0) (lead text + k) here s.behind (shift is_round (lead text) 0 k here found)

-- the places of two pieces
module _ (text : List ℕ) (a : Bool) (left right : List ℕ) (b : Bool) (s : IsBracketed text a (left ++ 44 ∷ right) b) (left_whole : HasNone is_comma left) where
  parted_laid : text ≡ (s.before ++ opening a ∷ left) ++ 44 ∷ (right ++ closing b ∷ s.behind)
  parted_laid = laid text a (left ++ 44 ∷ right) b s
      ∙ ap (λ (l : List ℕ). s.before ++ opening a ∷ l) (append_assoc left (44 ∷ right) (closing b ∷ s.behind))
      ∙ sym (append_assoc s.before (opening a ∷ left) (44 ∷ (right ++ closing b ∷ s.behind)))

  comma_len : lead text + 1 + length left ≡ length (s.before ++ opening a ∷ left)
  comma_len = let e = lead_is text a (left ++ 44 ∷ right) b s in let len = length-append s.before (opening a ∷ left) in omega arith

  pub first_comma : IsFirst is_comma text (lead text + 1 + length left)
  first_comma =
      ap (position_from is_comma 0) parted_laid
      ∙ found_behind is_comma 0 (lead text + 1 + length left) (s.before ++ opening a ∷ left) 44 (right ++ closing b ∷ s.behind)
      (list_all_both (λ c. not (is_comma c)) s.before (opening a ∷ left) (list_all_weaker is_space (λ c. not (is_comma c)) blank_no_comma s.before s.blank_before)
      (and_from _ _ (no_comma (opening a) (opening_no_comma a)) (none_passes is_comma 0 left left_whole)))
      refl (let e = comma_len in omega arith)

  behind_comma : drop (lead text + 1 + length left + 1) text ≡ right ++ closing b ∷ s.behind
  behind_comma = ap (drop (lead text + 1 + length left + 1)) parted_laid
      ∙ ap (λ (i : ℕ). drop (i + 1) ((s.before ++ opening a ∷ left) ++ 44 ∷ (right ++ closing b ∷ s.behind))) comma_len
      ∙ drop-append-add (s.before ++ opening a ∷ left) (44 ∷ (right ++ closing b ∷ s.behind)) 1

  pub right_filled : IsNextPlace is_filled text (lead text + 1 + length left) (lead text + 1 + length left + 1 + lead right)
  right_filled = ap (position_from is_filled (lead text + 1 + length left + 1)) behind_comma
      ∙ filled_next (lead text + 1 + length left + 1) right (closing b) s.behind (not_space_closing b)

  pub second_comma : (k : ℕ) → IsFirst is_comma right k → IsSecond is_comma text (lead text + 1 + length left + 1 + k)
  second_comma k found =
      let from = lead text + 1 + length left + 1 in (
        lead text + 1 + length left,
        first_comma,
        ap (position_from is_comma from) behind_comma
            ∙ ap (λ (n : ℕ). position_from is_comma n (right ++ closing b ∷ s.behind)) (let e : from ≡ from + 0 = omega arith in e)
            ∙ found_longer is_comma (from + 0) (from + k) right (closing b ∷ s.behind) (shift is_comma from 0 k right found),
      )

  pub right_whole : HasNone is_comma right → position_from is_comma (lead text + 1 + length left + 1) (drop (lead text + 1 + length left + 1) text) ≡ None
  right_whole none' =
      let from = lead text + 1 + length left + 1 in
      ap (position_from is_comma from) behind_comma
      ∙ no_place is_comma from (right ++ closing b ∷ s.behind) (list_all_both (λ c. not (is_comma c)) right (closing b ∷ s.behind) (none_passes is_comma 0 right none')
      (and_from _ _ (no_comma (closing b) (closing_no_comma b)) (list_all_weaker is_space (λ c. not (is_comma c)) blank_no_comma s.behind s.blank_behind)))
