-- Brackets and commas.
use Rattle.std.proofs.Common.{◌≡◌, ◌≢◌, ◌<◌, ◌-◌, ℕ, suc, List, [], ◌∷◌, ◌++◌, false, ◌==◌, Option, Some, None, length, take, get_or, option_map, refl, sym, ◌∙◌, ap, ap₂, arith, length-append}
use Rattle.std.proofs.Math.Seq.{get_or-append_seam, take-append_seam}
use Rattle.std.proofs.lemmas.Bool.Decides.{nat_tests}
use denote.Ref.{Bor}
use Rattle.std.proofs.lemmas.Str.Pattern.{IsSplitOnceResult, split_parts}
use Rattle.version_range.specs.Cuts.{opened, closed_by, closed, in_front, parted}

pub closed_push : (front : List ℕ) (last : ℕ) → closed (front ++ last ∷ []) ≡ closed_by last front
unfolding closed
closed_push front last =
    let len : length (front ++ last ∷ []) - 1 ≡ length front = omega (arith, length-append front (last ∷ [])) in
    ap₂ closed_by (ap (λ (n : ℕ). get_or (front ++ last ∷ []) n 0) len ∙ get_or-append_seam front last [] 0)
    (ap (λ (n : ℕ). take n (front ++ last ∷ [])) len ∙ take-append_seam front (last ∷ []))

-- a text that isn't empty ends with its last byte
pub ends_with_last : (b : ℕ) (rest : List ℕ) → (front : List ℕ) × (last : ℕ) × (b ∷ rest ≡ front ++ last ∷ [])
ends_with_last b [] = ([], b, refl)
ends_with_last b (c ∷ rest) = let (front, last, is) = ends_with_last c rest in (b ∷ front, last, ap (λ (l : List ℕ). b ∷ l) is)

differs : (b c : ℕ) → b ≢ c → b == c ≡ false
differs b c other = grind (arith, nat_tests)

no_bracket : (last : ℕ) (front : List ℕ) → last ≢ 93 → last ≢ 41 → closed_by last front ≡ None
no_bracket last front not_square not_round = rw (differs last 93 not_square, differs last 41 not_round) refl

pub unclosed : (text : List ℕ) → ((front : List ℕ) → text ≢ front ++ 93 ∷ []) → ((front : List ℕ) → text ≢ front ++ 41 ∷ []) → closed text ≡ None
unfolding closed
unclosed [] square round = refl
unclosed (b ∷ rest) square round =
    let (front, last, is) = ends_with_last b rest in
    let not_square : last ≢ 93 = λ (same : last ≡ 93). square front (is ∙ ap (λ (x : ℕ). front ++ x ∷ []) same) in
    let not_round : last ≢ 41 = λ (same : last ≡ 41). round front (is ∙ ap (λ (x : ℕ). front ++ x ∷ []) same) in
    ap closed is ∙ closed_push front last ∙ no_bracket last front not_square not_round

pub unopened : (text : List ℕ) → ((rest : List ℕ) → text ≢ 91 ∷ rest) → ((rest : List ℕ) → text ≢ 40 ∷ rest) → opened text ≡ None
unopened [] square round = refl
unopened (b ∷ rest) square round =
    let not_square : b ≢ 91 = λ (same : b ≡ 91). square rest (ap (λ (x : ℕ). x ∷ rest) same) in
    let not_round : b ≢ 40 = λ (same : b ≡ 40). round rest (ap (λ (x : ℕ). x ∷ rest) same) in
    rw (differs b 91 not_square, differs b 40 not_round) refl

-- a text is parted at its first comma
pub parted_first : (left right : List ℕ) → ((i : ℕ) → i < length left → get_or left i 0 ≢ 44) → parted (left ++ 44 ∷ right) ≡ Some (left, right)
parted_first [] right none = refl
parted_first (b ∷ left) right none =
    rw (differs b 44 (none 0 (omega arith))) (ap (option_map (in_front b)) (parted_first left right (λ i lt. none (suc i) (omega arith))))

pub unparted : (text : List ℕ) → ((i : ℕ) → i < length text → get_or text i 0 ≢ 44) → parted text ≡ None
unparted [] none = refl
unparted (b ∷ rest) none =
    rw (differs b 44 (none 0 (omega arith))) (ap (option_map (in_front b)) (unparted rest (λ i lt. none (suc i) (omega arith))))

-- what the methods of `str` answer, by their clauses
pub part_is : (text : List ℕ) (result : Option (Bor (List ℕ) × Bor (List ℕ))) → IsSplitOnceResult 44 text result
    → option_map (λ (cut : Bor (List ℕ) × Bor (List ℕ)). (cut.0.now, cut.1.now)) result ≡ parted text
part_is text None gives = sym (unparted text (split_parts 44 text None gives (omega arith)))
part_is text (Some cut) gives =
    let parts = split_parts 44 text (Some cut) gives (omega arith) in
    sym (ap parted parts.0 ∙ parted_first cut.0.now cut.1.now parts.1)
