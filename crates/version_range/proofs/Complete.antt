-- The form of a text that spells a range gives the range, and isn't refused.
use Rattle.std.proofs.Common.{◌≡◌, ℕ, List, [], ◌∷◌, ◌++◌, length, Bool, true, false, ◌==◌, ◌&&◌, not, is_some, Option, Some, None, refl, sym, ◌∙◌, ap, ap₂, subst, inl, inr, arith}
use Rattle.std.specs.List.{list_all, position_from}
use Rattle.std.proofs.lemmas.Bool.{and_parts, and_from}
use Rattle.nuget_version.specs.Grammar.{Spells}
use Rattle.nuget_version.specs.declared.version.Version.{Version}
use Rattle.nuget_version.proofs.OneValue.{one_value}
use Rattle.version_range.specs.Bytes.{is_space, is_star, is_comma, is_round}
use Rattle.version_range.specs.Cuts.{trimmed, lead, opened, closed, parted}
use Rattle.version_range.specs.Form.{Form, starred, blank, bare, broken, single, double, Piece, piece_at, form, core_form, opened_form, closed_form, inner_form}
use Rattle.version_range.specs.Grammar.{IsBlank, SpellsVersion, SpellsEnd, opening, closing, IsBracketed, HasEnds, SpellsBoth, SpellsRange, any, least, exact, both}
use Rattle.version_range.specs.Order.{are_ordered}
use Rattle.version_range.specs.Steps.{IsEnd, IsFilledNone, IsBadBound, AreBadEnds, IsMemory, IsReadAs, IsRefusedAs}
use Rattle.version_range.specs.declared.error.RangeErr.{RangeErr}
use Rattle.version_range.specs.declared.error.RangeErr.TheVariants.{Floating, BadBound, BadByte, Inverted, Memory}
use Rattle.version_range.specs.declared.range.VersionRange.{VersionRange}
use Rattle.version_range.proofs.Commas.{parted_whole, unparted_whole}
use Rattle.version_range.proofs.Edges.{closed_push}
use Rattle.version_range.proofs.Forms.{form_core}
use Rattle.version_range.proofs.Plain.{is_plain, is_loose, list_all_weaker, list_all_both, spaced_all, version_plain, version_filled, version_loose, end_loose, blank_loose, plain_no_square, plain_no_round, space_unstarred, loose_unstarred, loose_no_comma, loose_no_bracket, no_place}
use Rattle.version_range.proofs.Spaced.{trimmed_spaced, trimmed_blank, tight_plain, tight_ends}

unfoldable pub unstarred : ℕ → Bool
unstarred b = not (is_star b)

-- ---- what the text is cut into

pub version_trimmed : (text : List ℕ) (v : Version) (s : SpellsVersion text v) → trimmed text ≡ s.core
version_trimmed text v s = trimmed_spaced text s.core s.spaced (tight_plain s.core (version_plain s.core v s.version))

pub end_read : (text : List ℕ) (end : Option Version) → SpellsEnd text end → IsEnd (trimmed text) end
end_read text None blank' = trimmed_blank text blank'
end_read text (Some v) s = subst (λ (l : List ℕ). Spells l v) (sym (version_trimmed text v s)) s.version

parted_loose : (left right : List ℕ) → list_all is_loose left ≡ true → parted (left ++ 44 ∷ right) ≡ Some (left, right)
parted_loose left right loose = parted_whole left right (list_all_weaker is_loose (λ b. not (is_comma b)) loose_no_comma left loose)

unparted_loose : (text : List ℕ) → list_all is_loose text ≡ true → parted text ≡ None
unparted_loose text loose = unparted_whole text (list_all_weaker is_loose (λ b. not (is_comma b)) loose_no_comma text loose)

no_round_place : (inner : List ℕ) → list_all is_loose inner ≡ true → position_from is_round 0 (91 ∷ (inner ++ 93 ∷ [])) ≡ None
no_round_place inner loose =
    no_place is_round 0 (91 ∷ (inner ++ 93 ∷ []))
    (list_all_both (λ b. not (is_round b)) inner (93 ∷ []) (list_all_weaker is_loose (λ b. not (is_round b)) loose_no_bracket inner loose) refl)

no_comma_place : (right : List ℕ) → list_all is_loose right ≡ true → position_from is_comma 0 right ≡ None
no_comma_place right loose = no_place is_comma 0 right (list_all_weaker is_loose (λ b. not (is_comma b)) loose_no_comma right loose)

-- ---- the forms

pub bare_form : (at b : ℕ) (rest : List ℕ) → b == 91 ≡ false → b == 40 ≡ false → core_form at (b ∷ rest) ≡ bare (piece_at at (b ∷ rest))
bare_form at b rest not_square not_round = rw (not_square, not_round) refl

opened_opening : (square : Bool) (rest : List ℕ) → opened (opening square ∷ rest) ≡ Some (square, rest)
opened_opening true rest = refl
opened_opening false rest = refl

closed_closing : (square : Bool) (inner : List ℕ) → closed (inner ++ closing square ∷ []) ≡ Some (square, inner)
closed_closing true inner = closed_push inner 93
closed_closing false inner = closed_push inner 41

bracket_form : (at : ℕ) (low_in high_in : Bool) (inner : List ℕ)
    → core_form at (opening low_in ∷ (inner ++ closing high_in ∷ [])) ≡ inner_form at (opening low_in ∷ (inner ++ closing high_in ∷ [])) low_in (parted inner) inner high_in
bracket_form at low_in high_in inner =
    let core = opening low_in ∷ (inner ++ closing high_in ∷ []) in
    ap (opened_form at core) (opened_opening low_in (inner ++ closing high_in ∷ [])) ∙ ap (closed_form at core low_in) (closed_closing high_in inner)

pub not_space_opening : (square : Bool) → is_space (opening square) ≡ false
not_space_opening true = refl
not_space_opening false = refl

pub not_space_closing : (square : Bool) → is_space (closing square) ≡ false
not_space_closing true = refl
not_space_closing false = refl

opening_unstarred : (square : Bool) → unstarred (opening square) ≡ true
unfolding unstarred
opening_unstarred true = refl
opening_unstarred false = refl

closing_unstarred : (square : Bool) → unstarred (closing square) ≡ true
unfolding unstarred
closing_unstarred true = refl
closing_unstarred false = refl

-- a text in brackets without a `*` is trimmed to the brackets
pub bracketed_form : (text : List ℕ) (low_in high_in : Bool) (inner : List ℕ) → IsBracketed text low_in inner high_in → list_all unstarred inner ≡ true
    → form text ≡ inner_form (lead text) (opening low_in ∷ (inner ++ closing high_in ∷ [])) low_in (parted inner) inner high_in
unfolding unstarred
bracketed_form text low_in high_in inner spaced none =
    let core = opening low_in ∷ (inner ++ closing high_in ∷ []) in
    let tight = tight_ends (opening low_in) inner (closing high_in) (not_space_opening low_in) (not_space_closing high_in) in
    let all = spaced_all unstarred space_unstarred text core spaced (and_from _ _ (opening_unstarred low_in) (list_all_both unstarred inner (closing high_in ∷ []) none (and_from _ _ (closing_unstarred high_in) refl))) in
    form_core text core (lead text) (sym (no_place is_star 0 text all)) (sym (trimmed_spaced text core spaced tight)) refl
    ∙ bracket_form (lead text) low_in high_in inner

loose_all : (text : List ℕ) → list_all is_loose text ≡ true → list_all unstarred text ≡ true
unfolding unstarred
loose_all text loose = list_all_weaker is_loose unstarred loose_unstarred text loose

comma_unstarred : unstarred 44 ≡ true
unfolding unstarred
comma_unstarred = refl

inner_unstarred : (left right : List ℕ) → list_all is_loose left ≡ true → list_all is_loose right ≡ true → list_all unstarred (left ++ 44 ∷ right) ≡ true
inner_unstarred left right left_loose right_loose =
    list_all_both unstarred left (44 ∷ right) (loose_all left left_loose) (and_from _ _ comma_unstarred (loose_all right right_loose))

-- ---- what they give

complete_any : (text : List ℕ) (r : VersionRange) → IsBlank text → HasEnds r None false None false → IsReadAs (form text) r
complete_any text r blank' ends =
    let none = no_place is_star 0 text (list_all_weaker is_loose (λ b. not (is_star b)) loose_unstarred text (blank_loose text blank')) in
    rw (form_core text [] (lead text) (sym none) (sym (trimmed_blank text blank')) refl) ends

complete_least : (text : List ℕ) (r : VersionRange) (v : Version) → SpellsVersion text v → HasEnds r (Some v) true None false → IsReadAs (form text) r
complete_least text r v s ends =
    let (b, rest, is) = version_filled s.core v s.version in
    let first = and_parts (is_plain b) (list_all is_plain rest) (ap (list_all is_plain) (sym is) ∙ version_plain s.core v s.version) in
    let none = no_place is_star 0 text (list_all_weaker is_loose (λ b. not (is_star b)) loose_unstarred text (version_loose text v s)) in
    rw (form_core text (b ∷ rest) (lead text) (sym none) (sym is ∙ sym (version_trimmed text v s)) refl
    ∙ bare_form (lead text) b rest (plain_no_square b first.0) (plain_no_round b first.0))
    (v, subst (λ (l : List ℕ). Spells l v) is s.version, ends)

complete_exact : (text inner : List ℕ) (r : VersionRange) (v : Version) → IsBracketed text true inner true → SpellsVersion inner v → HasEnds r (Some v) true (Some v) true → IsReadAs (form text) r
complete_exact text inner r v bracketed s ends =
    let loose = version_loose inner v s in
    rw (bracketed_form text true true inner bracketed (loose_all inner loose), unparted_loose inner loose, no_round_place inner loose)
    (v, end_read inner (Some v) s, ends)

complete_both : (text : List ℕ) (r : VersionRange) → SpellsBoth text r → IsReadAs (form text) r
complete_both text r s =
    let left_loose = end_loose s.left r.low s.low_end in
    let right_loose = end_loose s.right r.high s.high_end in
    let none = inner_unstarred s.left s.right left_loose right_loose in
    rw (bracketed_form text s.low_square s.high_square (s.left ++ 44 ∷ s.right) s.bracketed none, parted_loose s.left s.right left_loose, no_comma_place s.right right_loose)
    (end_read s.left r.low s.low_end, end_read s.right r.high s.high_end, s.low_in, s.high_in)

pub complete : (text : List ℕ) (r : VersionRange) → SpellsRange text r → IsReadAs (form text) r
complete text r (any blank' ends) = complete_any text r blank' ends
complete text r (least v s ends) = complete_least text r v s ends
complete text r (exact v inner bracketed s ends) = complete_exact text inner r v bracketed s ends
complete text r (both s) = complete_both text r s

-- ---- what they aren't refused for

pub no_end : (text : List ℕ) (end : Option Version) → IsEnd text end → IsFilledNone text → ⊥
no_end text None none refused = let empty = ap length none in omega (arith, empty, refused.0)
no_end text (Some v) spells refused = refused.1 v spells

none_filled : (text : List ℕ) (v : Version) → text ≡ [] → Spells text v → ⊥
none_filled text v none spells = let (b, rest, is) = version_filled text v spells in let len = ap length (sym none ∙ is) in omega (arith, len)

not_both : (b : Bool) → b ≡ false → b ≡ true → ⊥
not_both b is_no is_yes = cc

pub one_end : (text : List ℕ) (a b : Option Version) → IsEnd text a → IsEnd text b → a ≡ b
one_end text None None one other = refl
one_end text None (Some v) none spells = absurd (none_filled text v none spells)
one_end text (Some v) None spells none = absurd (none_filled text v none spells)
one_end text (Some u) (Some v) one other = ap Some (one_value text u v one other)

bound_excluded : (p : Piece) (v : Version) → Spells p.text v → (e : RangeErr) → IsBadBound p e → e ≡ Memory
bound_excluded p v spells Memory bad = refl
bound_excluded p v spells (BadBound at) bad = absurd (bad.1 v spells)
bound_excluded p v spells (Floating at) bad = absurd bad
bound_excluded p v spells (BadByte at) bad = absurd bad
bound_excluded p v spells Inverted bad = absurd bad

ends_excluded : (low_in high_in : Bool) (left right : Piece) (r : VersionRange) → IsReadAs (double low_in left right high_in) r → (e : RangeErr) → AreBadEnds low_in left right high_in e → e ≡ Memory
ends_excluded low_in high_in left right r read Memory bad = refl
ends_excluded low_in high_in left right r read (BadBound at) bad = elim bad [
  | inl refused ↦ absurd (no_end left.text r.low read.0 refused.1)
  | inr refused ↦ absurd (no_end right.text r.high read.1 refused.2)
]
ends_excluded low_in high_in left right r read Inverted (low, high, low_is, high_is, inverted) =
    let same_low : low ≡ r.low = one_end left.text low r.low low_is read.0 in
    let same_high : high ≡ r.high = one_end right.text high r.high high_is read.1 in
    let ends : are_ordered low (low_in && is_some low) high (high_in && is_some high) ≡ are_ordered r.low r.low_in r.high r.high_in =
    ap (λ (o : Option Version). are_ordered o (low_in && is_some o) high (high_in && is_some high)) same_low
    ∙ ap (λ (o : Option Version). are_ordered r.low (low_in && is_some r.low) o (high_in && is_some o)) same_high
    ∙ ap₂ (λ (a b : Bool). are_ordered r.low a r.high b) (sym read.2) (sym read.3) in
    absurd (not_both _ (sym ends ∙ inverted) r.ordered)
ends_excluded low_in high_in left right r read (Floating at) bad = absurd bad
ends_excluded low_in high_in left right r read (BadByte at) bad = absurd bad

memory_alone : (e : RangeErr) → IsMemory e → e ≡ Memory
memory_alone Memory bad = refl
memory_alone (BadBound at) bad = absurd bad
memory_alone (Floating at) bad = absurd bad
memory_alone (BadByte at) bad = absurd bad
memory_alone Inverted bad = absurd bad

excluded : (f : Form) (r : VersionRange) → IsReadAs f r → (e : RangeErr) → IsRefusedAs f e → e ≡ Memory
excluded (starred at) r read e bad = absurd read
excluded blank r read e bad = memory_alone e bad
excluded (bare p) r read e bad = bound_excluded p read.0 read.1 e bad
excluded (broken at) r read e bad = absurd read
excluded (single p) r read e bad = bound_excluded p read.0 read.1 e bad
excluded (double low_in left right high_in) r read e bad = ends_excluded low_in high_in left right r read e bad

-- a text that spells a range is refused as Memory alone
pub only_memory : (text : List ℕ) (r : VersionRange) → SpellsRange text r → (e : RangeErr) → IsRefusedAs (form text) e → e ≡ Memory
only_memory text r spells e bad = excluded (form text) r (complete text r spells) e bad
