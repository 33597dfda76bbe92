-- When a text is refused, in the order of the refusals: each has what the earlier ones leave. The
-- order is this project's own.
use Rattle.std.specs.Prelude.{◌≡◌, ◌≢◌, ◌⊎◌, ℕ, ⊤, List, ◌∷◌, ◌++◌, slice_index, Bool, true, ◌&&◌, IsTrue, IsFalse, Option, is_some, codes}
use Rattle.nuget_version.specs.declared.version.Version.{Version}
use Rattle.version_range.specs.Bytes.{is_star, is_comma, is_round, is_filled, is_opening, is_closing}
use Rattle.version_range.specs.Grammar.{IsBracketed, SpellsVersion, SpellsEnd, SpellsRange}
use Rattle.version_range.specs.Order.{are_ordered}
use Rattle.version_range.specs.Places.{HasNone, IsFirst, IsNextPlace, IsSecond, IsLast}
use Rattle.version_range.specs.declared.error.RangeErr.{RangeErr}
use Rattle.version_range.specs.declared.error.RangeErr.TheVariants.{Floating, BadBound, BadByte, Inverted, Memory}
use Rattle.version_range.specs.declared.range.VersionRange.{VersionRange}

-- no version with spaces around it
abbrev pub IsNoSpacedVersion : List ℕ → Type 0
IsNoSpacedVersion text = (v : Version) → ¬ SpellsVersion text v

-- no version with spaces around it, and not absent
abbrev pub IsNoEnd : List ℕ → Type 0
IsNoEnd text = (end : Option Version) → ¬ SpellsEnd text end

-- no bracket at the start: the first byte that isn't a space stands here and opens none, and the text
-- is no version
pub record IsBadVersion (text : List ℕ) (at : ℕ) : Type 0 where
  pub unstarred : HasNone is_star text
  pub first : IsFirst is_filled text at
  pub unopened : IsFalse (is_opening (slice_index text at))
  pub none : IsNoSpacedVersion text

-- a bracket at the start and none at the end: the last byte that isn't a space stands here and closes none
pub record IsUnclosed (text : List ℕ) (at : ℕ) : Type 0 where
  pub unstarred : HasNone is_star text
  pub first : ℕ
  pub filled : IsFirst is_filled text first
  pub opens : IsTrue (is_opening (slice_index text first))
  pub last : IsLast is_filled text at
  pub unclosed : IsFalse (is_closing (slice_index text at))

-- brackets and no `*`; the points below are for these texts
pub record IsInBrackets (text : List ℕ) (low_square : Bool) (inner : List ℕ) (high_square : Bool) : Type 0 where
  pub unstarred : HasNone is_star text
  pub bracketed : IsBracketed text low_square inner high_square

-- brackets, and more than one comma, of which the second stands here
abbrev pub IsSecondComma : List ℕ → ℕ → Type 0
IsSecondComma text at =
    (low_square : Bool) × (inner : List ℕ) × (high_square : Bool) × IsInBrackets text low_square inner high_square × IsSecond is_comma text at

-- brackets and no comma, but a round bracket, of which the first stands here
abbrev pub IsFirstRound : List ℕ → ℕ → Type 0
IsFirstRound text at =
    (low_square : Bool) × (inner : List ℕ) × (high_square : Bool) × IsInBrackets text low_square inner high_square × HasNone is_comma text × IsFirst is_round text at

-- square brackets round one end, no comma and no round bracket: the end is no version, and the first
-- byte that isn't a space behind the bracket stands here
pub record IsBadSingle (text : List ℕ) (at : ℕ) : Type 0 where
  pub inner : List ℕ
  pub brackets : IsInBrackets text true inner true
  pub alone : HasNone is_comma text
  pub square : HasNone is_round text
  pub none : IsNoSpacedVersion inner
  pub place : IsSecond is_filled text at

-- brackets round two pieces, with the only comma between them; the points below are for these texts
pub record IsPair (text : List ℕ) (low_square : Bool) (left right : List ℕ) (high_square : Bool) : Type 0 where
  pub brackets : IsInBrackets text low_square (left ++ 44 ∷ right) high_square
  pub left_whole : HasNone is_comma left
  pub right_whole : HasNone is_comma right

-- the left end is none, and its first byte that isn't a space stands here
abbrev pub IsBadLeft : List ℕ → ℕ → Type 0
IsBadLeft text at =
    (low_square : Bool) × (left : List ℕ) × (right : List ℕ) × (high_square : Bool) × IsPair text low_square left right high_square × IsNoEnd left × IsSecond is_filled text at

-- the first byte that isn't a space behind the comma stands here
abbrev pub IsBehindComma : List ℕ → ℕ → Type 0
IsBehindComma text at = (comma : ℕ) × IsFirst is_comma text comma × IsNextPlace is_filled text comma at

-- the left end is one, the right end is none, and its first byte that isn't a space stands here
pub record IsBadRight (text : List ℕ) (at : ℕ) : Type 0 where
  pub low_square : Bool
  pub left : List ℕ
  pub right : List ℕ
  pub high_square : Bool
  pub pair : IsPair text low_square left right high_square
  pub low : Option Version
  pub low_end : SpellsEnd left low
  pub none : IsNoEnd right
  pub place : IsBehindComma text at

-- both ends are ends, but the lower one is above the upper one, or equal to it and not both are included
pub record IsInverted (text : List ℕ) : Type 0 where
  pub low_square : Bool
  pub left : List ℕ
  pub right : List ℕ
  pub high_square : Bool
  pub pair : IsPair text low_square left right high_square
  pub low : Option Version
  pub low_end : SpellsEnd left low
  pub high : Option Version
  pub high_end : SpellsEnd right high
  pub inverted : IsFalse (are_ordered low (low_square && is_some low) high (high_square && is_some high))

-- when each refusal comes; Memory may stand in place of each answer
abbrev pub IsRangeRefused : List ℕ → RangeErr → Type 0
IsRangeRefused text (Floating at) = IsFirst is_star text at
IsRangeRefused text (BadByte at) = IsUnclosed text at ⊎ (IsSecondComma text at ⊎ IsFirstRound text at)
IsRangeRefused text (BadBound at) = IsBadVersion text at ⊎ (IsBadSingle text at ⊎ (IsBadLeft text at ⊎ IsBadRight text at))
IsRangeRefused text Inverted = IsInverted text
IsRangeRefused text Memory = ⊤

-- beside Memory a text has one refusal at most, and none where it spells a range
abbrev pub HasOneReason : Type 0
HasOneReason =
    (text : List ℕ) (e : RangeErr) → e ≢ Memory → IsRangeRefused text e
    → ((f : RangeErr) → f ≢ Memory → IsRangeRefused text f → f ≡ e) × ((r : VersionRange) → SpellsRange text r → ⊥)

-- worked rows, one a refusal
abbrev pub WorkedRefusals : Type 0
WorkedRefusals =
    IsRangeRefused (codes "1.*") (Floating 2) × IsRangeRefused (codes "a") (BadBound 0) × IsRangeRefused (codes "[1.0") (BadByte 3) × IsRangeRefused (codes "[,,]") (BadByte 2)
    × IsRangeRefused (codes "(1.0)") (BadByte 0) × IsRangeRefused (codes "[]") (BadBound 1) × IsRangeRefused (codes "[a,2.0]") (BadBound 1)
    × IsRangeRefused (codes "[1.0, b]") (BadBound 6) × IsRangeRefused (codes "[2.0,1.0]") Inverted
