-- What the private steps of the reader answer, by the form of a text. Why a text is refused stands in `Refusals`.
use Rattle.std.specs.Prelude.{◌≡◌, ◌<◌, ◌⊎◌, ℕ, ⊤, List, [], length, Bool, true, false, ◌&&◌, IsFalse, Option, Some, None, is_some}
use Rattle.nuget_version.specs.Grammar.{Spells}
use Rattle.nuget_version.specs.declared.version.Version.{Version}
use Rattle.nuget_version.specs.declared.errors.VersionErr.{VersionErr}
use Rattle.version_range.specs.Form.{Form, starred, blank, bare, broken, single, double, Piece}
use Rattle.version_range.specs.Grammar.{HasEnds}
use Rattle.version_range.specs.Order.{are_ordered}
use Rattle.version_range.specs.declared.error.RangeErr.{RangeErr}
use Rattle.version_range.specs.declared.error.RangeErr.TheVariants.{Floating, BadBound, BadByte, Inverted, Memory}
use Rattle.version_range.specs.declared.range.VersionRange.{VersionRange}

-- an end, which is absent where its piece is empty
abbrev pub IsEnd : List ℕ → Option Version → Type 0
IsEnd text None = text ≡ []
IsEnd text (Some v) = Spells text v

-- the text of no version, without spaces around it
abbrev pub SpellsNone : List ℕ → Type 0
SpellsNone text = (v : Version) → ¬ Spells text v

-- the same, of a piece that might have been empty
abbrev pub IsFilledNone : List ℕ → Type 0
IsFilledNone text = (0 < length text) × SpellsNone text

-- a piece that had to be a version
abbrev pub IsBadBound : Piece → RangeErr → Type 0
IsBadBound p Memory = ⊤
IsBadBound p (BadBound at) = (at ≡ p.at) × SpellsNone p.text
IsBadBound p e = ⊥

-- of an end that is no version, or that there was no memory for
abbrev pub bound_error_of : VersionErr → ℕ → RangeErr
bound_error_of VersionErr.Memory at = Memory
bound_error_of e at = BadBound at

-- a piece that had to be an end
abbrev pub IsBadEnd : Piece → RangeErr → Type 0
IsBadEnd p Memory = ⊤
IsBadEnd p (BadBound at) = (at ≡ p.at) × IsFilledNone p.text
IsBadEnd p e = ⊥

-- two pieces that had to be ends, the left one first, and that had to be ordered
abbrev pub AreBadEnds : Bool → Piece → Piece → Bool → RangeErr → Type 0
AreBadEnds low_in left right high_in Memory = ⊤
AreBadEnds low_in left right high_in (BadBound at) =
    ((at ≡ left.at) × IsFilledNone left.text) ⊎ ((at ≡ right.at) × ((low : Option Version) × IsEnd left.text low) × IsFilledNone right.text)
AreBadEnds low_in left right high_in Inverted =
    (low : Option Version) × (high : Option Version) × IsEnd left.text low × IsEnd right.text high
    × IsFalse (are_ordered low (low_in && is_some low) high (high_in && is_some high))
AreBadEnds low_in left right high_in e = ⊥

-- the refusal of a `*` at this place
abbrev pub IsStarredAt : ℕ → RangeErr → Type 0
IsStarredAt place Memory = ⊤
IsStarredAt place (Floating at) = at ≡ place
IsStarredAt place e = ⊥

-- the refusal of a byte at this place
abbrev pub IsBrokenAt : ℕ → RangeErr → Type 0
IsBrokenAt place Memory = ⊤
IsBrokenAt place (BadByte at) = at ≡ place
IsBrokenAt place e = ⊥

-- Memory alone
abbrev pub IsMemory : RangeErr → Type 0
IsMemory Memory = ⊤
IsMemory e = ⊥

-- why a text of this form is refused; Memory may stand in place of each reason, and of none
abbrev pub IsRefusedAs : Form → RangeErr → Type 0
IsRefusedAs (starred place) e = IsStarredAt place e
IsRefusedAs blank e = IsMemory e
IsRefusedAs (bare p) e = IsBadBound p e
IsRefusedAs (broken place) e = IsBrokenAt place e
IsRefusedAs (single p) e = IsBadBound p e
IsRefusedAs (double low_in left right high_in) e = AreBadEnds low_in left right high_in e

-- the range of a text of this form
abbrev pub IsReadAs : Form → VersionRange → Type 0
IsReadAs (starred place) r = ⊥
IsReadAs blank r = HasEnds r None false None false
IsReadAs (bare p) r = (v : Version) × Spells p.text v × HasEnds r (Some v) true None false
IsReadAs (broken place) r = ⊥
IsReadAs (single p) r = (v : Version) × Spells p.text v × HasEnds r (Some v) true (Some v) true
IsReadAs (double low_in left right high_in) r =
    IsEnd left.text r.low × IsEnd right.text r.high × (r.low_in ≡ (low_in && is_some r.low)) × (r.high_in ≡ (high_in && is_some r.high))
