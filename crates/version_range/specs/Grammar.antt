-- The grammar of ranges.
use Rattle.std.specs.Prelude.{◌≡◌, ℕ, List, [], ◌∷◌, ◌++◌, Bool, true, false, ◌&&◌, if◌then◌else◌, IsTrue, Option, Some, None, is_some}
use Rattle.std.specs.List.{list_all}
use Rattle.nuget_version.specs.Grammar.{Spells}
use Rattle.nuget_version.specs.declared.version.Version.{Version}
use Rattle.version_range.specs.Bytes.{is_space}
use Rattle.version_range.specs.declared.range.VersionRange.{VersionRange}

-- nothing but spaces
abbrev pub IsBlank : List ℕ → Type 0
IsBlank text = IsTrue (list_all is_space text)

-- the inner text, and spaces around it
pub record IsSpaced (text inner : List ℕ) : Type 0 where
  pub before : List ℕ
  pub behind : List ℕ
  pub blank_before : IsBlank before
  pub blank_behind : IsBlank behind
  pub spelled : text ≡ before ++ (inner ++ behind)

-- a version, and spaces around it
pub record SpellsVersion (text : List ℕ) (v : Version) : Type 0 where
  pub core : List ℕ
  pub spaced : IsSpaced text core
  pub version : Spells core v

-- an end of a range: a version, or nothing but spaces where it is absent
abbrev pub SpellsEnd : List ℕ → Option Version → Type 0
SpellsEnd text None = IsBlank text
SpellsEnd text (Some v) = SpellsVersion text v

-- a square bracket includes its end, a round one doesn't
abbrev pub opening : Bool → ℕ
opening square = if square then 91 else 40

-- the closing bracket
abbrev pub closing : Bool → ℕ
closing square = if square then 93 else 41

-- a text in brackets, and spaces around them
abbrev pub IsBracketed : List ℕ → Bool → List ℕ → Bool → Type 0
IsBracketed text low_square inner high_square = IsSpaced text (opening low_square ∷ (inner ++ closing high_square ∷ []))

-- the range has these ends
pub record HasEnds (r : VersionRange) (low : Option Version) (low_in : Bool) (high : Option Version) (high_in : Bool) : Type 0 where
  pub low_is : r.low ≡ low
  pub low_in_is : r.low_in ≡ low_in
  pub high_is : r.high ≡ high
  pub high_in_is : r.high_in ≡ high_in

-- two ends and a comma in brackets; an absent end isn't included
pub record SpellsBoth (text : List ℕ) (r : VersionRange) : Type 0 where
  pub low_square : Bool
  pub high_square : Bool
  pub left : List ℕ
  pub right : List ℕ
  pub bracketed : IsBracketed text low_square (left ++ 44 ∷ right) high_square
  pub low_end : SpellsEnd left r.low
  pub high_end : SpellsEnd right r.high
  pub low_in : r.low_in ≡ (low_square && is_some r.low)
  pub high_in : r.high_in ≡ (high_square && is_some r.high)

pub data SpellsRange (text : List ℕ) (r : VersionRange) : Type 0 where
  -- nothing but spaces: any version
  any : IsBlank text → HasEnds r None false None false → SpellsRange text r
  -- a version: it, or any above it
  least : (v : Version) → SpellsVersion text v → HasEnds r (Some v) true None false → SpellsRange text r
  -- a version in square brackets: it alone
  exact : (v : Version) (inner : List ℕ) → IsBracketed text true inner true → SpellsVersion inner v → HasEnds r (Some v) true (Some v) true → SpellsRange text r
  -- two ends, each of which may be absent
  both : SpellsBoth text r → SpellsRange text r
