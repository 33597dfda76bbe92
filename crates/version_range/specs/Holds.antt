-- Which versions a range holds, and which ranges are SemVer 2.0.0 ones.
use Rattle.std.specs.Prelude.{◌≡◌, ◌⊎◌, ⊤, Bool, false, ◌||◌, IsTrue, Option, Some, None}
use Rattle.std.specs.Option.{option_map_or}
use Rattle.std.specs.declared.cmp.Ordering.TheVariants.{Less, Equal}
use Rattle.nuget_version.specs.Marks as version
use Rattle.nuget_version.specs.declared.version.Version.{Version}
use Rattle.nuget_version.specs.Precedence.{precedence}
use Rattle.version_range.specs.declared.range.VersionRange.{VersionRange}

-- the first comes before the second, or ties with it where that is included
abbrev pub IsBelow : Version → Version → Bool → Type 0
IsBelow u v included = (precedence u v ≡ Less) ⊎ ((precedence u v ≡ Equal) × IsTrue included)

-- no version is below the lower end
abbrev pub IsAboveLow : Option Version → Bool → Version → Type 0
IsAboveLow None low_in v = ⊤
IsAboveLow (Some low) low_in v = IsBelow low v low_in

-- and none is above the upper end
abbrev pub IsBelowHigh : Option Version → Bool → Version → Type 0
IsBelowHigh None high_in v = ⊤
IsBelowHigh (Some high) high_in v = IsBelow v high high_in

-- the version is within the ends of the range
abbrev pub Holds : VersionRange → Version → Type 0
Holds r v = IsAboveLow r.low r.low_in v × IsBelowHigh r.high r.high_in v

-- one of its ends is a SemVer 2.0.0 version
abbrev pub is_semver2_range : VersionRange → Bool
is_semver2_range r = option_map_or version.is_semver2 r.low false || option_map_or version.is_semver2 r.high false
