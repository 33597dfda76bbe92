-- Which versions are pre-releases, and which are SemVer 2.0.0 ones.
use Rattle.std.specs.Prelude.{◌==◌, ◌||◌, nat_lt, Bool, length}
use Rattle.std.specs.List.{list_any}
use Rattle.nuget_version.specs.declared.version.Version.{Version}

-- a version with labels
abbrev pub is_pre : Version → Bool
is_pre v = nat_lt 0 (length v.labels)

-- a version with a dot in its labels, or with metadata
abbrev pub is_semver2 : Version → Bool
is_semver2 v = list_any (λ b. b == 46) v.labels || nat_lt 0 (length v.meta)
