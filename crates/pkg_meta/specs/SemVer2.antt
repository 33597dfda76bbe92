-- Which packages are SemVer 2.0.0 ones.
use Rattle.std.specs.Prelude.{Bool, ◌||◌}
use Rattle.std.specs.List.{list_any}
use Rattle.nuget_version.specs.Marks as version
use Rattle.version_range.specs.Holds as range
use Rattle.pkg_meta.specs.declared.dependency.DepGroup.{DepGroup}
use Rattle.pkg_meta.specs.declared.item.Details.{Details}

-- a bound of a dependency's range is a SemVer 2.0.0 version
abbrev pub has_semver2_bound : DepGroup → Bool
has_semver2_bound g = list_any (λ dep. range.is_semver2_range dep.range) g.deps

-- the version is a SemVer 2.0.0 one, or a bound of a dependency's range is
abbrev pub is_semver2_package : Details → Bool
is_semver2_package d = version.is_semver2 d.meta.version || list_any has_semver2_bound d.meta.groups
