-- The entries of an id, by their versions.
use Rattle.std.specs.Prelude.{ℕ, List, map}
use Rattle.std.specs.List.Sorted.{IsStrictlySortedBy}
use Rattle.nuget_version.specs.Precedence.{precedence}
use Rattle.nuget_version.specs.Printed.{key_text}
use Rattle.nuget_version.specs.declared.version.Version.{Version}
use Rattle.pkg_meta.specs.declared.entry.Entry.{Entry}

-- the version that an entry is of
abbrev pub version_in : Entry → Version
version_in e = e.details.meta.version

-- the key of an entry's version
abbrev pub key_in : Entry → List ℕ
key_in e = key_text (version_in e)

-- strictly rising precedence
abbrev pub AreRising : List Entry → Type 0
AreRising es = IsStrictlySortedBy precedence (map version_in es)
