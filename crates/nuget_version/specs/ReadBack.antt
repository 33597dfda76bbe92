-- Printed forms read back, and a text has one value.
use Rattle.std.specs.Prelude.{◌≡◌, ℕ, List, []}
use Rattle.std.specs.Str.{str_to_ascii_lowercase}
use Rattle.nuget_version.specs.Grammar.{Spells}
use Rattle.nuget_version.specs.Printed.{full_text, key_text, normal_text}
use Rattle.nuget_version.specs.declared.version.Version.{Version}

-- the text reads as the version's numbers with these labels and no metadata
pub record ReadsAs (text : List ℕ) (v : Version) (labels : List ℕ) : Type 0 where
  pub version : Version
  pub spelled : Spells text version
  pub same_major : version.major ≡ v.major
  pub same_minor : version.minor ≡ v.minor
  pub same_patch : version.patch ≡ v.patch
  pub same_revision : version.revision ≡ v.revision
  pub has_labels : version.labels ≡ labels
  pub no_meta : version.meta ≡ []

-- the full form reads as the version; the normal form as it is without metadata, and the key as
-- that with its labels in lower case
abbrev pub PrintedReadBack : Type 0
PrintedReadBack =
    (v : Version) → Spells (full_text v) v × ReadsAs (normal_text v) v v.labels × ReadsAs (key_text v) v (str_to_ascii_lowercase v.labels)

-- a text has one value at most
abbrev pub HasOneValue : Type 0
HasOneValue = (text : List ℕ) (u v : Version) → Spells text u → Spells text v → u ≡ v
