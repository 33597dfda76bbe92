-- The printed forms of a version.
use Rattle.std.specs.Prelude.{ℕ, List, ◌++◌}
use Rattle.std.specs.Str.{str_to_ascii_lowercase}
use Rattle.nuget_version.specs.Parts.{full_of, marked, numbers_of}
use Rattle.nuget_version.specs.declared.version.Version.{Version}

-- the normal form: three numbers, the fourth where it isn't 0, and the labels as they were given
unfoldable pub normal_text : Version → List ℕ
normal_text v = numbers_of v.major v.minor v.patch v.revision ++ marked 45 v.labels

-- the normal form and the metadata
unfoldable pub full_text : Version → List ℕ
full_text v = full_of v.major v.minor v.patch v.revision v.labels v.meta

-- the normal form in lower case
unfoldable pub key_text : Version → List ℕ
key_text v = str_to_ascii_lowercase (normal_text v)
