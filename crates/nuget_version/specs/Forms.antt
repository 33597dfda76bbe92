-- What is true of the printed forms of every version.
use Rattle.std.specs.Prelude.{◌<◌, ◌≤◌, ℕ, ◌==◌, ◌&&◌, ◌||◌, nat_le, Bool, IsTrue, length}
use Rattle.std.specs.List.{list_all}
use Rattle.nuget_version.specs.Printed.{full_text, key_text, normal_text}
use Rattle.nuget_version.specs.declared.version.Version.{Version}

-- a printed form has at most 64 bytes
abbrev pub FormsFit : Type 0
FormsFit = (v : Version) → (length (normal_text v) ≤ 64) × (length (full_text v) ≤ 64) × (length (key_text v) ≤ 64)

-- a digit, a lower-case ASCII letter, `-` or `.`
abbrev pub is_key_byte : ℕ → Bool
is_key_byte b = (nat_le 48 b && nat_le b 57) || ((nat_le 97 b && nat_le b 122) || ((b == 45) || (b == 46)))

-- a key can stand in a path: it isn't empty, and has no `/`
abbrev pub KeysAreNames : Type 0
KeysAreNames = (v : Version) → (0 < length (key_text v)) × IsTrue (list_all is_key_byte (key_text v))
