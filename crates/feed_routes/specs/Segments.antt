-- What stands in the segments of a path: numbers, and ids and versions that are their own keys. A path isn't decoded.
use Rattle.std.specs.Prelude.{◌≡◌, ◌≢◌, ℕ, List, [], ◌∷◌, IsTrue}
use Rattle.std.specs.Char.{is_ascii_digit}
use Rattle.std.specs.List.{list_all}
use Rattle.nuget_version.specs.Grammar.{Spells}
use Rattle.nuget_version.specs.Printed.{key_text}
use Rattle.nuget_version.specs.declared.version.Version.{Version}
use Rattle.package_id.specs.Ids.{IsShortId, id_key}

-- decimal digits without leading zeros
pub record IsNumber (text : List ℕ) : Type 0 where
  pub filled : text ≢ []
  pub digits : IsTrue (list_all is_ascii_digit text)
  pub bare : (rest : List ℕ) → text ≡ 48 ∷ rest → rest ≡ []

-- an id that is its own key
pub record IsIdKey (text : List ℕ) : Type 0 where
  pub is_id : IsShortId text
  pub own : id_key text ≡ text

-- a version's text that is the version's key
abbrev pub IsVersionKey : List ℕ → Type 0
IsVersionKey text = (v : Version) × Spells text v × (key_text v ≡ text)
