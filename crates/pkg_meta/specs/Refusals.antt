-- Why bytes are refused as a publisher's metadata.
use Rattle.std.specs.Prelude.{◌≡◌, ◌<◌, ◌≤◌, ℕ, List, ◌++◌, length, take, Option, Some, codes, decimal, slice_index_or}
use Rattle.serde_json.specs.Data.{Data, null}
use Rattle.nuget_version.specs.Grammar.{Spells}
use Rattle.nuget_version.specs.declared.version.Version.{Version}
use Rattle.package_id.specs.Ids.{IsShortId}
use Rattle.version_range.specs.declared.range.VersionRange.{VersionRange}
use Rattle.pkg_meta.specs.Kinds.{first_misfit, kinds}
use Rattle.pkg_meta.specs.Publisher.{IsDepOf, IsFitting, IsGroupOf, IsObjectText, IsRangeOf, Match}
use Rattle.pkg_meta.specs.Values.{items_at, text_at, text_or_empty}
use Rattle.pkg_meta.specs.declared.error.MetaErr.{MetaErr}
use Rattle.pkg_meta.specs.declared.error.MetaErr.TheVariants.{TooLarge, NotJson, Field, BadId, BadVersion, BadRange}

-- the path of a dependency's member
abbrev pub dep_path : ℕ → ℕ → List ℕ → List ℕ
dep_path g k member = codes "dependencyGroups/" ++ (decimal g ++ (codes "/dependencies/" ++ (decimal k ++ member)))

-- the text of no version
abbrev pub IsNoVersion : List ℕ → Type 0
IsNoVersion text = (v : Version) → ¬ Spells text v

-- the text of no range
abbrev pub IsNoRange : Option (List ℕ) → Type 0
IsNoRange text = (r : VersionRange) → ¬ IsRangeOf text r

-- why dependency k of group g is refused: its id before its range
pub data IsRefusedDep (g k : ℕ) (d : Data) (e : MetaErr) : Type 0 where
  -- the id is none
  dep_id : e ≡ BadId (dep_path g k (codes "/id")) → ¬ IsShortId (text_or_empty (codes "id") d) → IsRefusedDep g k d e
  -- the range is none
  dep_range : e ≡ BadRange (dep_path g k (codes "/range")) → IsShortId (text_or_empty (codes "id") d) → IsNoRange (text_at (codes "range") d) → IsRefusedDep g k d e

-- the first of several values that is refused tells, where those before it are read
pub record IsFirstRefused {Y : Type 0} (Reads : Data → Y → Type 0) (Refuses : ℕ → Data → MetaErr → Type 0) (ds : List Data) (e : MetaErr) : Type 0 where
  pub at : ℕ
  pub within : at < length ds
  pub before : List Y
  pub read : Match Reads (take at ds) before
  pub refused : Refuses at (slice_index_or ds at null) e

-- why group g is refused
abbrev pub IsRefusedGroup : ℕ → Data → MetaErr → Type 0
IsRefusedGroup g d e = IsFirstRefused IsDepOf (IsRefusedDep g) (items_at (codes "dependencies") d) e

-- why an object whose members are of their kinds is refused; each reason comes where none of the earlier ones holds
pub data IsRefusedObject (d : Data) (e : MetaErr) : Type 0 where
  -- the id is none
  bad_id : e ≡ BadId (codes "id") → ¬ IsShortId (text_or_empty (codes "id") d) → IsRefusedObject d e
  -- the version is none
  bad_version : e ≡ BadVersion → IsShortId (text_or_empty (codes "id") d) → IsNoVersion (text_or_empty (codes "version") d) → IsRefusedObject d e
  -- a dependency is refused
  bad_dependency : IsShortId (text_or_empty (codes "id") d) → ((v : Version) × Spells (text_or_empty (codes "version") d) v)
      → IsFirstRefused IsGroupOf IsRefusedGroup (items_at (codes "dependencyGroups") d) e → IsRefusedObject d e

-- why bytes are refused as a publisher's metadata, likewise
pub data IsRefusedMeta (bytes : List ℕ) (e : MetaErr) : Type 0 where
  -- there are too many
  too_large : e ≡ TooLarge (length bytes) → 32_768 < length bytes → IsRefusedMeta bytes e
  -- they are no JSON text of an object
  not_json : e ≡ NotJson → length bytes ≤ 32_768 → ((d : Data) → ¬ IsObjectText bytes d) → IsRefusedMeta bytes e
  -- a member isn't of its kind: the first in byte order
  misfit : (d : Data) (name : List ℕ) → e ≡ Field name → IsObjectText bytes d → first_misfit kinds d ≡ Some name → IsRefusedMeta bytes e
  -- the object's id, its version or a dependency is refused
  object : (d : Data) → IsFitting bytes d → IsRefusedObject d e → IsRefusedMeta bytes e
