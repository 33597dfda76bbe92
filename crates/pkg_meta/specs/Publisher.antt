-- A publisher's metadata: the JSON texts that are read, and what is read of them.
use Rattle.std.specs.Prelude.{◌≡◌, ◌≤◌, ℕ, List, [], ◌∷◌, length, false, Option, Some, None, IsTrue, IsUtf8, codes}
use Rattle.std.specs.List.{filter_map}
use Rattle.serde_json.specs.Data.{Data}
use Rattle.serde_json.specs.Find.{as_str}
use Rattle.serde_json.specs.Read.{read}
use Rattle.nuget_version.specs.Grammar.{Spells}
use Rattle.version_range.specs.Grammar.{HasEnds, SpellsRange}
use Rattle.version_range.specs.declared.range.VersionRange.{VersionRange}
use Rattle.pkg_meta.specs.Kinds.{first_misfit, kinds}
use Rattle.pkg_meta.specs.Texts.{texts_at, texts_of}
use Rattle.pkg_meta.specs.Values.{flag_at, is_object, items_at, text_at, text_or_empty}
use Rattle.pkg_meta.specs.declared.dependency.Dep.{Dep}
use Rattle.pkg_meta.specs.declared.dependency.DepGroup.{DepGroup}
use Rattle.pkg_meta.specs.declared.meta.Meta.{Meta}

-- two lists whose items match one by one
abbrev pub Match : {X Y : Type 0} → (X → Y → Type 0) → List X → List Y → Type 0
Match R [] [] = Unit {0}
Match R [] (y ∷ ys) = ⊥
Match R (x ∷ xs) [] = ⊥
Match R (x ∷ xs) (y ∷ ys) = R x y × Match R xs ys

-- the range of a text; an absent one is any version
abbrev pub IsRangeOf : Option (List ℕ) → VersionRange → Type 0
IsRangeOf None r = HasEnds r None false None false
IsRangeOf (Some text) r = SpellsRange text r

-- the dependency that a value says
pub record IsDepOf (d : Data) (dep : Dep) : Type 0 where
  pub id : dep.id.text ≡ text_or_empty (codes "id") d
  pub range : IsRangeOf (text_at (codes "range") d) dep.range

-- the group that a value says
pub record IsGroupOf (d : Data) (g : DepGroup) : Type 0 where
  pub framework : g.framework ≡ text_at (codes "targetFramework") d
  pub deps : Match IsDepOf (items_at (codes "dependencies") d) g.deps

-- the metadata that an object says whose members are of their kinds
pub record IsMetaOf (d : Data) (m : Meta) : Type 0 where
  pub id : m.id.text ≡ text_or_empty (codes "id") d
  pub verbatim : m.verbatim ≡ text_or_empty (codes "version") d
  pub version : Spells m.verbatim m.version
  pub texts : texts_of m ≡ texts_at d
  pub require_license : m.require_license ≡ flag_at (codes "requireLicenseAcceptance") d
  pub tags : m.tags ≡ filter_map as_str (items_at (codes "tags") d)
  pub groups : Match IsGroupOf (items_at (codes "dependencyGroups") d) m.groups

-- a JSON text (RFC 8259) of an object, of at most 32,768 bytes and nested at most 127 deep; the last of a repeated key counts
pub record IsObjectText (bytes : List ℕ) (d : Data) : Type 0 where
  pub short : length bytes ≤ 32_768
  pub utf8 : IsUtf8 bytes
  pub says : read bytes ≡ Some d
  pub whole : IsTrue (is_object d)

-- such a text whose members are all of their kinds
pub record IsFitting (bytes : List ℕ) (d : Data) : Type 0 where
  pub text : IsObjectText bytes d
  pub fits : first_misfit kinds d ≡ None

-- the bytes are a publisher's metadata that is read so
pub record IsMetaText (bytes : List ℕ) (m : Meta) : Type 0 where
  pub object : Data
  pub fits : IsFitting bytes object
  pub says : IsMetaOf object m
