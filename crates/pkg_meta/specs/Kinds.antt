-- The kinds that the members of a publisher's metadata have.
use Rattle.std.specs.Prelude.{ℕ, List, [], ◌∷◌, Bool, ◌&&◌, Option, Some, None, codes, if◌then◌else◌}
use Rattle.serde_json.specs.Data.{Data}
use Rattle.serde_json.specs.Find.{get}
use Rattle.pkg_meta.specs.Values.{is_array_of, is_flag, is_object, is_optional, is_required, is_text}
use Rattle.pkg_meta.specs.declared.kinds.Kind.{Kind}
use Rattle.pkg_meta.specs.declared.kinds.Kind.TheVariants.{Text, RequiredText, Flag, Texts, Groups}

-- a dependency: an object with an id and perhaps a range
abbrev pub is_dep : Data → Bool
is_dep d = is_object d && (is_required is_text (get (codes "id") d) && is_optional is_text (get (codes "range") d))

-- a group: an object with perhaps a framework, and perhaps dependencies
abbrev pub is_group : Data → Bool
is_group d =
    is_object d && (is_optional is_text (get (codes "targetFramework") d) && is_optional (is_array_of is_dep) (get (codes "dependencies") d))

-- whether a member is of a kind
abbrev pub is_of_kind : Kind → Option Data → Bool
is_of_kind Text value = is_optional is_text value
is_of_kind RequiredText value = is_required is_text value
is_of_kind Flag value = is_optional is_flag value
is_of_kind Texts value = is_optional (is_array_of is_text) value
is_of_kind Groups value = is_optional (is_array_of is_group) value

-- the members of metadata in byte order, each with its kind
abbrev pub kinds : List (List ℕ × Kind)
kinds =
    (codes "authors", Text)
    ∷ (codes "dependencyGroups", Groups)
    ∷ (codes "description", Text)
    ∷ (codes "iconUrl", Text)
    ∷ (codes "id", RequiredText)
    ∷ (codes "licenseUrl", Text)
    ∷ (codes "minClientVersion", Text)
    ∷ (codes "projectUrl", Text)
    ∷ (codes "releaseNotes", Text)
    ∷ (codes "requireLicenseAcceptance", Flag)
    ∷ (codes "summary", Text)
    ∷ (codes "tags", Texts)
    ∷ (codes "title", Text)
    ∷ (codes "version", RequiredText)
    ∷ []

-- the first of such members that isn't of its kind
abbrev pub first_misfit : List (List ℕ × Kind) → Data → Option (List ℕ)
first_misfit [] d = None
first_misfit (row ∷ rows) d = if is_of_kind row.1 (get row.0 d) then first_misfit rows d else Some row.0
