-- Metadata and details as JSON data, with their members in byte order.
use Rattle.std.specs.Prelude.{ℕ, List, [], ◌∷◌, ◌++◌, map, Option, Some, None, option_map, codes, decimal, if◌then◌else◌}
use Rattle.serde_json.specs.Data.{Data, boolean, string, number, unsigned, array, object}
use Rattle.serde_json.specs.View.{items_of}
use Rattle.nuget_version.specs.Marks.{is_pre}
use Rattle.nuget_version.specs.Printed.{full_text}
use Rattle.version_range.specs.Printed.{range_text}
use Rattle.ticks.specs.Stamp.{stamp_text}
use Rattle.pkg_meta.specs.Members.{Slot, always, maybe, present}
use Rattle.pkg_meta.specs.declared.dependency.Dep.{Dep}
use Rattle.pkg_meta.specs.declared.dependency.DepGroup.{DepGroup}
use Rattle.pkg_meta.specs.declared.item.Details.{Details}
use Rattle.pkg_meta.specs.declared.meta.Meta.{Meta}

-- a text, where it is given
abbrev pub text_if : Option (List ℕ) → Option Data
text_if text = option_map string text

-- an array, where it isn't empty
abbrev pub array_if : List Data → Option Data
array_if [] = None
array_if (d ∷ ds) = Some (array (items_of (d ∷ ds)))

-- a dependency: the id, and the printed range
abbrev pub dep_table : Dep → List Slot
dep_table dep = always (codes "id") (string dep.id.text) ∷ always (codes "range") (string (range_text dep.range)) ∷ []

-- a dependency as an object
abbrev pub dep_tree : Dep → Data
dep_tree dep = object (present (dep_table dep))

-- a group: the dependencies, and the target framework
abbrev pub group_table : DepGroup → List Slot
group_table g =
    maybe (codes "dependencies") (array_if (map dep_tree g.deps))
    ∷ maybe (codes "targetFramework") (text_if g.framework)
    ∷ []

-- a group as an object
abbrev pub group_tree : DepGroup → Data
group_tree g = object (present (group_table g))

-- the members of metadata
abbrev pub meta_table : Meta → List Slot
meta_table m =
    maybe (codes "authors") (text_if m.authors)
    ∷ maybe (codes "dependencyGroups") (array_if (map group_tree m.groups))
    ∷ maybe (codes "description") (text_if m.description)
    ∷ maybe (codes "iconUrl") (text_if m.icon_url)
    ∷ always (codes "id") (string m.id.text)
    ∷ maybe (codes "licenseUrl") (text_if m.license_url)
    ∷ maybe (codes "minClientVersion") (text_if m.min_client)
    ∷ maybe (codes "projectUrl") (text_if m.project_url)
    ∷ maybe (codes "releaseNotes") (text_if m.release_notes)
    ∷ maybe (codes "requireLicenseAcceptance") (option_map boolean m.require_license)
    ∷ maybe (codes "summary") (text_if m.summary)
    ∷ maybe (codes "tags") (array_if (map string m.tags))
    ∷ maybe (codes "title") (text_if m.title)
    ∷ always (codes "verbatimVersion") (string m.verbatim)
    ∷ always (codes "version") (string (full_text m.version))
    ∷ []

-- metadata as an object
unfoldable pub meta_tree : Meta → Data
meta_tree m = object (present (meta_table m))

-- the number of the commit that published the version, and the place there
abbrev pub origin_text : Details → List ℕ
origin_text d = decimal d.origin_number ++ (codes "/" ++ decimal d.origin_place)

-- when the version counts as published: an unlisted one in the year 1900
abbrev pub published_text : Details → List ℕ
published_text d = if d.listed then stamp_text d.created else codes "1900-01-01T00:00:00.0000000Z"

-- the members of details behind `authors`
abbrev pub later_table : Details → List Slot
later_table d =
    always (codes "created") (string (stamp_text d.created))
    ∷ maybe (codes "dependencyGroups") (array_if (map group_tree d.meta.groups))
    ∷ maybe (codes "description") (text_if d.meta.description)
    ∷ maybe (codes "iconUrl") (text_if d.meta.icon_url)
    ∷ always (codes "id") (string d.meta.id.text)
    ∷ always (codes "isPrerelease") (boolean (is_pre d.meta.version))
    ∷ maybe (codes "licenseUrl") (text_if d.meta.license_url)
    ∷ always (codes "listed") (boolean d.listed)
    ∷ maybe (codes "minClientVersion") (text_if d.meta.min_client)
    ∷ always (codes "origin") (string (origin_text d))
    ∷ always (codes "packageHash") (string d.hash)
    ∷ always (codes "packageHashAlgorithm") (string (codes "SHA512"))
    ∷ always (codes "packageSize") (number (unsigned d.size))
    ∷ maybe (codes "projectUrl") (text_if d.meta.project_url)
    ∷ always (codes "published") (string (published_text d))
    ∷ maybe (codes "releaseNotes") (text_if d.meta.release_notes)
    ∷ maybe (codes "requireLicenseAcceptance") (option_map boolean d.meta.require_license)
    ∷ maybe (codes "summary") (text_if d.meta.summary)
    ∷ maybe (codes "tags") (array_if (map string d.meta.tags))
    ∷ maybe (codes "title") (text_if d.meta.title)
    ∷ always (codes "verbatimVersion") (string d.meta.verbatim)
    ∷ always (codes "version") (string (full_text d.meta.version))
    ∷ []

-- the members of details
abbrev pub details_table : Details → List Slot
details_table d = maybe (codes "authors") (text_if d.meta.authors) ∷ later_table d

-- details as an object
unfoldable pub details_tree : Details → Data
details_tree d = object (present (details_table d))
