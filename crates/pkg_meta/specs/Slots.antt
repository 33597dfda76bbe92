-- The members of metadata and details by topic, as they are put.
use Rattle.std.specs.Prelude.{List, [], ◌∷◌, map, option_map, codes, ℕ}
use Rattle.serde_json.specs.Data.{Data, boolean, number, object, string, unsigned}
use Rattle.nuget_version.specs.Marks.{is_pre}
use Rattle.nuget_version.specs.Printed.{full_text}
use Rattle.ticks.specs.Stamp.{stamp_text}
use Rattle.pkg_meta.specs.Members.{Slot, always, maybe, present}
use Rattle.pkg_meta.specs.Trees.{array_if, group_tree, origin_text, published_text, text_if}
use Rattle.pkg_meta.specs.declared.item.Details.{Details}
use Rattle.pkg_meta.specs.declared.meta.Meta.{Meta}

-- a dependency of these texts
abbrev pub dep_object : List ℕ → List ℕ → Data
dep_object id range = object (present (always (codes "id") (string id) ∷ always (codes "range") (string range) ∷ []))

-- the id and the version
abbrev pub identity_slots : Meta → List Slot
identity_slots m =
    always (codes "id") (string m.id.text)
    ∷ always (codes "verbatimVersion") (string m.verbatim)
    ∷ always (codes "version") (string (full_text m.version))
    ∷ []

-- what is told in words
abbrev pub prose_slots : Meta → List Slot
prose_slots m =
    maybe (codes "authors") (text_if m.authors)
    ∷ maybe (codes "description") (text_if m.description)
    ∷ maybe (codes "releaseNotes") (text_if m.release_notes)
    ∷ maybe (codes "summary") (text_if m.summary)
    ∷ maybe (codes "title") (text_if m.title)
    ∷ []

-- addresses, and what a client has to heed
abbrev pub address_slots : Meta → List Slot
address_slots m =
    maybe (codes "iconUrl") (text_if m.icon_url)
    ∷ maybe (codes "licenseUrl") (text_if m.license_url)
    ∷ maybe (codes "minClientVersion") (text_if m.min_client)
    ∷ maybe (codes "projectUrl") (text_if m.project_url)
    ∷ maybe (codes "requireLicenseAcceptance") (option_map boolean m.require_license)
    ∷ []

-- tags and dependencies
abbrev pub list_slots : Meta → List Slot
list_slots m =
    maybe (codes "tags") (array_if (map string m.tags)) ∷ maybe (codes "dependencyGroups") (array_if (map group_tree m.groups)) ∷ []

-- where the version comes from, and how it is shown
abbrev pub origin_slots : Details → List Slot
origin_slots d =
    always (codes "created") (string (stamp_text d.created))
    ∷ always (codes "origin") (string (origin_text d))
    ∷ always (codes "published") (string (published_text d))
    ∷ []

-- the package's hash and size, and two marks
abbrev pub package_slots : Details → List Slot
package_slots d =
    always (codes "isPrerelease") (boolean (is_pre d.meta.version))
    ∷ always (codes "listed") (boolean d.listed)
    ∷ always (codes "packageHash") (string d.hash)
    ∷ always (codes "packageHashAlgorithm") (string (codes "SHA512"))
    ∷ always (codes "packageSize") (number (unsigned d.size))
    ∷ []
