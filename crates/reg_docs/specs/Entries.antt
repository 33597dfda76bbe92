-- What a registration says of a version: Microsoft Learn, "Package metadata", catalog entry.
use Rattle.std.specs.Prelude.{ℕ, List, [], ◌∷◌, map, option_map, codes, Bool, true, not}
use Rattle.serde_json.specs.Data.{Data, boolean, string, object, member, no_members}
use Rattle.nuget_version.specs.Printed.{full_text}
use Rattle.version_range.specs.Printed.{range_text}
use Rattle.pkg_meta.specs.Members.{Slot, always, maybe, present}
use Rattle.pkg_meta.specs.SemVer2.{is_semver2_package}
use Rattle.pkg_meta.specs.Trees.{array_if, published_text, text_if}
use Rattle.pkg_meta.specs.declared.dependency.Dep.{Dep}
use Rattle.pkg_meta.specs.declared.dependency.DepGroup.{DepGroup}
use Rattle.pkg_meta.specs.declared.entry.Entry.{Entry}
use Rattle.pkg_meta.specs.declared.item.Details.{Details}
use Rattle.pkg_meta.specs.declared.meta.Meta.{Meta}
use Rattle.catalog_doc.specs.Names as catalog
use Rattle.reg_docs.specs.Addresses.{registration_index_url}

-- the plain hive keeps what is no SemVer 2.0.0 package
abbrev pub keeps_plain : Details → Bool
keeps_plain d = not (is_semver2_package d)

-- the SemVer 2.0.0 hive keeps all
abbrev pub keeps_every : Details → Bool
keeps_every d = true

-- a dependency: the id, the printed range, and the id's registration
abbrev pub entry_dep_object : List ℕ → List ℕ → List ℕ → Data
entry_dep_object id range registration = object
    (member (codes "id") (string id)
    (member (codes "range") (string range)
    (member (codes "registration") (string registration)
    no_members)))

-- its registration is that of the same hive
abbrev pub entry_dep_data : List ℕ → Dep → Data
entry_dep_data root dep = entry_dep_object dep.id.text (range_text dep.range) (registration_index_url root dep.id.key)

-- a group: the dependencies, and the target framework
abbrev pub entry_group_slots : List ℕ → DepGroup → List Slot
entry_group_slots root g =
    maybe (codes "dependencies") (array_if (map (entry_dep_data root) g.deps))
    ∷ maybe (codes "targetFramework") (text_if g.framework)
    ∷ []

-- a group as an object
abbrev pub entry_group_data : List ℕ → DepGroup → Data
entry_group_data root g = object (present (entry_group_slots root g))

-- the address of the catalog's leaf of an entry's item
abbrev pub item_url : List ℕ → Entry → List ℕ
item_url base e = catalog.catalog_url base (catalog.leaf_name e.number e.place)

-- what is told of a version, in byte order
abbrev pub entry_slots : List ℕ → List ℕ → Entry → List Slot
entry_slots base root e =
    let m = e.details.meta in
    always (codes "@id") (string (item_url base e))
    ∷ maybe (codes "authors") (text_if m.authors)
    ∷ maybe (codes "dependencyGroups") (array_if (map (entry_group_data root) m.groups))
    ∷ maybe (codes "description") (text_if m.description)
    ∷ maybe (codes "iconUrl") (text_if m.icon_url)
    ∷ always (codes "id") (string m.id.text)
    ∷ maybe (codes "licenseUrl") (text_if m.license_url)
    ∷ always (codes "listed") (boolean e.details.listed)
    ∷ maybe (codes "minClientVersion") (text_if m.min_client)
    ∷ maybe (codes "projectUrl") (text_if m.project_url)
    ∷ always (codes "published") (string (published_text e.details))
    ∷ maybe (codes "requireLicenseAcceptance") (option_map boolean m.require_license)
    ∷ maybe (codes "summary") (text_if m.summary)
    ∷ maybe (codes "tags") (array_if (map string m.tags))
    ∷ maybe (codes "title") (text_if m.title)
    ∷ always (codes "version") (string (full_text m.version))
    ∷ []

-- a catalog entry as an object
abbrev pub reg_entry_data : List ℕ → List ℕ → Entry → Data
reg_entry_data base root e = object (present (entry_slots base root e))

-- the members that are always there, as they are put
abbrev pub standing_slots : List ℕ → Details → List Slot
standing_slots url d =
    always (codes "@id") (string url)
    ∷ always (codes "id") (string d.meta.id.text)
    ∷ always (codes "listed") (boolean d.listed)
    ∷ always (codes "published") (string (published_text d))
    ∷ always (codes "version") (string (full_text d.meta.version))
    ∷ []

-- what is told in words
abbrev pub wording_slots : Meta → List Slot
wording_slots m =
    maybe (codes "authors") (text_if m.authors)
    ∷ maybe (codes "description") (text_if m.description)
    ∷ maybe (codes "summary") (text_if m.summary)
    ∷ maybe (codes "title") (text_if m.title)
    ∷ []

-- tags and dependencies
abbrev pub array_slots : List ℕ → Meta → List Slot
array_slots root m =
    maybe (codes "tags") (array_if (map string m.tags)) ∷ maybe (codes "dependencyGroups") (array_if (map (entry_group_data root) m.groups)) ∷ []
