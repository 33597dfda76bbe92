-- The content documents: Microsoft Learn, "Package Content". The list of versions, and for each version its package and its manifest.
use Rattle.std.specs.Prelude.{ℕ, List, [], ◌∷◌, map, flat_map, codes, Bool, true, false}
use Rattle.serde_json.specs.Data.{Data, string, array, object, member, no_members}
use Rattle.serde_json.specs.View.{items_of}
use Rattle.serde_json.specs.Written.{compact_text}
use Rattle.pkg_meta.specs.declared.item.Details.{Details}
use Rattle.fold_core.specs.Docs.{id_index_name}
use Rattle.pkg_meta.specs.Entries.{key_in}
use Rattle.fold_core.specs.declared.doc.Body.{Body}
use Rattle.fold_core.specs.declared.doc.Body.TheVariants.{Made, Staged as FromPublish}
use Rattle.fold_core.specs.declared.doc.Doc.{Doc}
use Rattle.pkg_meta.specs.declared.entry.Entry.{Entry}
use Rattle.flat_container.specs.Names.{content_package_name, content_manifest_name}

-- every version is served, the unlisted too
abbrev pub keeps_all : Details → Bool
keeps_all d = true

-- that key as JSON
abbrev pub version_data : Entry → Data
version_data e = string (key_in e)

-- the list of versions
abbrev pub content_index_object : List Data → Data
content_index_object versions = object (member (codes "versions") (array (items_of versions)) no_members)

-- the list of the versions' keys, by rising precedence
unfoldable pub index_text : List Entry → List ℕ
index_text es = compact_text (content_index_object (map version_data es))

-- the id's index
abbrev pub index_doc : List ℕ → List Entry → Doc
index_doc key es = record { name = id_index_name key; body = Made (index_text es) }

-- what the publish at the entry's origin brought
abbrev pub brought : Bool → Entry → Body
brought nuspec e = FromPublish e.details.origin_number e.details.origin_place nuspec

-- the package of a version
abbrev pub package_doc : List ℕ → Entry → Doc
package_doc key e = record { name = content_package_name key (key_in e); body = brought false e }

-- the manifest of a version
abbrev pub manifest_doc : List ℕ → Entry → Doc
manifest_doc key e = record { name = content_manifest_name key (key_in e); body = brought true e }

-- both of them
abbrev pub file_docs : List ℕ → Entry → List Doc
file_docs key e = package_doc key e ∷ manifest_doc key e ∷ []

-- none for no entries
abbrev pub content_docs : List ℕ → List ℕ → ℕ → ℕ → List Entry → List Doc
content_docs base key number stamp [] = []
content_docs base key number stamp (e ∷ es) = index_doc key (e ∷ es) ∷ flat_map (file_docs key) (e ∷ es)
