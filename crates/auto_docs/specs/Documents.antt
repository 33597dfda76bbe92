-- The auto documents, this project's own: of each id with a listed version, the id and these versions, for autocompletion (Microsoft Learn, "Autocomplete").
use Rattle.std.specs.Prelude.{ℕ, List, [], ◌∷◌, map, codes, Bool}
use Rattle.serde_json.specs.Data.{Data, string, array, object, member, no_members}
use Rattle.serde_json.specs.View.{items_of}
use Rattle.serde_json.specs.Written.{compact_text}
use Rattle.nuget_version.specs.Printed.{full_text}
use Rattle.pkg_meta.specs.declared.item.Details.{Details}
use Rattle.pkg_meta.specs.declared.entry.Entry.{Entry}
use Rattle.pkg_meta.specs.Entries.{version_in}
use Rattle.fold_core.specs.Docs.{id_index_name}
use Rattle.fold_core.specs.declared.doc.Body.TheVariants.{Made}
use Rattle.fold_core.specs.declared.doc.Doc.{Doc}

-- a version is told of where it is listed
abbrev pub keeps_listed : Details → Bool
keeps_listed d = d.listed

-- the full form of an entry's version, as JSON
abbrev pub auto_version_data : Entry → Data
auto_version_data e = string (full_text (version_in e))

-- the id as the last entry spells it, empty for no entries
abbrev pub last_id : List Entry → List ℕ
last_id [] = []
last_id (e ∷ []) = e.details.meta.id.text
last_id (e ∷ f ∷ es) = last_id (f ∷ es)

-- an id and versions
abbrev pub auto_index_object : List ℕ → List Data → Data
auto_index_object id versions = object
    (member (codes "id") (string id)
    (member (codes "versions") (array (items_of versions))
    no_members))

-- the last entry's id, and the full forms of the versions, by rising precedence
unfoldable pub index_text : List Entry → List ℕ
index_text es = compact_text (auto_index_object (last_id es) (map auto_version_data es))

-- the id's index
abbrev pub auto_index_doc : List ℕ → List Entry → Doc
auto_index_doc key es = record { name = id_index_name key; body = Made (index_text es) }

-- none for no entries
abbrev pub auto_docs : List ℕ → List ℕ → ℕ → ℕ → List Entry → List Doc
auto_docs base key number stamp [] = []
auto_docs base key number stamp (e ∷ es) = auto_index_doc key (e ∷ es) ∷ []
