-- The registration documents as data over an id's entries: Microsoft Learn, "Package metadata".
use Rattle.std.specs.Prelude.{ℕ, List, [], ◌∷◌, ◌++◌, length, map, codes, Bool, if◌then◌else◌}
use Rattle.serde_json.specs.Data.{Data, boolean, string, number, unsigned, array, object, member, no_members}
use Rattle.serde_json.specs.View.{items_of}
use Rattle.serde_json.specs.Written.{compact_text}
use Rattle.nuget_version.specs.Printed.{key_text, normal_text}
use Rattle.ticks.specs.Stamp.{stamp_text}
use Rattle.pkg_meta.specs.Entries.{key_in}
use Rattle.pkg_meta.specs.Trees.{published_text}
use Rattle.pkg_meta.specs.declared.entry.Entry.{Entry}
use Rattle.catalog_doc.specs.Documents.{commit_id}
use Rattle.fold_core.specs.Docs.{id_index_name}
use Rattle.fold_core.specs.declared.doc.Body.TheVariants.{Made}
use Rattle.fold_core.specs.declared.doc.Doc.{Doc}
use Rattle.reg_docs.specs.Addresses.{registration_index_url, inlined_url, registration_leaf_name, registration_leaf_url, package_url, registration_page_name, registration_page_url, root_of}
use Rattle.reg_docs.specs.Entries.{reg_entry_data, item_url}
use Rattle.reg_docs.specs.Pages.{cut, first_in, form_of, is_inlined, last_in}
use Rattle.reg_docs.specs.declared.addresses.RegistrationHive.{RegistrationHive}

-- what a page says of a version: the leaf's address, the catalog entry, and the package's address
abbrev pub listed_object : List ℕ → Data → List ℕ → Data
listed_object url entry content = object
    (member (codes "@id") (string url)
    (member (codes "catalogEntry") entry
    (member (codes "packageContent") (string content)
    no_members)))

-- of an entry
abbrev pub listed_data : List ℕ → List ℕ → List ℕ → Entry → Data
listed_data base root key e = listed_object (registration_leaf_url root key (key_in e)) (reg_entry_data base root e) (package_url base key (key_in e))

-- a page with its versions: how many, and the first and the last of them
abbrev pub registration_page_object : List ℕ → ℕ → List Data → List ℕ → List ℕ → List ℕ → Data
registration_page_object url count listed lower parent upper = object
    (member (codes "@id") (string url)
    (member (codes "count") (number (unsigned count))
    (member (codes "items") (array (items_of listed))
    (member (codes "lower") (string lower)
    (member (codes "parent") (string parent)
    (member (codes "upper") (string upper)
    no_members))))))

-- the page of a run, at an address
abbrev pub registration_page_data : List ℕ → List ℕ → List ℕ → List ℕ → List Entry → Data
registration_page_data url base root key run = registration_page_object url (length run) (map (listed_data base root key) run)
    (form_of normal_text (first_in run)) (registration_index_url root key) (form_of normal_text (last_in run))

-- the address of the page that stands in the index
abbrev pub inlined_at : List ℕ → List ℕ → List Entry → List ℕ
inlined_at root key run = inlined_url root key (form_of key_text (first_in run)) (form_of key_text (last_in run))

-- the address of the page that is stored
abbrev pub stored_at : List ℕ → List ℕ → List Entry → List ℕ
stored_at root key run = registration_page_url root key (form_of key_text (first_in run)) (form_of key_text (last_in run))

-- what the index says of a stored page
abbrev pub registration_head_object : List ℕ → ℕ → List ℕ → List ℕ → Data
registration_head_object url count lower upper = object
    (member (codes "@id") (string url)
    (member (codes "count") (number (unsigned count))
    (member (codes "lower") (string lower)
    (member (codes "upper") (string upper)
    no_members))))

-- of the page of a run
abbrev pub registration_head_data : List ℕ → List ℕ → List Entry → Data
registration_head_data root key run = registration_head_object (stored_at root key run) (length run) (form_of normal_text (first_in run)) (form_of normal_text (last_in run))

-- a page in the index: whole, or its head
abbrev pub in_index : Bool → List ℕ → List ℕ → List ℕ → List Entry → Data
in_index inlined base root key run = if inlined then registration_page_data (inlined_at root key run) base root key run else registration_head_data root key run

-- the pages in the index
abbrev pub pages_data : List ℕ → List ℕ → List ℕ → List Entry → List Data
pages_data base root key es = map (in_index (is_inlined es) base root key) (cut es)

-- an index: its address, the last commit that has an item of the id, the number of pages, and the pages
abbrev pub registration_index_object : List ℕ → List ℕ → List ℕ → ℕ → List Data → Data
registration_index_object url commit stamp count pages = object
    (member (codes "@id") (string url)
    (member (codes "commitId") (string commit)
    (member (codes "commitTimeStamp") (string stamp)
    (member (codes "count") (number (unsigned count))
    (member (codes "items") (array (items_of pages))
    no_members)))))

-- the index of an id whose last item stands in the commit of this number, with its stamp
abbrev pub registration_index_data : List ℕ → List ℕ → List ℕ → ℕ → ℕ → List Entry → Data
registration_index_data base root key touched stamp es = registration_index_object (registration_index_url root key) (commit_id touched) (stamp_text stamp) (length (cut es)) (pages_data base root key es)

-- the leaf document of a version
abbrev pub registration_leaf_object : List ℕ → List ℕ → Bool → List ℕ → List ℕ → List ℕ → Data
registration_leaf_object url entry listed content published registration = object
    (member (codes "@id") (string url)
    (member (codes "catalogEntry") (string entry)
    (member (codes "listed") (boolean listed)
    (member (codes "packageContent") (string content)
    (member (codes "published") (string published)
    (member (codes "registration") (string registration)
    no_members))))))

-- of an entry
abbrev pub registration_leaf_data : List ℕ → List ℕ → List ℕ → Entry → Data
registration_leaf_data base root key e = registration_leaf_object (registration_leaf_url root key (key_in e)) (item_url base e) e.details.listed
    (package_url base key (key_in e)) (published_text e.details) (registration_index_url root key)

-- the documents' bytes
unfoldable pub registration_index_text : List ℕ → List ℕ → List ℕ → ℕ → ℕ → List Entry → List ℕ
registration_index_text base root key touched stamp es = compact_text (registration_index_data base root key touched stamp es)

-- a stored page's bytes
unfoldable pub registration_page_text : List ℕ → List ℕ → List ℕ → List Entry → List ℕ
registration_page_text base root key run = compact_text (registration_page_data (stored_at root key run) base root key run)

-- a leaf's bytes
unfoldable pub registration_leaf_text : List ℕ → List ℕ → List ℕ → Entry → List ℕ
registration_leaf_text base root key e = compact_text (registration_leaf_data base root key e)

-- the id's index
abbrev pub registration_index_doc : List ℕ → List ℕ → List ℕ → ℕ → ℕ → List Entry → Doc
registration_index_doc base root key touched stamp es = record { name = id_index_name key; body = Made (registration_index_text base root key touched stamp es) }

-- a stored page
abbrev pub registration_page_doc : List ℕ → List ℕ → List ℕ → List Entry → Doc
registration_page_doc base root key run = record {
  name = registration_page_name key (form_of key_text (first_in run)) (form_of key_text (last_in run));
  body = Made (registration_page_text base root key run);
}

-- the stored pages, none while the pages stand in the index
abbrev pub registration_page_docs : List ℕ → List ℕ → List ℕ → List Entry → List Doc
registration_page_docs base root key es = if is_inlined es then [] else map (registration_page_doc base root key) (cut es)

-- the leaf of a version
abbrev pub registration_leaf_doc : List ℕ → List ℕ → List ℕ → Entry → Doc
registration_leaf_doc base root key e = record { name = registration_leaf_name key (key_in e); body = Made (registration_leaf_text base root key e) }

-- the index, the stored pages and the leaves, none for no entries
abbrev pub docs_below : List ℕ → List ℕ → List ℕ → ℕ → ℕ → List Entry → List Doc
docs_below base root key touched stamp [] = []
docs_below base root key touched stamp (e ∷ es) =
    registration_index_doc base root key touched stamp (e ∷ es) ∷ (registration_page_docs base root key (e ∷ es) ++ map (registration_leaf_doc base root key) (e ∷ es))

-- the documents of a registration hive
abbrev pub registration_docs : RegistrationHive → List ℕ → List ℕ → ℕ → ℕ → List Entry → List Doc
registration_docs hive base key touched stamp es = docs_below base (root_of base hive) key touched stamp es
