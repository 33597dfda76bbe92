-- Commits: their numbers and stamps, what changes make of a catalog, and the puts of a commit.
use Rattle.std.specs.Prelude.{ℕ, suc, max, ◌+◌, ◌-◌, List, [], ◌∷◌, ◌++◌, length, map, Option, Some, None}
use Rattle.nuget_version.specs.Printed.{key_text}
use Rattle.nuget_version.specs.declared.version.Version.{Version}
use Rattle.package_id.specs.declared.id.PackageId.{PackageId}
use Rattle.blob_store.specs.declared.call.Call.{Call}
use Rattle.blob_store.specs.declared.call.Call.TheVariants.{Put}
use Rattle.pkg_meta.specs.Catalog.{Catalog}
use Rattle.pkg_meta.specs.declared.commit.Staged.{Staged}
use Rattle.pkg_meta.specs.declared.commit.Stored.{Stored}
use Rattle.pkg_meta.specs.Items.{published}
pub use Rattle.pkg_meta.specs.Lawful.{newest}
use Rattle.pkg_meta.specs.Lawful.{Placed, all_placed, last_of, relisted}
use Rattle.pkg_meta.specs.declared.item.Details.{Details}
use Rattle.pkg_meta.specs.declared.item.Item.{Item}
use Rattle.pkg_meta.specs.declared.item.Item.TheVariants as the
use Rattle.catalog_doc.specs.CatDocs.{all_rows, heads_of, last_page, pages_of}
use Rattle.catalog_doc.specs.Documents.{index_text, leaf_text, page_text}
use Rattle.catalog_doc.specs.Hash.{hash_text}
use Rattle.catalog_doc.specs.Names.{index_name, leaf_name, nupkg_name, nuspec_name, page_name}
use Rattle.catalog_doc.specs.declared.change.Change.{Change}
use Rattle.catalog_doc.specs.declared.change.Change.TheVariants.{Publish, Unlist, Relist, Delete}

-- the package that a change speaks of
abbrev pub changed_id : Change → PackageId
changed_id (Publish meta nuspec nupkg) = meta.id
changed_id (Unlist i v) = i
changed_id (Relist i v) = i
changed_id (Delete i v) = i

-- the version that it speaks of
abbrev pub changed_version : Change → Version
changed_version (Publish meta nuspec nupkg) = meta.version
changed_version (Unlist i v) = v
changed_version (Relist i v) = v
changed_version (Delete i v) = v

-- the last item of the version that a change speaks of
abbrev pub last_changed : Catalog → Change → Option Placed
last_changed cs change = last_of (changed_id change).key (key_text (changed_version change)) (all_placed cs)

-- an item's details, none of a delete
abbrev pub details_of : Item → Option Details
details_of (the.Details d) = Some d
details_of (the.Gone i v) = None

-- the details of a last item
abbrev pub live_details : Option Placed → Option Details
live_details None = None
live_details (Some last) = details_of last.what

-- the details with the other listing; where there are none the version is gone
abbrev pub relisted_item : PackageId → Version → Option Details → Item
relisted_item i v (Some d) = the.Details (relisted d)
relisted_item i v None = the.Gone i v

-- the delete of a version, with the texts that its details have
abbrev pub deleted_item : PackageId → Version → Option Details → Item
deleted_item i v (Some d) = the.Gone d.meta.id d.meta.version
deleted_item i v None = the.Gone i v

-- the item that a change makes at a place, of a version that has these details
abbrev pub made_of : ℕ → ℕ → ℕ → Option Details → Change → Item
made_of number stamp place old (Publish meta nuspec nupkg) = the.Details (published meta number place stamp (length nupkg) (hash_text nupkg))
made_of number stamp place old (Unlist i v) = relisted_item i v old
made_of number stamp place old (Relist i v) = relisted_item i v old
made_of number stamp place old (Delete i v) = deleted_item i v old

-- the items that changes make of a catalog at these places on
abbrev pub made_from : Catalog → ℕ → ℕ → ℕ → List Change → List Item
made_from cs number stamp place [] = []
made_from cs number stamp place (change ∷ changes) =
    made_of number stamp place (live_details (last_changed cs change)) change ∷ made_from cs number stamp (suc place) changes

-- the manifest and the package that a change brings
abbrev pub staged_of : Change → Option Staged
staged_of (Publish meta nuspec nupkg) = Some (record { nuspec = nuspec; nupkg = nupkg })
staged_of (Unlist i v) = None
staged_of (Relist i v) = None
staged_of (Delete i v) = None

-- the commit of this number and stamp that these changes make of a catalog
abbrev pub commit_at : Catalog → ℕ → ℕ → List Change → Stored
commit_at cs number stamp changes = record {
  commit = record { number = number; stamp = stamp; items = made_from cs number stamp 0 changes };
  staged = map staged_of changes;
}

-- the commit that these changes make of a catalog, on a clock that shows now: its number follows the last one,
-- and its stamp is the clock's moment where that is above the last stamp, else the last stamp plus one
abbrev pub made : Catalog → List Change → ℕ → Stored
made cs changes now = commit_at cs (length cs + 1) (max now (newest cs + 1)) changes

-- the puts of a publish's package and manifest
abbrev pub staged_puts : ℕ → ℕ → Option Staged → List Call
staged_puts number place None = []
staged_puts number place (Some s) = Put (nupkg_name number place) s.nupkg ∷ Put (nuspec_name number place) s.nuspec ∷ []

-- place by place: the package and the manifest of a publish, then the leaf
abbrev pub place_puts : List ℕ → ℕ → ℕ → ℕ → List Item → List (Option Staged) → List Call
place_puts base number stamp place [] staged = []
place_puts base number stamp place (it ∷ items) [] =
    Put (leaf_name number place) (leaf_text base number place stamp it) ∷ place_puts base number stamp (suc place) items []
place_puts base number stamp place (it ∷ items) (s ∷ staged) =
    staged_puts number place s ++ Put (leaf_name number place) (leaf_text base number place stamp it) ∷ place_puts base number stamp (suc place) items staged

-- the put of the catalog's last page
abbrev pub page_put : List ℕ → Catalog → Call
page_put base cs = Put (page_name (length (pages_of cs) - 1)) (page_text base (length (pages_of cs) - 1) (all_rows (last_page (pages_of cs))))

-- the put of the index that a catalog has
abbrev pub index_put : List ℕ → Catalog → Call
index_put base cs = Put index_name (index_text base (heads_of cs))

-- the puts that add a commit to a catalog, in order: its places, then the page that decides, then the index
abbrev pub commit_puts : List ℕ → Catalog → Stored → List Call
commit_puts base cs c =
    place_puts base c.commit.number c.commit.stamp 0 c.commit.items c.staged
    ++ page_put base (cs ++ c ∷ []) ∷ index_put base (cs ++ c ∷ []) ∷ []
