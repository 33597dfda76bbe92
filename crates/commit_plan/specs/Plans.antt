-- What a commit is planned from, and where its rows go.
use Rattle.std.specs.Prelude.{◌≡◌, ℕ, suc, max, ◌+◌, ◌-◌, List, [], ◌∷◌, ◌++◌, length, take, Bool, true, false, nat_le, Option, None, Some, ⊤}
use Rattle.nuget_version.specs.declared.version.Version.{Version}
use Rattle.package_id.specs.declared.id.PackageId.{PackageId}
use Rattle.blob_store.specs.declared.call.Call.{Call}
use Rattle.blob_store.specs.declared.call.Call.TheVariants.{Put}
use Rattle.pkg_meta.specs.Catalog.{Catalog}
use Rattle.pkg_meta.specs.Items.{published}
use Rattle.pkg_meta.specs.Lawful.{Placed, newest, relisted}
use Rattle.pkg_meta.specs.declared.item.Details.{Details}
use Rattle.pkg_meta.specs.declared.item.Item.{Item}
use Rattle.pkg_meta.specs.declared.item.Item.TheVariants as the
use Rattle.catalog_doc.specs.CatDocs.{all_rows, heads_of, last_page, page_room, pages_of}
use Rattle.catalog_doc.specs.Commits.{last_changed, live_details}
use Rattle.catalog_doc.specs.Documents.{head_of, index_text, page_text}
use Rattle.catalog_doc.specs.Hash.{hash_text}
use Rattle.catalog_doc.specs.Names.{index_name, page_name}
use Rattle.catalog_doc.specs.Verdict.{has_listing, last_number_of}
use Rattle.catalog_doc.specs.declared.change.Change.{Change}
use Rattle.catalog_doc.specs.declared.change.Change.TheVariants.{Publish, Unlist, Relist, Delete}
use Rattle.catalog_doc.specs.declared.error.CommitErr.{CommitErr}
use Rattle.catalog_doc.specs.declared.error.CommitErr.TheVariants as the_error
use Rattle.catalog_doc.specs.declared.head.PageHead.{PageHead}
use Rattle.catalog_doc.specs.declared.row.Row.{Row}
use Rattle.commit_plan.specs.declared.last.LastItem.{LastItem}
use Rattle.commit_plan.specs.declared.last.LastItem.TheVariants as the_last

-- the number and the details of a version's last item, which doesn't say that the version was deleted
abbrev pub IsListingOf : Option Placed → LastItem → Type 0
IsListingOf last the_last.Unneeded = ⊥
IsListingOf last (the_last.Listing number details) = (last_number_of last ≡ number) × (live_details last ≡ Some details)
IsListingOf last (the_last.Written id version) = ⊥

-- its id and its version
abbrev pub IsWrittenOf : Option Placed → LastItem → Type 0
IsWrittenOf last the_last.Unneeded = ⊥
IsWrittenOf last (the_last.Listing number details) = ⊥
IsWrittenOf last (the_last.Written id version) = (d : Details) × (live_details last ≡ Some d) × (d.meta.id ≡ id) × (d.meta.version ≡ version)

-- what a change needs of its version's last item is known
abbrev pub IsKnownFor : Catalog → Change → LastItem → Type 0
IsKnownFor cs (Publish meta nuspec nupkg) last = ⊤
IsKnownFor cs (Unlist i v) last = IsListingOf (last_changed cs (Unlist i v)) last
IsKnownFor cs (Relist i v) last = IsListingOf (last_changed cs (Relist i v)) last
IsKnownFor cs (Delete i v) last = IsWrittenOf (last_changed cs (Delete i v)) last

-- of each change
abbrev pub AreKnownFor : Catalog → List Change → List LastItem → Type 0
AreKnownFor cs [] [] = ⊤
AreKnownFor cs [] (last ∷ lasts) = ⊥
AreKnownFor cs (change ∷ changes) [] = ⊥
AreKnownFor cs (change ∷ changes) (last ∷ lasts) = IsKnownFor cs change last × AreKnownFor cs changes lasts

-- what is known of a catalog: the rows of its last page, what its index says, and the last items of the versions that changes are of
pub record IsKnownOf (cs : Catalog) (changes : List Change) (page : List Row) (heads : List PageHead) (known : List LastItem) : Type 0 where
  pub rows : page ≡ all_rows (last_page (pages_of cs))
  pub pages : heads ≡ heads_of cs
  pub lasts : AreKnownFor cs changes known

-- the number and the stamp of a commit onto a catalog, on a clock that shows now
pub record IsNumberedAfter (cs : Catalog) (now n moment : ℕ) : Type 0 where
  pub number : n ≡ length cs + 1
  pub stamp : moment ≡ max now (newest cs + 1)

-- the refusal of a change at a place whose version has the listing that is wanted, by what is known of the version's last item
abbrev pub has_listing_by : ℕ → Bool → LastItem → Option CommitErr
has_listing_by place wanted the_last.Unneeded = None
has_listing_by place wanted (the_last.Listing number details) = has_listing place number wanted (Some details)
has_listing_by place wanted (the_last.Written id version) = None

-- a refusal of this place for a listing that the version has
abbrev pub IsAlreadyAt : ℕ → CommitErr → Type 0
IsAlreadyAt place (the_error.Already at number) = at ≡ place
IsAlreadyAt place error = ⊥

-- the item of a change of listing, by what is known of the version's last item; a delete where that has no details
abbrev pub relisted_by : PackageId → Version → LastItem → Item
relisted_by i v the_last.Unneeded = the.Gone i v
relisted_by i v (the_last.Listing number details) = the.Details (relisted details)
relisted_by i v (the_last.Written id version) = the.Gone i v

-- the item of a delete
abbrev pub deleted_by : PackageId → Version → LastItem → Item
deleted_by i v the_last.Unneeded = the.Gone i v
deleted_by i v (the_last.Listing number details) = the.Gone i v
deleted_by i v (the_last.Written id version) = the.Gone id version

-- the item that a change makes at a place
abbrev pub made_by : ℕ → ℕ → ℕ → LastItem → Change → Item
made_by number stamp place last (Publish meta nuspec nupkg) = the.Details (published meta number place stamp (length nupkg) (hash_text nupkg))
made_by number stamp place last (Unlist i v) = relisted_by i v last
made_by number stamp place last (Relist i v) = relisted_by i v last
made_by number stamp place last (Delete i v) = deleted_by i v last

-- the items that changes make at these places on
abbrev pub made_with : ℕ → ℕ → ℕ → List LastItem → List Change → List Item
made_with number stamp place lasts [] = []
made_with number stamp place [] (change ∷ changes) = []
made_with number stamp place (last ∷ lasts) (change ∷ changes) =
    made_by number stamp place last change ∷ made_with number stamp (suc place) lasts changes

-- whether there is a last page, and it has room for so many rows more
abbrev pub fits_last_page : List Row → List PageHead → ℕ → Bool
fits_last_page rows [] count = false
fits_last_page rows (head ∷ pages) count = nat_le (length rows + count) page_room

-- the rows before those of a commit on its page
abbrev pub kept_rows : Bool → List Row → List Row
kept_rows true rows = rows
kept_rows false rows = []

-- the heads of the pages before that page
abbrev pub kept_heads : Bool → List PageHead → List PageHead
kept_heads true pages = take (length pages - 1) pages
kept_heads false pages = pages

-- the puts of a page of these rows and of the index, where these are the heads of the pages before it
abbrev pub last_puts : List ℕ → List PageHead → List Row → List Call
last_puts base heads rows =
    Put (page_name (length heads)) (page_text base (length heads) rows) ∷ Put index_name (index_text base (heads ++ head_of rows ∷ [])) ∷ []
