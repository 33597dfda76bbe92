-- How what changes need of last items is looked up in a catalog's area, and why changes are refused.
use Rattle.std.specs.Prelude.{◌≡◌, ◌⊎◌, ℕ, suc, List, [], flat_map, take, Option, None, Some, Result, ⊤}
use Rattle.std.specs.declared.result.Result.TheVariants.{Ok, Err}
use Rattle.nuget_version.specs.Printed.{key_text}
use Rattle.blob_store.specs.Area.{Area}
use Rattle.blob_store.specs.Events.{Act}
use Rattle.blob_store.specs.Plans.{Makes, MakesSome, StopsAt}
use Rattle.blob_store.specs.Seen.{Seen}
use Rattle.blob_store.specs.declared.error.BlobErr.TheVariants as blob
use Rattle.pkg_meta.specs.Catalog.{Catalog}
use Rattle.pkg_meta.specs.Lawful.{Placed}
use Rattle.pkg_meta.specs.declared.item.Details.{Details}
use Rattle.pkg_meta.specs.declared.item.Item.{Item}
use Rattle.pkg_meta.specs.declared.item.Item.TheVariants as the
use Rattle.catalog_doc.specs.Catalogs.{IsCatalog}
use Rattle.catalog_doc.specs.Commits.{last_changed}
use Rattle.catalog_doc.specs.declared.change.Change.{Change}
use Rattle.catalog_doc.specs.declared.change.Change.TheVariants.{Publish, Unlist, Relist, Delete}
use Rattle.catalog_doc.specs.declared.error.CommitErr.{CommitErr}
use Rattle.catalog_doc.specs.declared.error.CommitErr.TheVariants.{Already, Damaged, Fault, Memory}
use Rattle.catalog_doc.specs.declared.row.Row.{Row}
use Rattle.catalog_opening.specs.Openings.{IsStoreOf}
use Rattle.catalog_opening.specs.declared.error.ReadErr.{ReadErr}
use Rattle.catalog_opening.specs.declared.error.ReadErr.TheVariants as read
use Rattle.catalog_rows.specs.Kept.{IsKeptOf, Kept}
use Rattle.catalog_rows.specs.Last.{last_row}
use Rattle.catalog_items.specs.Leaves.{IsNoLeafOf, leaf_gets}
use Rattle.commit_plan.specs.declared.last.LastItem.{LastItem}
use Rattle.commit_plan.specs.declared.last.LastItem.TheVariants as the_last

-- what is kept is of the catalog, which the store's area spells
pub record IsKnown (kept : Kept) (s : Seen) (base : List ℕ) (cs : Catalog) : Type 0 where
  pub lawful : IsCatalog cs
  pub keeps : IsKeptOf kept cs
  pub store : IsStoreOf s base cs

-- the last item of a version is of details
abbrev pub IsOfSome : Option Placed → Type 0
IsOfSome last = (x : Placed) × (d : Details) × (last ≡ Some x) × (x.what ≡ the.Details d)

-- the version of a change is there, where the change is no publish
abbrev pub IsLive : Catalog → Change → Type 0
IsLive cs (Publish meta nuspec nupkg) = ⊤
IsLive cs (Unlist i v) = IsOfSome (last_changed cs (Unlist i v))
IsLive cs (Relist i v) = IsOfSome (last_changed cs (Relist i v))
IsLive cs (Delete i v) = IsOfSome (last_changed cs (Delete i v))

-- what a change of listing needs of this item
abbrev pub listing_in : ℕ → Item → LastItem
listing_in number (the.Details d) = the_last.Listing number d
listing_in number (the.Gone i v) = the_last.Unneeded

-- what a commit answers for what a read told
abbrev pub commit_err_for : ReadErr → CommitErr
commit_err_for (read.Damaged name) = Damaged name
commit_err_for read.Fault = Fault
commit_err_for read.Memory = Memory

-- A refusal is for this reason. The store may fail, and memory may run out; nothing is told as damaged.
abbrev pub IsRefusalFor : Option CommitErr → CommitErr → Type 0
IsRefusalFor reason Fault = ⊤
IsRefusalFor reason (Damaged name) = ⊥
IsRefusalFor reason Memory = ⊤
IsRefusalFor reason error = reason ≡ Some error

-- there is no reason to refuse, or the refusal is for the reason
abbrev pub RefusesFor : {A : Type 0} → Option CommitErr → Result A CommitErr → Type 0
RefusesFor reason (Ok a) = reason ≡ None
RefusesFor reason (Err error) = IsRefusalFor reason error

-- the get that a change needs: of the leaf of its version's last row, where it is a change of listing
abbrev pub gets_for : List Row → Change → List Act
gets_for rows (Publish meta nuspec nupkg) = []
gets_for rows (Unlist i v) = leaf_gets (last_row i.key (key_text v) rows)
gets_for rows (Relist i v) = leaf_gets (last_row i.key (key_text v) rows)
gets_for rows (Delete i v) = []

-- those of changes, in the order of their places
abbrev pub listing_gets : List Row → List Change → List Act
listing_gets rows changes = flat_map (gets_for rows) changes

-- What a look at one change made of its gets, where the change stands at this place: all of them, where its version has
-- the listing that is wanted; up to a call that failed; or up to a leaf that is damaged, or to where memory ran out.
abbrev pub HaltsAtOne : ℕ → List Act → CommitErr → Seen → Seen → Type 0
HaltsAtOne place gets (Already at number) old new = (at ≡ place) × Makes gets old new
HaltsAtOne place gets Fault old new = StopsAt gets blob.Failed old new
HaltsAtOne place gets (Damaged name) old new = MakesSome gets old new
HaltsAtOne place gets Memory old new = StopsAt gets blob.Memory old new ⊎ MakesSome gets old new
HaltsAtOne place gets error old new = ⊥

-- its gets were made as its result tells
abbrev pub LooksAtOne : {A : Type 0} → ℕ → List Act → Seen → Seen → Result A CommitErr → Type 0
LooksAtOne place gets old new (Ok a) = Makes gets old new
LooksAtOne place gets old new (Err error) = HaltsAtOne place gets error old new

-- The gets before a refusal: those up to the place of a version that has the listing that is wanted, and none for another.
abbrev pub refused_gets : List Row → List Change → CommitErr → List Act
refused_gets rows changes (Already place number) = listing_gets rows (take (suc place) changes)
refused_gets rows changes error = []

-- what changes that were refused with this error made of the gets that they need
abbrev pub HaltsLooking : List Row → List Change → CommitErr → Seen → Seen → Type 0
HaltsLooking rows changes Fault old new = StopsAt (listing_gets rows changes) blob.Failed old new
HaltsLooking rows changes (Damaged name) old new = MakesSome (listing_gets rows changes) old new
HaltsLooking rows changes Memory old new = StopsAt (listing_gets rows changes) blob.Memory old new ⊎ MakesSome (listing_gets rows changes) old new
HaltsLooking rows changes error old new = Makes (refused_gets rows changes error) old new

-- the gets of changes were made as the result tells
abbrev pub RunsLooking : {A : Type 0} → List Row → List Change → Seen → Seen → Result A CommitErr → Type 0
RunsLooking rows changes old new (Ok a) = Makes (listing_gets rows changes) old new
RunsLooking rows changes old new (Err error) = HaltsLooking rows changes error old new

-- the leaf of a version's last row isn't held, or is no leaf of an item of that row
abbrev pub IsLastDamaged : Area → List ℕ → List Row → List ℕ → Type 0
IsLastDamaged m base rows damaged = (id version : List ℕ) × (row : Row) × (last_row id version rows ≡ Some row) × IsNoLeafOf m base row damaged

-- what holds of the name of a damaged blob, where the refusal tells one
abbrev pub IfDamagedRefusal : CommitErr → (List ℕ → Type 0) → Type 0
IfDamagedRefusal (Damaged name) P = P name
IfDamagedRefusal error P = ⊤

-- the same of a result
abbrev pub IfDamagedCommit : {A : Type 0} → Result A CommitErr → (List ℕ → Type 0) → Type 0
IfDamagedCommit (Ok a) P = ⊤
IfDamagedCommit (Err error) P = IfDamagedRefusal error P
