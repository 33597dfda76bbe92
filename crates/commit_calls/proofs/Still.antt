-- Gets, and puts of the catalog's index: calls that meet their conditions and leave the catalog as it is.
use Rattle.std.proofs.Common.{◌≡◌, inl, inr, ℕ, zero, suc, List, [], ◌∷◌, ◌++◌, Bool, true, false, if◌then◌else◌, Option, None, Some, refl, sym, subst}
use Rattle.blob_store.specs.Area.{Area}
use Rattle.blob_store.specs.Events.{Act, Get, Change, Event, Fate, after_event}
use Rattle.blob_store.specs.Plans.{Makes, MakesSome, StopsAt, all_done}
use Rattle.blob_store.specs.Seen.{Seen}
use Rattle.blob_store.specs.Steps.{after_plan}
use Rattle.blob_store.specs.declared.call.Call.TheVariants.{Put, Remove}
use Rattle.blob_store.specs.declared.error.BlobErr.{BlobErr}
use Rattle.pkg_meta.specs.Catalog.{Catalog}
use Rattle.catalog_doc.specs.Commits.{index_put}
use Rattle.catalog_doc.specs.Events.{IsIndexPut}
use Rattle.catalog_doc.specs.declared.change.Change.{Change as OneChange}
use Rattle.catalog_doc.specs.declared.change.Change.TheVariants.{Publish, Unlist, Relist, Delete}
use Rattle.catalog_doc.specs.declared.row.Row.{Row}
use Rattle.catalog_opening.specs.Plans.{last_gets, page_gets}
use Rattle.catalog_items.specs.Leaves.{leaf_gets}
use Rattle.commit_plan.specs.Lookups.{gets_for, listing_gets}
use Rattle.nuget_version.specs.Printed.{key_text}
use Rattle.catalog_rows.specs.Last.{last_row}
use Rattle.feed_laws.specs.Calls.{CallsMeetOnCatalog, MeetAllOnCatalog, MeetsOnCatalog}
use Rattle.feed_laws.specs.Happenings.{took}

same_if : (b : Bool) (cs : Catalog) → (if b then cs else cs) ≡ cs
same_if true cs = refl
same_if false cs = refl

module _ (base : List ℕ) (cs : Catalog) where
  abbrev pub IsStill : Act → Type 0
  IsStill (Get name) = Unit {0}
  IsStill (Change (Put name bytes)) = IsIndexPut base cs name bytes
  IsStill (Change (Remove name)) = ⊥

  abbrev pub AreStill : List Act → Type 0
  AreStill [] = Unit {0}
  AreStill (act ∷ acts) = IsStill act × AreStill acts

  abbrev WereStill : List Event → Type 0
  WereStill [] = Unit {0}
  WereStill (e ∷ es) = IsStill e.act × WereStill es

  still_meets : (act : Act) (m : Area) → IsStill act → MeetsOnCatalog base cs m act cs
  still_meets (Get name) m is = refl
  still_meets (Change (Put name bytes)) m is = inr (inl (is, refl))
  still_meets (Change (Remove name)) m is = absurd is

  still_meet : (es : List Event) (m : Area) → WereStill es → MeetAllOnCatalog base cs m es cs
  still_meet [] m are = refl
  still_meet (e ∷ es) m are = (
    cs,
    still_meets e.act m are.0,
    subst (λ (ds : Catalog). MeetAllOnCatalog base ds (after_event e m) es cs) (sym (same_if (took e.fate) cs)) (still_meet es (after_event e m) are.1),
  )

  were_still : (acts : List Act) → AreStill acts → WereStill (all_done acts)
  were_still [] are = tt
  were_still (act ∷ acts) are = (are.0, were_still acts are.1)

  front_still : (xs ys : List Act) → AreStill (xs ++ ys) → AreStill xs
  front_still [] ys are = tt
  front_still (x ∷ xs) ys are = (are.0, front_still xs ys are.1)

  ended_still : (xs : List Act) (x : Act) (ys : List Act) (fate : Fate) → AreStill (xs ++ x ∷ ys) → WereStill (all_done xs ++ (record { act = x; fate = fate }) ∷ [])
  ended_still [] x ys fate are = (are.0, tt)
  ended_still (w ∷ xs) x ys fate are = (are.0, ended_still xs x ys fate are.1)

  pub still_joined : (xs ys : List Act) → AreStill xs → AreStill ys → AreStill (xs ++ ys)
  still_joined [] ys a b = b
  still_joined (x ∷ xs) ys a b = (a.0, still_joined xs ys a.1 b)

  pub all_meet : (plan : List Act) (m : Area) → AreStill plan → MeetAllOnCatalog base cs m (all_done plan) cs
  all_meet plan m are = still_meet (all_done plan) m (were_still plan are)

  module _ (plan : List Act) (m : Area) (are : AreStill plan) (old new : Seen) where
    pub made_still : Makes plan old new → CallsMeetOnCatalog base cs m old new cs
    made_still made = (all_done plan, made, all_meet plan m are)

    pub some_still : MakesSome plan old new → CallsMeetOnCatalog base cs m old new cs
    some_still (first, unmade, planned, made) =
        (all_done first, made, all_meet first m (front_still first unmade (subst AreStill planned are)))

    pub stop_still : (error : BlobErr) → StopsAt plan error old new → CallsMeetOnCatalog base cs m old new cs
    stop_still error (events, ends, tracked) = (
      events,
      tracked,
      still_meet events m (subst WereStill (sym ends.made) (ended_still ends.first ends.last ends.unmade ends.fate (subst AreStill ends.planned are))),
    )

  -- the gets of pages and of leaves
  pub page_gets_still : (k n : ℕ) → AreStill (page_gets k n)
  page_gets_still k zero = tt
  page_gets_still k (suc n) = (tt, page_gets_still (suc k) n)

  pub last_gets_still : (n : ℕ) → AreStill (last_gets n)
  last_gets_still zero = page_gets_still 0 1
  last_gets_still (suc k) = page_gets_still k 2

  leaf_still : (o : Option Row) → AreStill (leaf_gets o)
  leaf_still None = tt
  leaf_still (Some row) = (tt, tt)

  for_still : (rows : List Row) (change : OneChange) → AreStill (gets_for rows change)
  for_still rows (Publish meta nuspec nupkg) = tt
  for_still rows (Unlist i v) = leaf_still (last_row i.key (key_text v) rows)
  for_still rows (Relist i v) = leaf_still (last_row i.key (key_text v) rows)
  for_still rows (Delete i v) = tt

  pub listing_still : (rows : List Row) (changes : List OneChange) → AreStill (listing_gets rows changes)
  listing_still rows [] = tt
  listing_still rows (change ∷ changes) = still_joined (gets_for rows change) (listing_gets rows changes) (for_still rows change) (listing_still rows changes)

  -- the index's put behind gets
  pub index_still : (gets : List Act) → AreStill gets → AreStill (gets ++ Change (index_put base cs) ∷ [])
  index_still gets are = still_joined gets (Change (index_put base cs) ∷ []) are ((refl, refl), tt)

-- gets leave the area as it is
abbrev pub AreGets : List Act → Type 0
AreGets [] = Unit {0}
AreGets (Get name ∷ plan) = AreGets plan
AreGets (Change call ∷ plan) = ⊥

pub gets_leave : (plan : List Act) (m : Area) → AreGets plan → after_plan plan m ≡ m
gets_leave [] m gets = refl
gets_leave (Get name ∷ plan) m gets = gets_leave plan m gets
gets_leave (Change call ∷ plan) m gets = absurd gets

page_gets_are : (k n : ℕ) → AreGets (page_gets k n)
page_gets_are k zero = tt
page_gets_are k (suc n) = page_gets_are (suc k) n

pub last_gets_are : (n : ℕ) → AreGets (last_gets n)
last_gets_are zero = page_gets_are 0 1
last_gets_are (suc k) = page_gets_are k 2

gets_joined : (xs ys : List Act) → AreGets xs → AreGets ys → AreGets (xs ++ ys)
gets_joined [] ys a b = b
gets_joined (Get name ∷ xs) ys a b = gets_joined xs ys a b
gets_joined (Change call ∷ xs) ys a b = absurd a

leaf_are : (o : Option Row) → AreGets (leaf_gets o)
leaf_are None = tt
leaf_are (Some row) = tt

for_are : (rows : List Row) (change : OneChange) → AreGets (gets_for rows change)
for_are rows (Publish meta nuspec nupkg) = tt
for_are rows (Unlist i v) = leaf_are (last_row i.key (key_text v) rows)
for_are rows (Relist i v) = leaf_are (last_row i.key (key_text v) rows)
for_are rows (Delete i v) = tt

pub listing_are : (rows : List Row) (changes : List OneChange) → AreGets (listing_gets rows changes)
listing_are rows [] = tt
listing_are rows (change ∷ changes) = gets_joined (gets_for rows change) (listing_gets rows changes) (for_are rows change) (listing_are rows changes)
