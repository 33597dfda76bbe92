-- What an opening answers, what it calls, and what it leaves.
use Rattle.std.specs.Prelude.{◌≡◌, ◌≢◌, ◌⊎◌, ◌+◌, ℕ, List, [], ◌∷◌, ◌++◌, length, map, Option, Some, IfSome, option_map, Result, Bool, if◌then◌else◌, ⊤}
use Rattle.std.specs.declared.result.Result.TheVariants.{Ok, Err}
use Rattle.std.specs.FinMap.{get}
use Rattle.feed_base.specs.Counts.{CountsFault}
use Rattle.blob_store.specs.Area.{Area, with_blob}
use Rattle.blob_store.specs.Events.{Act, Get, Change}
use Rattle.blob_store.specs.Moments.{LeavesOnly}
use Rattle.blob_store.specs.Plans.{Makes, MakesSome, StopsAt}
use Rattle.blob_store.specs.Seen.{Seen}
use Rattle.blob_store.specs.declared.error.BlobErr.TheVariants as blob
use Rattle.pkg_meta.specs.Catalog.{Catalog}
use Rattle.pkg_meta.specs.declared.commit.Stored.{Stored}
use Rattle.catalog_doc.specs.CatDocs.{heads_of}
use Rattle.catalog_doc.specs.Commits.{index_put}
use Rattle.catalog_doc.specs.Documents.{head_of, index_text}
use Rattle.catalog_doc.specs.Names.{index_name}
use Rattle.catalog_doc.specs.Spelled.{HoldsIndex, SpellsCatalog}
use Rattle.catalog_doc.specs.declared.head.PageHead.{PageHead}
use Rattle.catalog_doc.specs.declared.row.Row.{Row}
use Rattle.catalog_opening.specs.Pages.{IsDamagedIn, IsHeldAs, rows_on}
use Rattle.catalog_opening.specs.Plans.{index_change, page_gets}
use Rattle.catalog_opening.specs.Reads.{IsIndexText, IsNoIndex}
use Rattle.catalog_opening.specs.declared.error.OpenErr.{OpenErr}
use Rattle.catalog_opening.specs.declared.error.OpenErr.TheVariants.{Fault, Missing, Damaged, BaseDiffers, Memory}
use Rattle.catalog_opening.specs.declared.opening.Known.{Known}

-- the index is got, its pages in order, and the page behind them
abbrev pub opening_gets : ℕ → List Act
opening_gets pages = Get index_name ∷ page_gets 0 (pages + 1)

-- The calls of an opening of an area that spells this catalog. Where the index lags, it is put.
abbrev pub IsOpeningPlan : Area → List ℕ → Catalog → List Act → Type 0
IsOpeningPlan m base cs plan =
    (HoldsIndex m base cs × (plan ≡ opening_gets (length (heads_of cs))))
    ⊎ ((before : Catalog) × (last : Stored) × (cs ≡ before ++ last ∷ []) × HoldsIndex m base before
    × (plan ≡ opening_gets (length (heads_of before)) ++ Change (index_put base cs) ∷ []))

-- the base address that is given, if any, is this one
abbrev pub IsAllowedBase : Option (List ℕ) → List ℕ → Type 0
IsAllowedBase given base = IfSome given (λ other. other ≡ base)

-- another base address is given
abbrev pub IsOtherBase : Option (List ℕ) → List ℕ → List ℕ → List ℕ → Type 0
IsOtherBase given base stored other = (stored ≡ base) × (given ≡ Some other) × (other ≢ base)

-- Whatever the area, a base address is told as the stored one where it is that of the index held, and another one is given.
abbrev pub IsToldBase : Option (List ℕ) → Area → OpenErr → Type 0
IsToldBase given m Fault = ⊤
IsToldBase given m Missing = ⊤
IsToldBase given m (Damaged name) = ⊤
IsToldBase given m (BaseDiffers stored other) =
    (base : List ℕ) × (heads : List PageHead) × (get m index_name ≡ Some (index_text base heads)) × IsOtherBase given base stored other
IsToldBase given m Memory = ⊤

-- The plan was made as the result of an opening tells. Where another base address is given, the index alone is got.
abbrev pub RunsOpening : {A : Type 0} → List Act → Seen → Seen → Result A OpenErr → Type 0
RunsOpening plan old new (Ok a) = Makes plan old new
RunsOpening plan old new (Err Fault) = StopsAt plan blob.Failed old new
RunsOpening plan old new (Err Missing) = ⊥
RunsOpening plan old new (Err (Damaged name)) = ⊥
RunsOpening plan old new (Err (BaseDiffers stored given)) = Makes (Get index_name ∷ []) old new
RunsOpening plan old new (Err Memory) = StopsAt plan blob.Memory old new ⊎ MakesSome plan old new

-- what is known of the catalog is its base address, its rows and its pages' heads
pub record IsKnownAs (base : List ℕ) (rows : List Row) (pages : List PageHead) (known : Known) : Type 0 where
  pub base_is : known.base ≡ base
  pub rows_are : known.rows ≡ rows
  pub pages_are : known.pages ≡ pages

-- Of an area below this base address, nothing is missing or damaged, and another base address is told exactly where one is given.
abbrev pub Answers : Option (List ℕ) → List ℕ → List Row → List PageHead → Result Known OpenErr → Type 0
Answers given base rows pages (Ok known) = IsAllowedBase given base × IsKnownAs base rows pages known
Answers given base rows pages (Err Fault) = ⊤
Answers given base rows pages (Err Missing) = ⊥
Answers given base rows pages (Err (Damaged name)) = ⊥
Answers given base rows pages (Err (BaseDiffers stored other)) = IsOtherBase given base stored other
Answers given base rows pages (Err Memory) = ⊤

-- the store tells an area that spells this catalog
abbrev pub IsStoreOf : Seen → List ℕ → Catalog → Type 0
IsStoreOf s base cs = (m : Area) × (s.held ≡ Some m) × SpellsCatalog m base cs

-- and holds its index
abbrev pub IsSettledStoreOf : Seen → List ℕ → Catalog → Type 0
IsSettledStoreOf s base cs = (m : Area) × (s.held ≡ Some m) × SpellsCatalog m base cs × HoldsIndex m base cs

-- the area is as it was, or an index was put into it
abbrev pub IsMended : Option Area → Option Area → Type 0
IsMended old new = (new ≡ old) ⊎ ((base : List ℕ) × (heads : List PageHead) × (new ≡ option_map (with_blob index_name (index_text base heads)) old))

-- at most an index was put, and the count of faults rose exactly where a call failed
pub record Mends (old new : Seen) (failed : Type 0) : Type 0 where
  pub counts : CountsFault old.faults new.faults failed
  pub area : IsMended old.held new.held

-- this blob is damaged: the index held is no index's text, or a page isn't held as the index says
abbrev pub IsDamagedOf : Area → List ℕ → Type 0
IsDamagedOf m name =
    ((name ≡ index_name) × IsNoIndex (get m index_name))
    ⊎ ((base : List ℕ) × (heads : List PageHead) × (get m index_name ≡ Some (index_text base heads)) × IsDamagedIn m base heads name)

-- no index is put where the index held is that of the pages, else theirs
abbrev pub IsMending : List ℕ → List PageHead → List PageHead → List Act → Type 0
IsMending base heads pages acts = ((pages ≡ heads) × (acts ≡ [])) ⊎ ((pages ≢ heads) × (acts ≡ index_change base pages ∷ []))

-- The area holds an index, and pages that fit it; these calls mend the index.
pub record IsOpenable (m : Area) (base : List ℕ) (heads : List PageHead) (pages : List (List Row)) (acts : List Act) : Type 0 where
  pub index : IsIndexText base heads (get m index_name)
  pub pages_held : IsHeldAs m base heads pages
  pub mends : IsMending base heads (map head_of pages) acts

-- the pages of an index are opened as they are held
pub record Opens (given : Option (List ℕ)) (base : List ℕ) (heads : List PageHead) (pages : List (List Row)) (acts : List Act)
    (old new : Seen) (result : Result Known OpenErr) : Type 0 where
  pub answers : Answers given base (rows_on pages) (map head_of pages) result
  pub runs : RunsOpening (opening_gets (length heads) ++ acts) old new result

-- a crash at each moment leaves an area that spells the catalog
abbrev pub KeepsSpelling : Seen → Seen → List ℕ → Catalog → Type 0
KeepsSpelling old new base cs = LeavesOnly old new (λ left. SpellsCatalog left base cs)

-- both base addresses are told, if there is memory
abbrev pub TellsBases : List ℕ → List ℕ → OpenErr → Type 0
TellsBases base other Fault = ⊥
TellsBases base other Missing = ⊥
TellsBases base other (Damaged name) = ⊥
TellsBases base other (BaseDiffers stored given) = (stored ≡ base) × (given ≡ other)
TellsBases base other Memory = ⊤

-- a base address is let through exactly where it is none or the one stored
abbrev pub ChecksBase : Option (List ℕ) → List ℕ → Result Unit OpenErr → Type 0
ChecksBase given base (Ok u) = IsAllowedBase given base
ChecksBase given base (Err error) = (other : List ℕ) × (given ≡ Some other) × (other ≢ base) × TellsBases base other error

-- the put that mends an index which isn't settled
abbrev pub mending : List ℕ → Bool → List PageHead → List Act
mending base settled heads = if settled then [] else index_change base heads ∷ []
