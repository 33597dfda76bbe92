-- What is answered where a catalog is opened, and what is left of its area.
use Rattle.std.specs.Prelude.{◌≡◌, ◌⊎◌, ℕ, List, [], ◌∷◌, Option, None, Some, IsSome, IfErr, IfOk, OnOk, Result, ⊤}
use Rattle.std.specs.FinMap.{get}
use Rattle.std.specs.declared.result.Result.TheVariants.{Ok, Err}
use Rattle.blob_store.specs.Area.{Area, with_blob}
use Rattle.blob_store.specs.Events.{Act, Get, Change}
use Rattle.blob_store.specs.Plans.{Makes, MakesSome, StopsAt}
use Rattle.blob_store.specs.Seen.{Seen}
use Rattle.blob_store.specs.declared.error.BlobErr.TheVariants as blob
use Rattle.pkg_meta.specs.Catalog.{Catalog}
use Rattle.catalog_doc.specs.Commits.{index_put}
use Rattle.catalog_doc.specs.Documents.{index_text}
use Rattle.catalog_doc.specs.Names.{index_name}
use Rattle.catalog_opening.specs.Openings.{IsAllowedBase, IsOtherBase, IsSettledStoreOf, IsStoreOf, KeepsSpelling, RunsOpening}
use Rattle.catalog_opening.specs.declared.error.OpenErr.{OpenErr}
use Rattle.catalog_opening.specs.declared.error.OpenErr.TheVariants.{Fault, Missing, Damaged, BaseDiffers, Memory}
use Rattle.catalog_rows.specs.Kept.{IsKeptOf}
use Rattle.catalog_core.specs.declared.error.InitErr.{InitErr}
use Rattle.catalog_core.specs.declared.error.InitErr.TheVariants as init
use Rattle.catalog_core.specs.declared.opening.Opening.{Opening}

-- of an area that spells a catalog: nothing is missing or damaged, and another base address is told only where one is given
abbrev pub IsRefusedOpening : Option (List ℕ) → List ℕ → OpenErr → Type 0
IsRefusedOpening given base Fault = ⊤
IsRefusedOpening given base Missing = ⊥
IsRefusedOpening given base (Damaged name) = ⊥
IsRefusedOpening given base (BaseDiffers stored other) = IsOtherBase given base stored other
IsRefusedOpening given base Memory = ⊤

-- the base address that was found is this one, which is allowed, and what is kept is of the catalog
pub record IsOpenedAs (given : Option (List ℕ)) (base : List ℕ) (cs : Catalog) (opening : Opening) : Type 0 where
  pub allowed : IsAllowedBase given base
  pub base_is : opening.base ≡ base
  pub keeps : IsKeptOf opening.rows cs

-- an area that spells a catalog is opened as that catalog, and spells it afterwards, and at a crash at each moment
pub record OpensAs (given : Option (List ℕ)) (base : List ℕ) (cs : Catalog) (before after : Seen) (result : Result Opening OpenErr) : Type 0 where
  pub opened : IfOk result (IsOpenedAs given base cs)
  pub refused : IfErr result (IsRefusedOpening given base)
  pub settled : OnOk result (IsSettledStoreOf after base cs)
  pub store : IsStoreOf after base cs
  pub moments : KeepsSpelling before after base cs

-- how far the calls of an opening went that gave this error
abbrev pub StopsOpening : List Act → OpenErr → Seen → Seen → Type 0
StopsOpening plan error old new = RunsOpening {A = Unit {0}} plan old new (Err error)

-- The calls that make a catalog, by what the index's name holds: it is got, and where nothing is held, the index of no commits is put.
abbrev pub init_plan : List ℕ → Option (List ℕ) → List Act
init_plan base None = Get index_name ∷ Change (index_put base []) ∷ []
init_plan base (Some bytes) = Get index_name ∷ []

-- it was made
pub record MakesFirst (base : List ℕ) (found : Option (List ℕ)) (old new : Seen) : Type 0 where
  pub absent : found ≡ None
  pub made : Makes (init_plan base None) old new

-- why it wasn't, and how far the calls went
abbrev pub StopsInit : List ℕ → Option (List ℕ) → InitErr → Seen → Seen → Type 0
StopsInit base found init.Fault old new = StopsAt (init_plan base found) blob.Failed old new
StopsInit base found init.Already old new = IsSome found × Makes (init_plan base found) old new
StopsInit base found init.Memory old new = StopsAt (init_plan base found) blob.Memory old new ⊎ MakesSome (init_plan base found) old new

-- either of them
abbrev pub RunsInit : {A : Type 0} → List ℕ → Option (List ℕ) → Seen → Seen → Result A InitErr → Type 0
RunsInit base found old new (Ok a) = MakesFirst base found old new
RunsInit base found old new (Err error) = StopsInit base found error old new

-- the area is as it was, or, where it held no index, has that of no commits
abbrev pub IsFirstArea : List ℕ → Area → Area → Type 0
IsFirstArea base m left = (left ≡ m) ⊎ ((get m index_name ≡ None) × (left ≡ with_blob index_name (index_text base []) m))
