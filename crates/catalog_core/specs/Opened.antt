-- What an open catalog is, and which catalogs it is open for.
use Rattle.std.specs.Prelude.{◌≡◌, ◌⊎◌, ℕ, List, [], ◌∷◌, ◌++◌, Bool, true, false, if◌then◌else◌}
use Rattle.blob_store.specs.Area.{Area}
use Rattle.blob_store.specs.Seen.{Seen}
use Rattle.pkg_meta.specs.Catalog.{Catalog}
use Rattle.pkg_meta.specs.declared.commit.Staged.{Staged}
use Rattle.pkg_meta.specs.declared.commit.Stored.{Stored}
use Rattle.catalog_doc.specs.Catalogs.{IsCatalog}
use Rattle.catalog_opening.specs.Openings.{IsSettledStoreOf, IsStoreOf}
use Rattle.catalog_opening.specs.Settlings.{IsDamagedOrTooMany}
use Rattle.catalog_rows.specs.Kept.{IsKeptOf, Kept}

-- an open catalog: its area, the feed's base address, what it keeps of its catalog, and whether it is settled
pub record Opened (B : Type 0) : Type 0 where
  pub area : B
  pub base : List ℕ
  pub kept : Kept
  pub settled : Bool

-- it is kept of the catalog, or of the catalog without its last commit
abbrev pub IsKeptOfMost : Kept → Catalog → Type 0
IsKeptOfMost kept cs = IsKeptOf kept cs ⊎ ((before : Catalog) × (last : Stored) × (cs ≡ before ++ last ∷ []) × IsKeptOf kept before)

-- What is kept of the catalog: settled, all of it. After a call that stopped within its puts the last commit may be unknown.
abbrev pub KeepsRows : Bool → Kept → Catalog → Type 0
KeepsRows true kept cs = IsKeptOf kept cs
KeepsRows false kept cs = IsKeptOfMost kept cs

-- the store tells an area that spells the catalog; settled, its index doesn't lag
abbrev pub IsStoreFor : Bool → Seen → List ℕ → Catalog → Type 0
IsStoreFor true s base cs = IsSettledStoreOf s base cs
IsStoreFor false s base cs = IsStoreOf s base cs

-- the open catalog is open for this one, where this is told of its store
pub record IsOpenFor {B : Type 0} (o : Opened B) (s : Seen) (cs : Catalog) : Type 0 where
  pub lawful : IsCatalog cs
  pub keeps : KeepsRows o.settled o.kept cs
  pub store : IsStoreFor o.settled s o.base cs

-- it is settled, and open for this one
pub record IsReady {B : Type 0} (o : Opened B) (s : Seen) (cs : Catalog) : Type 0 where
  pub settled : o.settled ≡ true
  pub open_for : IsOpenFor o s cs

-- this blob is why it isn't settled: a page known, or the page behind them, isn't held as is known
abbrev pub IsUnsettled : {B : Type 0} → Area → Opened B → List ℕ → Type 0
IsUnsettled m o name = (o.settled ≡ false) × IsDamagedOrTooMany m o.base o.kept.pages name

-- the manifest or the package that a publish brought
abbrev pub staged_bytes : Bool → Staged → List ℕ
staged_bytes nuspec brought = if nuspec then brought.nuspec else brought.nupkg
