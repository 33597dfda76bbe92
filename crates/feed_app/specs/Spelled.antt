-- Which catalogs a store's area spells, and what a call leaves of them.
use Rattle.std.specs.Prelude.{◌≡◌, ℕ, List}
use Rattle.blob_store.specs.Area.{Area}
use Rattle.blob_store.specs.Seen.{Seen}
use Rattle.pkg_meta.specs.Catalog.{Catalog}
use Rattle.catalog_doc.specs.Catalogs.{IsCatalog}
use Rattle.catalog_doc.specs.Spelled.{SpellsCatalog}
use Rattle.catalog_core.specs.Opened.{IsOpenFor, Opened}
use Rattle.catalog_opening.specs.Openings.{IsMended, IsStoreOf, KeepsSpelling}

-- the store tells an area that spells this catalog, below this base address
pub record HasCatalog (s : Seen) (base : List ℕ) (cs : Catalog) : Type 0 where
  pub lawful : IsCatalog cs
  pub store : IsStoreOf s base cs

-- of a base address and a catalog
abbrev pub Of : Type 1
Of = List ℕ → Catalog → Type 0

-- what holds of every base address and catalog of this kind
abbrev pub ForEach : Of → Of → Type 0
ForEach Is P = (base : List ℕ) (cs : Catalog) → Is base cs → P base cs

-- what holds of every base address and catalog that the store's area spells
abbrev pub ForSpelled : Seen → Of → Type 0
ForSpelled s P = ForEach (HasCatalog s) P

-- At most an index was put, and what was spelled is spelled, also at a crash at each moment.
pub record StaysSpelled (old new : Seen) : Type 0 where
  pub mended : IsMended old.held new.held
  pub spelled : ForSpelled old (λ base cs. HasCatalog new base cs × KeepsSpelling old new base cs)

-- the store's area spells it, below some base address
abbrev pub IsSpelled : Seen → Catalog → Type 0
IsSpelled s cs = (base : List ℕ) × HasCatalog s base cs

-- the area spells a catalog
abbrev pub HoldsCatalog : Area → Type 0
HoldsCatalog m = (base : List ℕ) × (cs : Catalog) × IsCatalog cs × SpellsCatalog m base cs

-- the catalog is open for this one, at this base address
abbrev pub IsOpenAs : {B : Type 0} → Opened B → Seen → Of
IsOpenAs o now base cs = (o.base ≡ base) × IsOpenFor o now cs

-- it is open for each that a store's area spells
abbrev pub IsOpenOver : {B : Type 0} → Seen → Opened B → Seen → Type 0
IsOpenOver s o now = ForSpelled s (IsOpenAs o now)
