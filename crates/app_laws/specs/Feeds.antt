-- The areas of a feed, and when they are those of a sound one.
use Rattle.std.specs.Prelude.{◌≡◌, ◌≤◌, ℕ, List, Some}
use Rattle.blob_store.specs.Area.{Area}
use Rattle.pkg_meta.specs.Catalog.{Catalog}
use Rattle.catalog_doc.specs.Catalogs.{IsCatalog}
use Rattle.catalog_doc.specs.Spelled.{SpellsCatalog}
use Rattle.catalog_core.specs.declared.stores.Stores.{Stores}
use Rattle.fold_core.specs.declared.hive.HiveName.{HiveName}
use Rattle.hive_laws.specs.Areas.{SoundArea}
use Rattle.admin_wire.specs.declared.area.AreaName.{AreaName}
use Rattle.admin_wire.specs.declared.area.AreaName.TheVariants as area
use Rattle.feed_app.specs.Hives.{hive_fold}
use Rattle.feed_app.specs.Outside.{Members, area_of, held}

-- an area for each name
abbrev pub Areas : Type 0
Areas = AreaName → Area

-- the stores tell these areas
abbrev pub Hold : {B : Type 0} → Members B → Stores B → Areas → Type 0
Hold m stores areas = (name : AreaName) → held m (area_of stores name) ≡ Some (areas name)

-- at which commit each hive's cursor stands
abbrev pub CursorNumbers : Type 0
CursorNumbers = HiveName → ℕ

-- no cursor is behind
abbrev pub NoneBehind : CursorNumbers → CursorNumbers → Type 0
NoneBehind old new = (hive : HiveName) → old hive ≤ new hive

-- A feed is sound: its catalog's area spells a catalog below the base address, and each hive's area is that of a sound hive over it, whose
-- cursor stands there.
pub record IsSoundFeed (base : List ℕ) (cs : Catalog) (at : CursorNumbers) (areas : Areas) : Type 0 where
  pub lawful : IsCatalog cs
  pub spells : SpellsCatalog (areas area.Catalog) base cs
  pub hives : (hive : HiveName) → SoundArea (hive_fold hive base) cs (at hive) (areas (area.Hive hive))

-- the stores tell the areas of such a feed
abbrev pub HoldsFeed : {B : Type 0} → Members B → Stores B → List ℕ → Catalog → CursorNumbers → Type 0
HoldsFeed m stores base cs at = (areas : Areas) × Hold m stores areas × IsSoundFeed base cs at areas
