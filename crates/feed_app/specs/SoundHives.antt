-- When a hive of the program is sound over the catalog.
use Rattle.std.specs.Prelude.{ℕ, List}
use Rattle.pkg_meta.specs.Catalog.{Catalog}
use Rattle.catalog_core.specs.declared.stores.Stores.{Stores}
use Rattle.fold_core.specs.declared.hive.HiveName.{HiveName}
use Rattle.hive_laws.specs.Areas.{SoundArea}
use Rattle.round_laws.specs.OnAreas.{HoldsArea}
use Rattle.admin_wire.specs.declared.area.AreaName.TheVariants as area
use Rattle.feed_app.specs.Hives.{hive_fold}
use Rattle.feed_app.specs.Outside.{Members, area_of}
use Rattle.feed_app.specs.Spelled.{HasCatalog}

-- the catalog's store tells an area that spells this catalog below this base address, and the hive's that of a sound hive over it, whose
-- cursor stands at commit c
pub record HoldsHive {B : Type 0} (m : Members B) (stores : Stores B) (hive : HiveName) (base : List ℕ) (cs : Catalog) (c : ℕ) : Type 0 where
  pub catalog : HasCatalog (m.seen stores.catalog) base cs
  pub sound : HoldsArea (m.seen (area_of stores (area.Hive hive))) (SoundArea (hive_fold hive base) cs c)

-- it is so of some catalog, with the cursor somewhere
abbrev pub HasSoundHive : {B : Type 0} → Members B → Stores B → HiveName → Type 0
HasSoundHive m stores hive = (base : List ℕ) × (cs : Catalog) × (c : ℕ) × HoldsHive m stores hive base cs c
