-- What a call sees of the outside, before it or after it.
use Rattle.std.specs.Prelude.{◌≡◌, ℕ, List, Option, Some}
use Rattle.blob_store.specs.Area.{Area}
use Rattle.blob_store.specs.declared.blobs.Blobs as store
use Rattle.catalog_core.specs.declared.stores.Stores.{Stores}
use Rattle.feed_base.specs.Counts.{HasRisen}
use Rattle.feed_base.specs.declared.outside.Clock as clock_of
use Rattle.feed_base.specs.declared.outside.Sink as sink_of
use Rattle.feed_base.specs.declared.outside.Source as source_of
use Rattle.admin_wire.specs.declared.area.AreaName.{AreaName}
use Rattle.admin_wire.specs.declared.area.AreaName.TheVariants.{Catalog, Hive}
use Rattle.fold_core.specs.declared.hive.HiveName.{HiveName}
use Rattle.fold_core.specs.declared.hive.HiveName.TheVariants as hives

-- what is told of a store
abbrev pub Members : Type 0 → Type 1
Members B = store.Ghosts B

-- the area that a store holds, where it tells it
abbrev pub held : {B : Type 0} → Members B → B → Option Area
held m area = (m.seen area).held

-- a call of this store failed, or its count stands at its greatest number
abbrev pub AreaRose : {B : Type 0} → Members B → B → B → Type 0
AreaRose m old new = HasRisen (m.seen old).faults (m.seen new).faults

-- one of four, by the hive
abbrev pub by_hive_name : {A : Type 0} → A → A → A → A → HiveName → A
by_hive_name plain semver2 content auto hives.Plain = plain
by_hive_name plain semver2 content auto hives.SemVer2 = semver2
by_hive_name plain semver2 content auto hives.Content = content
by_hive_name plain semver2 content auto hives.Auto = auto

-- an area by its name
abbrev pub area_of : {B : Type 0} → Stores B → AreaName → B
area_of stores Catalog = stores.catalog
area_of stores (Hive hive) = by_hive_name stores.plain stores.semver2 stores.content stores.auto hive

-- the bytes that are told of an input or an output, and how many of its calls have failed
pub record Stream : Type 0 where
  pub told : Option (List ℕ)
  pub faults : ℕ

abbrev pub Rose : Stream → Stream → Type 0
Rose old new = HasRisen old.faults new.faults

-- what a command sees: the base address that is given, the stores, what the input has left, and what the clock has answered
pub record Sight (B : Type 0) : Type 0 where
  pub given : Option (List ℕ)
  pub stores : Stores B
  pub input : Stream
  pub clock : Option (List ℕ)

abbrev pub over : {B : Type 0} → Option (List ℕ) → Stores B → Stream → Option (List ℕ) → Sight B
over given stores input clock = record { given = given; stores = stores; input = input; clock = clock }

-- all that a call of the program is given, but for its words
pub record Outside (B I O C : Type 0) : Type 0 where
  pub stores : Stores B
  pub input : I
  pub output : O
  pub clock : C

abbrev pub outside : {B I O C : Type 0} → Stores B → I → O → C → Outside B I O C
outside stores input output clock = record { stores = stores; input = input; output = output; clock = clock }

-- what is told of all that
pub record Bounds (B I O C : Type 0) : Type 1 where
  pub blobs : Members B
  pub source : source_of.Ghosts I
  pub sink : sink_of.Ghosts O
  pub clocks : clock_of.Ghosts C

abbrev pub bounds : {B I O C : Type 0} → Members B → source_of.Ghosts I → sink_of.Ghosts O → clock_of.Ghosts C → Bounds B I O C
bounds blobs source sink clocks = record { blobs = blobs; source = source; sink = sink; clocks = clocks }

abbrev pub input_of : {I : Type 0} → source_of.Ghosts I → I → Stream
input_of source input = record { told = source.left input; faults = source.faults input }

abbrev pub output_of : {O : Type 0} → sink_of.Ghosts O → O → Stream
output_of sink output = record { told = sink.written output; faults = sink.faults output }

-- what a command sees of it, to which this base address is given
abbrev pub sight : {B I O C : Type 0} → Bounds B I O C → Option (List ℕ) → Outside B I O C → Sight B
sight b given seen = over given seen.stores (input_of b.source seen.input) (b.clocks.answers seen.clock)

-- what is told holds so, where it is told
abbrev pub Shows : {A : Type 0} → Option A → (A → Type 0) → Type 0
Shows old P = (value : _) × (old ≡ Some value) × P value
