-- What a command may touch, and why an answer comes: said once for all commands.
use Rattle.std.specs.Prelude.{◌≡◌, ◌⊎◌, ◌<◌, length, IfSome, ℕ, List, ⊤}
use Rattle.catalog_core.specs.declared.stores.Stores.{Stores}
use Rattle.admin_wire.specs.declared.area.AreaName.{AreaName}
use Rattle.admin_wire.specs.declared.area.AreaName.TheVariants as area
use Rattle.admin_wire.specs.declared.line.Line.TheVariants as line
use Rattle.fold_core.specs.declared.hive.HiveName.{HiveName}
use Rattle.fold_core.specs.declared.hive.HiveName.TheVariants as hives
use Rattle.feed_app.specs.Damages.{IsLostOfCatalog, IsLostOfHive, IsUnread}
use Rattle.feed_app.specs.Outside.{Members, Sight, Rose, AreaRose, area_of, held}
use Rattle.feed_app.specs.Spelled.{ForSpelled, IsSpelled, StaysSpelled}
use Rattle.feed_app.specs.declared.answer.Answer.{Answer}
use Rattle.feed_app.specs.declared.answer.Answer.TheVariants.{Reply, Usage}

-- how many bytes an input has at the most
abbrev pub most_input : ℕ
most_input = 67108864

-- what may become of a part: nothing, or it is asked, or its catalog is opened, or it is changed
pub data Touch : Type 0 where
  Nothing : Touch
  Asks : Touch
  Opens : Touch
  Changes : Touch

-- what may become of each part; no command touches the output
pub record Reach : Type 0 where
  pub catalog : Touch
  pub plain : Touch
  pub semver2 : Touch
  pub content : Touch
  pub auto : Touch
  pub input : Touch
  pub clock : Touch

abbrev pub nothing : Reach
nothing = record { catalog = Nothing; plain = Nothing; semver2 = Nothing; content = Nothing; auto = Nothing; input = Nothing; clock = Nothing }

abbrev pub touch_of : Reach → AreaName → Touch
touch_of reach area.Catalog = reach.catalog
touch_of reach (area.Hive hives.Plain) = reach.plain
touch_of reach (area.Hive hives.SemVer2) = reach.semver2
touch_of reach (area.Hive hives.Content) = reach.content
touch_of reach (area.Hive hives.Auto) = reach.auto

abbrev pub Touches : Touch → Type 0
Touches Nothing = ⊥
Touches Asks = ⊤
Touches Opens = ⊤
Touches Changes = ⊤

-- a store that isn't touched is the same value, one that is only asked holds the same, and one whose catalog is opened spells the same
abbrev pub KeepsArea : {B : Type 0} → Members B → Touch → B → B → Type 0
KeepsArea m Nothing old new = new ≡ old
KeepsArea m Asks old new = held m new ≡ held m old
KeepsArea m Opens old new = StaysSpelled (m.seen old) (m.seen new)
KeepsArea m Changes old new = ⊤

-- each area that isn't within reach is as it was
pub record KeepsAreas {B : Type 0} (m : Members B) (reach : Reach) (before after : Stores B) : Type 0 where
  pub catalog : KeepsArea m reach.catalog before.catalog after.catalog
  pub plain : KeepsArea m reach.plain before.plain after.plain
  pub semver2 : KeepsArea m reach.semver2 before.semver2 after.semver2
  pub content : KeepsArea m reach.content before.content after.content
  pub auto : KeepsArea m reach.auto before.auto after.auto

-- an input that isn't read is the same value, and so is a clock that isn't asked
abbrev pub KeepsValue : {A : Type 0} → Touch → A → A → Type 0
KeepsValue Nothing old new = new ≡ old
KeepsValue Asks old new = ⊤
KeepsValue Opens old new = ⊤
KeepsValue Changes old new = ⊤

-- the area of a hive may be changed
abbrev pub ChangesHive : Reach → Type 0
ChangesHive reach = (hive : HiveName) × (touch_of reach (area.Hive hive) ≡ Changes)

-- Why a blob of this name is told as damaged. The catalog's area spells no catalog, and the blob isn't as it is needed; or the area
-- hasn't got what a job would read; or the hive's area has no cursor under the name, or no state.
abbrev pub IsLost : {B : Type 0} → Members B → Reach → (before after : Stores B) → AreaName → List ℕ → Type 0
IsLost m reach before after area.Catalog blob =
    (ForSpelled (m.seen before.catalog) (λ base cs. ⊥) × IsLostOfCatalog (held m before.catalog) (held m after.catalog) blob)
    ⊎ (ChangesHive reach × IsUnread (held m before.catalog) blob)
IsLost m reach before after (area.Hive hive) blob =
    IsLostOfHive (IsSpelled (m.seen before.catalog)) (held m (area_of after (area.Hive hive))) blob

-- it is so of some blob of an area within reach
abbrev pub HasLost : {B : Type 0} → Members B → Reach → (before after : Stores B) → Type 0
HasLost m reach before after =
    (name : AreaName) × (blob : List ℕ) × Touches (touch_of reach name) × IsLost m reach before after name blob

-- why an answer of this kind came; no command answers a line that a server alone tells
abbrev pub Explains : {B : Type 0} → Members B → Reach → Sight B → Answer → Sight B → Type 0
Explains m reach before Usage after = ⊥
Explains m reach before (Reply (line.Fault name)) after = Touches (touch_of reach name) × AreaRose m (area_of before.stores name) (area_of after.stores name)
Explains m reach before (Reply line.FaultInput) after = Touches reach.input × Rose before.input after.input
Explains m reach before (Reply (line.Damaged name blob)) after =
    Touches (touch_of reach name) × IsLost m reach before.stores after.stores name blob
Explains m reach before (Reply line.TooLong) after = Touches reach.input × IfSome before.input.told (λ body. most_input < length body)
Explains m reach before (Reply (line.Left hive name)) after = ⊥
Explains m reach before (Reply line.Stopping) after = ⊥
Explains m reach before _ after = ⊤

-- a command: what it may touch, when it can be done, and what it does
pub record Meaning (B : Type 0) : Type 1 where
  pub reach : Reach
  pub ready : Sight B → Type 0
  pub acts : Sight B → Answer → Sight B → Type 0

-- a command of this meaning was done, with this answer
pub record IsDone {B : Type 0} (m : Members B) (meaning : Meaning B) (before : Sight B) (answer : Answer) (after : Sight B) : Type 0 where
  pub keeps : KeepsAreas m meaning.reach before.stores after.stores
  pub explains : Explains m meaning.reach before answer after
  pub acts : meaning.acts before answer after
