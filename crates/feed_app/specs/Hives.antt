-- The hives of the program: where each stands, and what it makes of a catalog.
use Rattle.std.specs.Prelude.{◌≡◌, ℕ, List, codes, Option, Some, None, if◌then◌else◌}
use Rattle.std.specs.Str.{bytes_eq}
use Rattle.admin_wire.specs.Lines.{hive_text}
use Rattle.auto_docs.specs.Documents.{auto_docs, keeps_listed}
use Rattle.catalog_core.specs.declared.stores.Stores.{Stores}
use Rattle.fold_core.specs.Docs.{MakesDocs}
use Rattle.fold_core.specs.Entries.{Keeps}
use Rattle.fold_core.specs.Folds.{Fold, fold_of}
use Rattle.flat_container.specs.Documents.{content_docs, keeps_all}
use Rattle.reg_docs.specs.Documents.{registration_docs}
use Rattle.reg_docs.specs.Entries.{keeps_every, keeps_plain}
use Rattle.reg_docs.specs.declared.addresses.RegistrationHive.TheVariants as registration
use Rattle.feed_app.specs.declared.hives.ServedHive.{ServedHive}
use Rattle.feed_app.specs.declared.hives.ServedHive.TheVariants.{Plain, SemVer2, Content}
use Rattle.admin_wire.specs.declared.area.AreaName.{AreaName}
use Rattle.admin_wire.specs.declared.area.AreaName.TheVariants as area
use Rattle.fold_core.specs.declared.hive.HiveName.{HiveName}
use Rattle.fold_core.specs.declared.hive.HiveName.TheVariants as hives

-- what the path of each of its documents begins with
abbrev pub served_under : ServedHive → List ℕ
served_under Plain = codes "/v3/registration/"
served_under SemVer2 = codes "/v3/registration-semver2/"
served_under Content = codes "/v3/flat/"

-- its name in reply lines
abbrev pub hive_name : ServedHive → HiveName
hive_name Plain = hives.Plain
hive_name SemVer2 = hives.SemVer2
hive_name Content = hives.Content

-- its area
abbrev pub hive_area : ServedHive → AreaName
hive_area hive = area.Hive (hive_name hive)

-- one of three, by the hive
abbrev pub by_hive : {A : Type 0} → A → A → A → ServedHive → A
by_hive plain semver2 content Plain = plain
by_hive plain semver2 content SemVer2 = semver2
by_hive plain semver2 content Content = content

-- the stores of the hives
abbrev pub hive_stores : {B : Type 0} → Stores B → ServedHive → B
hive_stores stores = by_hive stores.plain stores.semver2 stores.content

-- the store of every hive is the same value
abbrev pub KeepsAll : {B : Type 0} → (ServedHive → B) → (ServedHive → B) → Type 0
KeepsAll old new = (hive : ServedHive) → new hive ≡ old hive

-- that of every hive but this one is
abbrev pub KeepsOthers : {B : Type 0} → ServedHive → (ServedHive → B) → (ServedHive → B) → Type 0
KeepsOthers hive old new = (other : ServedHive) → (other ≡ hive → ⊥) → new other ≡ old other

-- the hive with this word
abbrev pub hive_by_word : List ℕ → Option HiveName
hive_by_word word =
    if bytes_eq word (hive_text hives.Plain) then Some hives.Plain else
    if bytes_eq word (hive_text hives.SemVer2) then Some hives.SemVer2 else
    if bytes_eq word (hive_text hives.Content) then Some hives.Content else
    if bytes_eq word (hive_text hives.Auto) then Some hives.Auto else
    None

-- which details a hive keeps
abbrev pub keeps_in : HiveName → Keeps
keeps_in hives.Plain = keeps_plain
keeps_in hives.SemVer2 = keeps_every
keeps_in hives.Content = keeps_all
keeps_in hives.Auto = keeps_listed

-- which documents it makes
abbrev pub makes_in : HiveName → MakesDocs
makes_in hives.Plain = registration_docs registration.Plain
makes_in hives.SemVer2 = registration_docs registration.SemVer2
makes_in hives.Content = content_docs
makes_in hives.Auto = auto_docs

-- the hive below a base address
abbrev pub hive_fold : HiveName → List ℕ → Fold
hive_fold hive base = fold_of (keeps_in hive) (makes_in hive) base

-- what each hive but this one has is the same value
abbrev pub KeepsBut : {A : Type 0} → HiveName → (HiveName → A) → (HiveName → A) → Type 0
KeepsBut hive old new = (other : HiveName) → (other ≡ hive → ⊥) → new other ≡ old other
