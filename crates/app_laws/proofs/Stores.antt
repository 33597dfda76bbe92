-- Which stores a command leaves as they were, and what a crash leaves of these.
use Rattle.std.proofs.Common.{◌≡◌, ◌⊎◌, inl, inr, ⊎_elim, ℕ, List, Bool, true, false, if◌then◌else◌, Option, Some, nat_eq, refl, sym, ◌∙◌, ap, subst}
use Rattle.std.specs.List.{starts_with}
use Rattle.std.specs.Prelude.{⊤}
use Rattle.blob_store.specs.Area.{Area}
use Rattle.blob_store.specs.Moments.{LeavesOnly}
use Rattle.blob_store.specs.Seen.{Seen}
use Rattle.catalog_core.specs.declared.stores.Stores.{Stores}
use Rattle.fold_core.specs.declared.hive.HiveName.{HiveName}
use Rattle.fold_core.specs.declared.hive.HiveName.TheVariants.{Plain, SemVer2, Content, Auto}
use Rattle.feed_routes.specs.Cuts.{target_path}
use Rattle.admin_wire.specs.declared.area.AreaName.{AreaName}
use Rattle.admin_wire.specs.declared.area.AreaName.TheVariants as area
use Rattle.feed_app.specs.Commands.{Command, Init, Get, Publish, Names, Job, Cursor}
use Rattle.feed_app.specs.Cursors.{cursor_reach}
use Rattle.feed_app.specs.Does.{meaning}
use Rattle.feed_app.specs.Frame.{Touch, Nothing, Asks, Opens, Changes, KeepsArea, KeepsAreas, Reach, nothing, touch_of}
use Rattle.feed_app.specs.Gets.{asked_under, get_reach}
use Rattle.feed_app.specs.Hives.{served_under}
use Rattle.feed_app.specs.Jobs.{job_reach}
use Rattle.feed_app.specs.Outside.{Members, area_of, held}
use Rattle.feed_app.specs.declared.hives.ServedHive.{ServedHive}
use Rattle.feed_app.specs.declared.hives.ServedHive.TheVariants as served
use Rattle.app_laws.specs.Histories.{IsLeftByCrash, IsLeftBy}

pub keeps_hive : {B : Type 0} (m : Members B) (reach : Reach) (before after : Stores B) → KeepsAreas m reach before after → (hive : HiveName)
    → KeepsArea m (touch_of reach (area.Hive hive)) (area_of before (area.Hive hive)) (area_of after (area.Hive hive))
keeps_hive m reach before after keeps Plain = keeps.plain
keeps_hive m reach before after keeps SemVer2 = keeps.semver2
keeps_hive m reach before after keeps Content = keeps.content
keeps_hive m reach before after keeps Auto = keeps.auto

-- nothing is put to the store
abbrev pub IsStill : Touch → Type 0
IsStill Nothing = ⊤
IsStill Asks = ⊤
IsStill Opens = ⊥
IsStill Changes = ⊥

pub still_held : {B : Type 0} (m : Members B) (touch : Touch) (old new : B) → IsStill touch → KeepsArea m touch old new → held m new ≡ held m old
still_held m Nothing old new is same = ap (held m) same
still_held m Asks old new is same = same
still_held m Opens old new is same = absurd is
still_held m Changes old new is same = absurd is

pub still_left : {B : Type 0} (m : Members B) (touch : Touch) (old new : B) (left : Area) → IsStill touch → IsLeftBy m touch old new left
    → held m old ≡ Some left
still_left m Nothing old new left is same = same
still_left m Asks old new left is same = same
still_left m Opens old new left is same = absurd is
still_left m Changes old new left is same = absurd is

-- what a crash leaves at each moment it leaves at some
pub at_moment : (old new : Seen) (P : Area → Type 0) (left : Area) → LeavesOnly old new P → IsLeftByCrash old new left → P left
at_moment old new P left leaves (t, low, high, few, at) = leaves.each few t left low high at

none_left : {B : Type 0} (m : Members B) (before after : Stores B) (name : AreaName) (left : Area)
    → IsLeftBy m (touch_of nothing name) (area_of before name) (area_of after name) left → held m (area_of before name) ≡ Some left
none_left m before after area.Catalog left is = is
none_left m before after (area.Hive Plain) left is = is
none_left m before after (area.Hive SemVer2) left is = is
none_left m before after (area.Hive Content) left is = is
none_left m before after (area.Hive Auto) left is = is

pub untouched_left : {B : Type 0} (m : Members B) (before after : Stores B) (new : AreaName → Area)
    → ((name : AreaName) → IsLeftBy m (touch_of nothing name) (area_of before name) (area_of after name) (new name))
    → (name : AreaName) → held m (area_of before name) ≡ Some (new name)
untouched_left m before after new left name = none_left m before after name (new name) (left name)

by_hive : (reach : Reach) → IsStill reach.plain → IsStill reach.semver2 → IsStill reach.content → IsStill reach.auto → (hive : HiveName)
    → IsStill (touch_of reach (area.Hive hive))
by_hive reach plain semver2 content auto Plain = plain
by_hive reach plain semver2 content auto SemVer2 = semver2
by_hive reach plain semver2 content auto Content = content
by_hive reach plain semver2 content auto Auto = auto

asked_still : (path : List ℕ) (hive : ServedHive) → IsStill (asked_under path hive)
asked_still path hive = elim (starts_with nat_eq path (served_under hive)) as (λ (t : Bool). IsStill (if t then Asks else Nothing)) [
  | true ↦ tt
  | false ↦ tt
]

cursor_still : (which hive : HiveName) → IsStill (touch_of (cursor_reach which) (area.Hive hive))
cursor_still Plain hive = by_hive (cursor_reach Plain) tt tt tt tt hive
cursor_still SemVer2 hive = by_hive (cursor_reach SemVer2) tt tt tt tt hive
cursor_still Content hive = by_hive (cursor_reach Content) tt tt tt tt hive
cursor_still Auto hive = by_hive (cursor_reach Auto) tt tt tt tt hive

job_or_still : (which hive : HiveName) → (which ≡ hive) ⊎ IsStill (touch_of (job_reach which) (area.Hive hive))
job_or_still Plain Plain = inl refl
job_or_still Plain SemVer2 = inr tt
job_or_still Plain Content = inr tt
job_or_still Plain Auto = inr tt
job_or_still SemVer2 Plain = inr tt
job_or_still SemVer2 SemVer2 = inl refl
job_or_still SemVer2 Content = inr tt
job_or_still SemVer2 Auto = inr tt
job_or_still Content Plain = inr tt
job_or_still Content SemVer2 = inr tt
job_or_still Content Content = inl refl
job_or_still Content Auto = inr tt
job_or_still Auto Plain = inr tt
job_or_still Auto SemVer2 = inr tt
job_or_still Auto Content = inr tt
job_or_still Auto Auto = inl refl

pub init_still : {B : Type 0} (m : Members B) (base : List ℕ) (hive : HiveName) → IsStill (touch_of (meaning m (Init base)).reach (area.Hive hive))
init_still m base hive = by_hive (meaning m (Init base)).reach tt tt tt tt hive

-- only a job puts to a hive's store, its own
pub hive_still : {B : Type 0} (m : Members B) (command : Command) (hive : HiveName)
    → (command ≡ Job hive) ⊎ IsStill (touch_of (meaning m command).reach (area.Hive hive))
hive_still m (Init base) hive = inr (init_still m base hive)
hive_still m Publish hive = inr (by_hive (meaning m Publish).reach tt tt tt tt hive)
hive_still m (Names kind pairs) hive = inr (by_hive (meaning m (Names kind pairs)).reach tt tt tt tt hive)
hive_still m (Job which) hive = ⊎_elim (λ same. inl (ap Job same)) (λ still. inr still) (job_or_still which hive)
hive_still m (Cursor which) hive = inr (cursor_still which hive)
hive_still m (Get path) hive = inr (by_hive (get_reach (target_path path)) (asked_still (target_path path) served.Plain) (asked_still (target_path path) served.SemVer2) (asked_still (target_path path) served.Content) tt hive)

-- a job opens the catalog and changes its hive, a `cursor` opens the catalog
pub job_opens : (hive : HiveName) → (job_reach hive).catalog ≡ Opens
job_opens Plain = refl
job_opens SemVer2 = refl
job_opens Content = refl
job_opens Auto = refl

pub job_changes_own : (hive : HiveName) → touch_of (job_reach hive) (area.Hive hive) ≡ Changes
job_changes_own Plain = refl
job_changes_own SemVer2 = refl
job_changes_own Content = refl
job_changes_own Auto = refl

pub cursor_opens : (hive : HiveName) → (cursor_reach hive).catalog ≡ Opens
cursor_opens Plain = refl
cursor_opens SemVer2 = refl
cursor_opens Content = refl
cursor_opens Auto = refl
