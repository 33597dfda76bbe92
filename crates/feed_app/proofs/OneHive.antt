-- One hive's store among the four.
use Rattle.std.proofs.Common.{◌≡◌, refl}
use Rattle.catalog_core.specs.declared.stores.Stores.{Stores}
use Rattle.fold_core.specs.declared.hive.HiveName.{HiveName}
use Rattle.fold_core.specs.declared.hive.HiveName.TheVariants.{Plain, SemVer2, Content, Auto}
use Rattle.admin_wire.specs.declared.area.AreaName.TheVariants as area
use Rattle.feed_app.specs.Cursors.{cursor_reach}
use Rattle.feed_app.specs.Frame.{ChangesHive, KeepsAreas, Touches, touch_of}
use Rattle.feed_app.specs.Hives.{KeepsBut}
use Rattle.feed_app.specs.Jobs.{job_reach}
use Rattle.feed_app.specs.Outside.{Members, area_of, by_hive_name, held}
use Rattle.feed_app.specs.Spelled.{StaysSpelled}

-- with another store in the place of one hive's, those of the others are the same
module _ {B : Type 0} (plain semver2 content auto other : B) where
  pub but_plain : KeepsBut Plain (by_hive_name plain semver2 content auto) (by_hive_name other semver2 content auto)
  but_plain Plain not = absurd (not refl)
  but_plain SemVer2 not = refl
  but_plain Content not = refl
  but_plain Auto not = refl

  pub but_semver2 : KeepsBut SemVer2 (by_hive_name plain semver2 content auto) (by_hive_name plain other content auto)
  but_semver2 Plain not = refl
  but_semver2 SemVer2 not = absurd (not refl)
  but_semver2 Content not = refl
  but_semver2 Auto not = refl

  pub but_content : KeepsBut Content (by_hive_name plain semver2 content auto) (by_hive_name plain semver2 other auto)
  but_content Plain not = refl
  but_content SemVer2 not = refl
  but_content Content not = absurd (not refl)
  but_content Auto not = refl

  pub but_auto : KeepsBut Auto (by_hive_name plain semver2 content auto) (by_hive_name plain semver2 content other)
  but_auto Plain not = refl
  but_auto SemVer2 not = refl
  but_auto Content not = refl
  but_auto Auto not = absurd (not refl)

-- a job touches the catalog's area and the hive's, which it changes
pub job_touches : (hive : HiveName) → Touches (job_reach hive).catalog × Touches (touch_of (job_reach hive) (area.Hive hive))
job_touches Plain = (tt, tt)
job_touches SemVer2 = (tt, tt)
job_touches Content = (tt, tt)
job_touches Auto = (tt, tt)

pub job_changes : (hive : HiveName) → ChangesHive (job_reach hive)
job_changes Plain = (Plain, refl)
job_changes SemVer2 = (SemVer2, refl)
job_changes Content = (Content, refl)
job_changes Auto = (Auto, refl)

-- a `cursor` touches them too
pub cursor_touches : (hive : HiveName) → Touches (cursor_reach hive).catalog × Touches (touch_of (cursor_reach hive) (area.Hive hive))
cursor_touches Plain = (tt, tt)
cursor_touches SemVer2 = (tt, tt)
cursor_touches Content = (tt, tt)
cursor_touches Auto = (tt, tt)

-- neither reads the input
pub job_unread : (hive : HiveName) → Touches (job_reach hive).input → ⊥
job_unread Plain touched = touched
job_unread SemVer2 touched = touched
job_unread Content touched = touched
job_unread Auto touched = touched

pub cursor_unread : (hive : HiveName) → Touches (cursor_reach hive).input → ⊥
cursor_unread Plain touched = touched
cursor_unread SemVer2 touched = touched
cursor_unread Content touched = touched
cursor_unread Auto touched = touched

-- a command that leaves the other hives' stores leaves all that isn't in its reach
module _ {B : Type 0} (m : Members B) (before after : Stores B) (spelled : StaysSpelled (m.seen before.catalog) (m.seen after.catalog)) where
  abbrev OthersStay : HiveName → Type 0
  OthersStay hive = KeepsBut hive (by_hive_name before.plain before.semver2 before.content before.auto) (by_hive_name after.plain after.semver2 after.content after.auto)

  pub job_keeps : (hive : HiveName) → OthersStay hive → KeepsAreas m (job_reach hive) before after
  job_keeps Plain others = record {
    catalog = spelled;
    plain = tt;
    semver2 = others SemVer2 (λ e. cc e);
    content = others Content (λ e. cc e);
    auto = others Auto (λ e. cc e);
  }
  job_keeps SemVer2 others = record {
    catalog = spelled;
    plain = others Plain (λ e. cc e);
    semver2 = tt;
    content = others Content (λ e. cc e);
    auto = others Auto (λ e. cc e);
  }
  job_keeps Content others = record {
    catalog = spelled;
    plain = others Plain (λ e. cc e);
    semver2 = others SemVer2 (λ e. cc e);
    content = tt;
    auto = others Auto (λ e. cc e);
  }
  job_keeps Auto others = record {
    catalog = spelled;
    plain = others Plain (λ e. cc e);
    semver2 = others SemVer2 (λ e. cc e);
    content = others Content (λ e. cc e);
    auto = tt;
  }

  pub cursor_keeps : (hive : HiveName) → OthersStay hive → held m (area_of after (area.Hive hive)) ≡ held m (area_of before (area.Hive hive))
      → KeepsAreas m (cursor_reach hive) before after
  cursor_keeps Plain others same = record {
    catalog = spelled;
    plain = same;
    semver2 = others SemVer2 (λ e. cc e);
    content = others Content (λ e. cc e);
    auto = others Auto (λ e. cc e);
  }
  cursor_keeps SemVer2 others same = record {
    catalog = spelled;
    plain = others Plain (λ e. cc e);
    semver2 = same;
    content = others Content (λ e. cc e);
    auto = others Auto (λ e. cc e);
  }
  cursor_keeps Content others same = record {
    catalog = spelled;
    plain = others Plain (λ e. cc e);
    semver2 = others SemVer2 (λ e. cc e);
    content = same;
    auto = others Auto (λ e. cc e);
  }
  cursor_keeps Auto others same = record {
    catalog = spelled;
    plain = others Plain (λ e. cc e);
    semver2 = others SemVer2 (λ e. cc e);
    content = others Content (λ e. cc e);
    auto = same;
  }
