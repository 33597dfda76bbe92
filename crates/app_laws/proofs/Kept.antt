-- A command keeps a sound feed, whether it ends or a crash stops it.
use Rattle.std.proofs.Common.{◌≡◌, ◌⊎◌, ◌≤◌, inl, inr, ⊎_elim, ℕ, List, length, Option, None, Some, refl, sym, ◌∙◌, subst, arith}
use Rattle.std.specs.FinMap.{get}
use Rattle.blob_store.specs.Area.{Area}
use Rattle.blob_store.specs.Moments.{LeavesOnly}
use Rattle.blob_store.specs.Seen.{IsSure}
use Rattle.pkg_meta.specs.Catalog.{Catalog}
use Rattle.catalog_doc.specs.Catalogs.{IsCatalog}
use Rattle.catalog_doc.specs.Commits.{made}
use Rattle.catalog_doc.specs.Names.{index_name}
use Rattle.catalog_doc.specs.Spelled.{SpellsCatalog}
use Rattle.fold_core.specs.Folds.{Fold}
use Rattle.fold_core.specs.declared.hive.HiveName.{HiveName}
use Rattle.hive_laws.specs.Areas.{SoundArea}
use Rattle.hive_laws.proofs.MoreArea.{more_area}
use Rattle.round_laws.specs.OnAreas.{HoldsArea, IsSoundOrSettled}
use Rattle.admin_wire.specs.declared.area.AreaName.{AreaName}
use Rattle.admin_wire.specs.declared.area.AreaName.TheVariants as area
use Rattle.admin_wire.specs.declared.line.Line.TheVariants as line
use Rattle.admin_wire.specs.declared.line.Refusal.TheVariants as refusal
use Rattle.feed_app.specs.Answers.{answer_status}
use Rattle.feed_app.specs.Commands.{Command, Init, Get, Publish, Names, Job, Cursor}
use Rattle.feed_app.specs.Cursors.{cursor_reach}
use Rattle.feed_app.specs.Does.{Does, meaning, reach_of}
use Rattle.feed_app.specs.Frame.{IsDone, KeepsArea, Opens, Touch, touch_of}
use Rattle.feed_app.specs.Hives.{hive_fold}
use Rattle.feed_app.specs.Inits.{Inits}
use Rattle.feed_app.specs.Jobs.{job_reach}
use Rattle.feed_app.specs.Outside.{Members, Sight, area_of, held}
use Rattle.feed_app.specs.Spelled.{HasCatalog, StaysSpelled}
use Rattle.feed_app.specs.declared.answer.Answer.{Answer}
use Rattle.feed_app.specs.declared.answer.Answer.TheVariants.{Reply}
use Rattle.app_laws.specs.Feeds.{Areas, CursorNumbers, Hold, HoldsFeed, IsSoundFeed, NoneBehind}
use Rattle.app_laws.specs.Histories.{Becomes, Crashed, Ended, Fate, IsEndedWith, IsLeftByCrash, IsLeftBy, IsWithCommit, MakesCatalog}
use Rattle.app_laws.proofs.Growth.{names_left, names_made, publish_left, publish_made}
use Rattle.app_laws.proofs.JobRounds.{job_kept, unmoved}
use Rattle.app_laws.proofs.Stores.{at_moment, cursor_opens, hive_still, job_changes_own, job_opens, keeps_hive, still_held, still_left, untouched_left}

inside : {A : Type 0} (x y : A) → Some x ≡ Some y → x ≡ y
inside x y e = cc

-- the areas of a feed are what is told of them
pub same_feed : (base : List ℕ) (cs : Catalog) (at : CursorNumbers) (old new : Areas) → ((name : AreaName) → Some (old name) ≡ Some (new name))
    → IsSoundFeed base cs at old → IsSoundFeed base cs at new
same_feed base cs at old new same feed = record {
  lawful = feed.lawful;
  spells = subst (λ (a : Area). SpellsCatalog a base cs) (inside (old area.Catalog) (new area.Catalog) (same area.Catalog)) feed.spells;
  hives = λ hive. subst (λ (a : Area). SoundArea (hive_fold hive base) cs (at hive) a)
      (inside (old (area.Hive hive)) (new (area.Hive hive)) (same (area.Hive hive))) (feed.hives hive);
}

-- a hive that is sound over a catalog is so over what becomes of that
module _ (f : Fold) (cs ds : Catalog) (c : ℕ) (a : Area) (sound : SoundArea f cs c a) where
  carry_same : ds ≡ cs → SoundArea f ds c a
  carry_same is = subst (λ (x : Catalog). SoundArea f x c a) (sym is) sound

  carry_either : (command : Command) (input : Option (List ℕ)) → (ds ≡ cs) ⊎ IsWithCommit command input cs ds → SoundArea f ds c a
  carry_either command input (inl is) = carry_same is
  carry_either command input (inr (changes, now, asks, taken, is)) =
      subst (λ (x : Catalog). SoundArea f x c a) (sym is) (more_area f cs (made cs changes now) c a sound)

  carry_fate : (command : Command) (input : Option (List ℕ)) (fate : Fate) → Becomes (Some command) input fate cs ds → SoundArea f ds c a
  carry_fate Publish input (Ended status) ended = carry_either Publish input ended.either
  carry_fate Publish input Crashed either = carry_either Publish input either
  carry_fate (Names kind pairs) input (Ended status) ended = carry_either (Names kind pairs) input ended.either
  carry_fate (Names kind pairs) input Crashed either = carry_either (Names kind pairs) input either
  carry_fate (Init base) input fate is = carry_same is
  carry_fate (Job hive) input fate is = carry_same is
  carry_fate (Cursor hive) input fate is = carry_same is
  carry_fate (Get path) input fate is = carry_same is

-- an area that spells a catalog holds an index
no_index : (m : Area) (base : List ℕ) (cs : Catalog) → SpellsCatalog m base cs → get m index_name ≡ None → ⊥
no_index m base cs spells none = ⊎_elim
    (λ new. let no : ⊥ = cc (new, none) in no)
    (λ old. let there = old.3 in let no : ⊥ = cc (there, none) in no)
    spells.index

-- so an `init` leaves it
init_left : (other : List ℕ) (m : Area) (answer : Answer) (new : Option Area) → (get m index_name ≡ None → ⊥) → Inits other (Some m) answer new → new ≡ Some m
init_left other m (Reply line.Initialised) new has is = absurd (has is.0)
init_left other m (Reply (line.Refused refusal.Initialised)) new has is = is.1
init_left other m (Reply (line.Fault area.Catalog)) new has (inl same) = same
init_left other m (Reply (line.Fault area.Catalog)) new has (inr is) = absurd (has is.0)
init_left other m (Reply line.Memory) new has (inl same) = same
init_left other m (Reply line.Memory) new has (inr is) = absurd (has is.0)
init_left other m _ new has is = absurd is

-- a cursor that moved stands at the last commit
moved : (f : Fold) (cs : Catalog) (c : ℕ) (left : Area) → c ≤ length cs → IsSoundOrSettled f cs c left → (to : ℕ) × (c ≤ to) × SoundArea f cs to left
moved f cs c left within (inl sound) = (c, omega arith, sound)
moved f cs c left within (inr settled) = (length cs, within, (settled.0, record { area = settled.1.area; sound = settled.1.sound }))

abbrev together : Area → (HiveName → Area) → Areas
together catalog hives area.Catalog = catalog
together catalog hives (area.Hive hive) = hives hive

module _ {B : Type 0} (m : Members B) (sure : (store : B) → IsSure (m.seen store)) (before after : Sight B) (answer : Answer)
    (base : List ℕ) (cs : Catalog) (at : CursorNumbers) (areas : Areas) (hold : Hold m before.stores areas) (feed : IsSoundFeed base cs at areas) where
  has : HasCatalog (m.seen before.stores.catalog) base cs
  has = record { lawful = feed.lawful; store = (areas area.Catalog, hold area.Catalog, feed.spells) }

  abbrev f : HiveName → Fold
  f hive = hive_fold hive base

  abbrev old_of : HiveName → B
  old_of hive = area_of before.stores (area.Hive hive)

  abbrev new_of : HiveName → B
  new_of hive = area_of after.stores (area.Hive hive)

  within : (hive : HiveName) → at hive ≤ length cs
  within hive = (feed.hives hive).1.sound.cursor

  stays_open : (touch : Touch) → touch ≡ Opens → KeepsArea m touch before.stores.catalog after.stores.catalog
      → StaysSpelled (m.seen before.stores.catalog) (m.seen after.stores.catalog)
  stays_open touch is keeps = subst (λ (t : Touch). KeepsArea m t before.stores.catalog after.stores.catalog) is keeps

  -- a hive's job
  job_left : (hive : HiveName) → IsDone m (meaning m (Job hive)) before answer after
      → HoldsArea (m.seen (new_of hive)) (IsSoundOrSettled (f hive) cs (at hive))
      × LeavesOnly (m.seen (old_of hive)) (m.seen (new_of hive)) (IsSoundOrSettled (f hive) cs (at hive))
  job_left hive done =
      job_kept m hive (m.seen before.stores.catalog) (m.seen after.stores.catalog) (m.seen (old_of hive)) (m.seen (new_of hive))
      base cs (at hive) (areas (area.Hive hive)) has (hold (area.Hive hive)) (feed.hives hive) before.given answer
      (λ same. unmoved m (old_of hive) (new_of hive) (areas (area.Hive hive))
      (IsSoundOrSettled (f hive) cs (at hive)) (sure (old_of hive)) (hold (area.Hive hive)) (inl (feed.hives hive)) same)
      done.acts

  module _ (command : Command) (done : IsDone m (meaning m command) before answer after) where
    as_job : (hive : HiveName) → command ≡ Job hive → IsDone m (meaning m (Job hive)) before answer after
    as_job hive is = subst (λ (x : Command). IsDone m (meaning m x) before answer after) is done

    abbrev touch_on : HiveName → Touch
    touch_on hive = touch_of (meaning m command).reach (area.Hive hive)

    -- where it ended
    hive_kept : (hive : HiveName) → (to : ℕ) × (at hive ≤ to) × HoldsArea (m.seen (new_of hive)) (SoundArea (f hive) cs to)
    hive_kept hive = ⊎_elim
        (λ job.
        let left = (job_left hive (as_job hive job)).0 in
        let to = moved (f hive) cs (at hive) left.0 (within hive) left.2 in
        (to.0, to.1, (left.0, left.1, to.2)))
        (λ still.
        let same = still_held m (touch_on hive) (old_of hive) (new_of hive) still (keeps_hive m (meaning m command).reach before.stores after.stores done.keeps hive) in
        (at hive, omega arith, (areas (area.Hive hive), same ∙ hold (area.Hive hive), feed.hives hive)))
        (hive_still m command hive)

    -- where a crash stopped it
    hive_left : (hive : HiveName) (left : Area) → IsLeftBy m (touch_on hive) (old_of hive) (new_of hive) left
        → (to : ℕ) × (at hive ≤ to) × SoundArea (f hive) cs to left
    hive_left hive left is = ⊎_elim
        (λ job.
        let own : IsLeftBy m (touch_of (job_reach hive) (area.Hive hive)) (old_of hive) (new_of hive) left =
        subst (λ (x : Command). IsLeftBy m (touch_of (meaning m x).reach (area.Hive hive)) (old_of hive) (new_of hive) left) job is in
        let moment : IsLeftByCrash (m.seen (old_of hive)) (m.seen (new_of hive)) left =
        subst (λ (t : Touch). IsLeftBy m t (old_of hive) (new_of hive) left) (job_changes_own hive) own in
        moved (f hive) cs (at hive) left (within hive)
        (at_moment (m.seen (old_of hive)) (m.seen (new_of hive)) (IsSoundOrSettled (f hive) cs (at hive)) left (job_left hive (as_job hive job)).1 moment))
        (λ still.
        let same : areas (area.Hive hive) ≡ left =
        inside (areas (area.Hive hive)) left (sym (hold (area.Hive hive)) ∙ still_left m (touch_on hive) (old_of hive) (new_of hive) left still is) in
        (at hive, omega arith, subst (λ (a : Area). SoundArea (f hive) cs (at hive) a) same (feed.hives hive)))
        (hive_still m command hive)

  module _ (status : ℕ) (zero_of : status ≡ 0 → answer_status answer ≡ 0) (three_of : status ≡ 3 → answer_status answer ≡ 3) where
    by_status : (command : Command) (ds : Catalog) → IsEndedWith command before.input.told cs ds (answer_status answer)
        → IsEndedWith command before.input.told cs ds status
    by_status command ds ended = record {
      either = ended.either;
      told = λ zero. ended.told (zero_of zero);
      refused = λ three. ended.refused (three_of three);
    }

    abbrev CatalogAfter : Command → Type 0
    CatalogAfter command = (ds : Catalog) × HasCatalog (m.seen after.stores.catalog) base ds × Becomes (Some command) before.input.told (Ended status) cs ds

    catalog_kept : (command : Command) → IsDone m (meaning m command) before answer after → CatalogAfter command
    catalog_kept (Init other) done = (
      cs,
      record {
        lawful = feed.lawful;
        store = (
          areas area.Catalog,
          init_left other (areas area.Catalog) answer (held m after.stores.catalog) (no_index (areas area.Catalog) base cs feed.spells)
              (subst (λ (h : Option Area). Inits other h answer (held m after.stores.catalog)) (hold area.Catalog) done.acts.0),
          feed.spells,
        );
      },
      refl,
    )
    catalog_kept Publish done =
        let is = publish_made m before after answer base cs has done.acts in (is.0, is.1, by_status Publish is.0 is.2)
    catalog_kept (Names kind pairs) done =
        let is = names_made m before after answer base cs has kind pairs done.acts in (is.0, is.1, by_status (Names kind pairs) is.0 is.2)
    catalog_kept (Job hive) done = (cs, ((stays_open (job_reach hive).catalog (job_opens hive) done.keeps.catalog).spelled base cs has).0, refl)
    catalog_kept (Cursor hive) done = (cs, ((stays_open (cursor_reach hive).catalog (cursor_opens hive) done.keeps.catalog).spelled base cs has).0, refl)
    catalog_kept (Get path) done = (cs, ((stays_open Opens refl done.keeps.catalog).spelled base cs has).0, refl)

    abbrev FeedAfter : Option Command → Type 0
    FeedAfter asked = (ds : Catalog) × (to : CursorNumbers) × HoldsFeed m after.stores base ds to
        × Becomes asked before.input.told (Ended status) cs ds × NoneBehind at to

    holds_together : (a : Area) (h : HiveName → Area) → held m after.stores.catalog ≡ Some a
        → ((hive : HiveName) → held m (new_of hive) ≡ Some (h hive)) → Hold m after.stores (together a h)
    holds_together a h is are area.Catalog = is
    holds_together a h is are (area.Hive hive) = are hive

    ended_some : (command : Command) → IsDone m (meaning m command) before answer after → FeedAfter (Some command)
    ended_some command done =
        let catalog = catalog_kept command done in
        let hives : (hive : HiveName) → (to : ℕ) × (at hive ≤ to) × HoldsArea (m.seen (new_of hive)) (SoundArea (f hive) cs to) =
        (λ hive. hive_kept command done hive) in
        let a = catalog.1.store.0 in
        let h : HiveName → Area = (λ hive. (hives hive).2.0) in
        let to : CursorNumbers = (λ hive. (hives hive).0) in
        let sound : IsSoundFeed base catalog.0 to (together a h) = record {
          lawful = catalog.1.lawful;
          spells = catalog.1.store.2;
          hives = λ hive. carry_fate (f hive) cs catalog.0 (hives hive).0 (hives hive).2.0 (hives hive).2.2 command before.input.told (Ended status) catalog.2;
        } in
        (catalog.0, to, (together a h, holds_together a h catalog.1.store.1 (λ hive. (hives hive).2.1), sound), catalog.2, (λ hive. (hives hive).1))

    pub feed_ended : (asked : Option Command) → Does m asked before answer after → FeedAfter asked
    feed_ended None does = (
      cs,
      at,
      subst (λ (s : Sight B). HoldsFeed m s.stores base cs at) (sym does.1) (areas, hold, feed),
      refl,
      λ hive. omega arith,
    )
    feed_ended (Some command) done = ended_some command done

  -- a crash
  module _ (new : Areas) where
    abbrev CatalogLeft : Command → Type 0
    CatalogLeft command = (ds : Catalog) × IsCatalog ds × SpellsCatalog (new area.Catalog) base ds × Becomes (Some command) before.input.told Crashed cs ds

    left_open : IsLeftByCrash (m.seen before.stores.catalog) (m.seen after.stores.catalog) (new area.Catalog)
        → StaysSpelled (m.seen before.stores.catalog) (m.seen after.stores.catalog) → SpellsCatalog (new area.Catalog) base cs
    left_open is spelled = at_moment (m.seen before.stores.catalog) (m.seen after.stores.catalog) (λ (a : Area). SpellsCatalog a base cs) (new area.Catalog) (spelled.spelled base cs has).1 is

    by_touch : (touch : Touch) → touch ≡ Opens → IsLeftBy m touch before.stores.catalog after.stores.catalog (new area.Catalog)
        → IsLeftByCrash (m.seen before.stores.catalog) (m.seen after.stores.catalog) (new area.Catalog)
    by_touch touch is left = subst (λ (t : Touch). IsLeftBy m t before.stores.catalog after.stores.catalog (new area.Catalog)) is left

    catalog_left : (command : Command) → (MakesCatalog (Some command) → ⊥) → IsDone m (meaning m command) before answer after
        → IsLeftBy m (meaning m command).reach.catalog before.stores.catalog after.stores.catalog (new area.Catalog) → CatalogLeft command
    catalog_left (Init other) not done left = absurd (not tt)
    catalog_left Publish not done left = publish_left m before after answer base cs has (new area.Catalog) left (sure before.stores.catalog) done.acts
    catalog_left (Names kind pairs) not done left =
        names_left m before after answer base cs has kind pairs (new area.Catalog) left (sure before.stores.catalog) done.acts
    catalog_left (Job hive) not done left =
        (cs, feed.lawful, left_open (by_touch (job_reach hive).catalog (job_opens hive) left) (stays_open (job_reach hive).catalog (job_opens hive) done.keeps.catalog), refl)
    catalog_left (Cursor hive) not done left =
        (cs, feed.lawful, left_open (by_touch (cursor_reach hive).catalog (cursor_opens hive) left) (stays_open (cursor_reach hive).catalog (cursor_opens hive) done.keeps.catalog), refl)
    catalog_left (Get path) not done left = (cs, feed.lawful, left_open left (stays_open Opens refl done.keeps.catalog), refl)

    abbrev FeedLeft : Option Command → Type 0
    FeedLeft asked = (ds : Catalog) × (to : CursorNumbers) × IsSoundFeed base ds to new × Becomes asked before.input.told Crashed cs ds × NoneBehind at to

    abbrev IsLeftOf : Option Command → Type 0
    IsLeftOf asked = (name : AreaName) → IsLeftBy m (touch_of (reach_of m asked) name) (area_of before.stores name) (area_of after.stores name) (new name)

    left_some : (command : Command) → (MakesCatalog (Some command) → ⊥) → IsDone m (meaning m command) before answer after → IsLeftOf (Some command)
        → FeedLeft (Some command)
    left_some command not done left =
        let catalog = catalog_left command not done (left area.Catalog) in
        let hives : (hive : HiveName) → (to : ℕ) × (at hive ≤ to) × SoundArea (f hive) cs to (new (area.Hive hive)) =
        (λ hive. hive_left command done hive (new (area.Hive hive)) (left (area.Hive hive))) in
        let to : CursorNumbers = (λ hive. (hives hive).0) in
        let sound : IsSoundFeed base catalog.0 to new = record {
          lawful = catalog.1;
          spells = catalog.2;
          hives = λ hive. carry_fate (f hive) cs catalog.0 (hives hive).0 (new (area.Hive hive)) (hives hive).2 command before.input.told Crashed catalog.3;
        } in
        (catalog.0, to, sound, catalog.3, (λ hive. (hives hive).1))

    pub feed_left : (asked : Option Command) → (MakesCatalog asked → ⊥) → Does m asked before answer after → IsLeftOf asked → FeedLeft asked
    feed_left None not does left = (
      cs,
      at,
      same_feed base cs at areas new (λ name. sym (hold name) ∙ untouched_left m before.stores after.stores new left name) feed,
      refl,
      λ hive. omega arith,
    )
    feed_left (Some command) not done left = left_some command not done left
