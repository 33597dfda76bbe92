-- Over histories: a sound feed stays sound, and what it gives is of prefixes that reach its cursors.
use Rattle.std.proofs.Common.{◌≡◌, ◌≤◌, ℕ, List, [], ◌∷◌, length, take, Option, Some, refl, sym, ◌∙◌, ap, subst, arith}
use Rattle.std.specs.FinMap.{empty}
use Rattle.std.specs.Prelude.{IsUtf8}
use Rattle.blob_store.specs.Area.{Area, with_blob}
use Rattle.blob_store.specs.Seen.{IsSure}
use Rattle.pkg_meta.specs.Catalog.{Catalog}
use Rattle.catalog_doc.proofs.Unspelled.{none_spelled}
use Rattle.catalog_doc.specs.Documents.{index_text}
use Rattle.catalog_doc.specs.Names.{index_name}
use Rattle.catalog_laws.proofs.Kept.{none_catalog}
use Rattle.hive_laws.proofs.AreaRounds.{empty_area}
use Rattle.fold_core.specs.declared.hive.HiveName.{HiveName}
use Rattle.admin_wire.specs.declared.area.AreaName.TheVariants as area
use Rattle.admin_wire.specs.declared.line.Line.TheVariants as line
use Rattle.feed_app.specs.Answers.{answer_status}
use Rattle.feed_app.specs.Commands.{Get, Init, base_of, command_of}
use Rattle.feed_app.specs.Does.{meaning}
use Rattle.feed_app.specs.Frame.{touch_of}
use Rattle.feed_app.specs.Hives.{hive_fold, hive_name}
use Rattle.feed_app.specs.Inits.{Inits, IsInitialised}
use Rattle.feed_app.specs.Outside.{Bounds, Outside, area_of, held, input_of, output_of, sight}
use Rattle.feed_app.specs.Runs.{RunsCommand}
use Rattle.feed_app.specs.Targets.{IsHivePath}
use Rattle.feed_app.specs.Writes.{HasMore}
use Rattle.feed_app.specs.declared.answer.Answer.{Answer}
use Rattle.feed_app.specs.declared.answer.Answer.TheVariants.{Reply}
use Rattle.feed_app.specs.declared.hives.ServedHive.{ServedHive}
use Rattle.feed_app.specs.SoundHives.{HoldsHive}
use Rattle.app_laws.specs.Feeds.{Areas, CursorNumbers, Hold, HoldsFeed, IsSoundFeed, NoneBehind}
use Rattle.app_laws.specs.Histories.{Becomes, Crashed, Ended, Fate, BecomesOver, Lead, StepLeads, Step}
use Rattle.app_laws.specs.Scratch.{from_scratch}
use Rattle.app_laws.proofs.Fates.{get_found}
use Rattle.feed_app.proofs.HiveLaws.{laws_of}
use Rattle.app_laws.proofs.Kept.{feed_ended, feed_left, same_feed}
use Rattle.app_laws.proofs.Runs.{done, three_of, zero_of}
use Rattle.app_laws.proofs.Stores.{init_still, keeps_hive, still_held}

-- an `init` of status 0 made the index
init_made : (base : List ℕ) (m : Area) (answer : Answer) (new : Option Area) → Inits base (Some m) answer new → answer_status answer ≡ 0
    → IsInitialised base m new
init_made base m (Reply line.Initialised) new is zero = is
init_made base m (Reply (line.Refused why)) new is zero = absurd (omega (arith, zero))
init_made base m (Reply (line.Fault name)) new is zero = absurd (omega (arith, zero))
init_made base m (Reply line.Memory) new is zero = absurd (omega (arith, zero))
init_made base m _ new is zero = absurd is

abbrev first_areas : Area → Areas
first_areas first area.Catalog = first
first_areas first (area.Hive hive) = empty

module _ {B I O C : Type 0} (b : Bounds B I O C) (sure : (store : B) → IsSure (b.blobs.seen store)) where
  module _ (words : List (List ℕ)) (before after : Outside B I O C) (status : ℕ) (run : RunsCommand b words before status after) where
    pub command_kept : (base : List ℕ) (cs : Catalog) (at : CursorNumbers) → HoldsFeed b.blobs before.stores base cs at
        → (ds : Catalog) × (to : CursorNumbers) × HoldsFeed b.blobs after.stores base ds to
        × Becomes (command_of words) (input_of b.source before.input).told (Ended status) cs ds × NoneBehind at to
    command_kept base cs at holds =
        feed_ended b.blobs sure (sight b (base_of words) before) (sight b (base_of words) after) run.answer base cs at holds.0 holds.1 holds.2 status
        (zero_of b words before after status run) (three_of b words before after status run)
        (command_of words) run.does

    first_hold : (a : Area) → held b.blobs after.stores.catalog ≡ Some a
        → ((hive : HiveName) → held b.blobs (area_of after.stores (area.Hive hive)) ≡ Some empty) → Hold b.blobs after.stores (first_areas a)
    first_hold a is are area.Catalog = is
    first_hold a is are (area.Hive hive) = are hive

    pub feed_begun : (base : List ℕ) → command_of words ≡ Some (Init base) → IsUtf8 base → Hold b.blobs before.stores (λ name. empty) → status ≡ 0
        → HoldsFeed b.blobs after.stores base [] (λ hive. 0)
    feed_begun base asked text hold zero =
        let its = done b words before after status run (Init base) asked in
        let first = init_made base empty run.answer (held b.blobs after.stores.catalog)
        (subst (λ (h : Option Area). Inits base h run.answer (held b.blobs after.stores.catalog)) (hold area.Catalog) its.acts.0) (zero_of b words before after status run zero) in
        let index = with_blob index_name (index_text base []) empty in
        let hives : (hive : HiveName) → held b.blobs (area_of after.stores (area.Hive hive)) ≡ Some empty =
        (λ hive. still_held b.blobs (touch_of (meaning b.blobs (Init base)).reach (area.Hive hive)) (area_of before.stores (area.Hive hive))
        (area_of after.stores (area.Hive hive)) (init_still b.blobs base hive)
        (keeps_hive b.blobs (meaning b.blobs (Init base)).reach before.stores after.stores its.keeps hive) ∙ hold (area.Hive hive)) in
        let sound : IsSoundFeed base [] (λ hive. 0) (first_areas index) = record {
          lawful = none_catalog;
          spells = none_spelled base text;
          hives = λ hive. empty_area (hive_fold hive base) [] (laws_of hive base [] none_catalog.lawful);
        } in
        (first_areas index, first_hold index first.1 hives, sound)

  leads : (step : Step) (fate : Fate) (old new : Areas) (base : List ℕ) (cs : Catalog) (at : CursorNumbers) → StepLeads b step fate old new → IsSoundFeed base cs at old
      → (ds : Catalog) × (to : CursorNumbers) × IsSoundFeed base ds to new × Becomes (command_of step.words) step.input fate cs ds × NoneBehind at to
  leads step (Ended status) old new base cs at (before, after, called, run, hold) feed =
      let kept = command_kept step.words before after status run base cs at (old, called.stores, feed) in (
        kept.0,
        kept.1,
        same_feed base kept.0 kept.1 kept.2.0 new (λ name. sym (kept.2.1 name) ∙ hold name) kept.2.2,
        subst (λ (i : Option (List ℕ)). Becomes (command_of step.words) i (Ended status) cs kept.0) called.input kept.3,
        kept.4,
      )
  leads step Crashed old new base cs at (before, after, status, called, run, not, left) feed =
      let kept = feed_left b.blobs sure (sight b (base_of step.words) before) (sight b (base_of step.words) after) run.answer base cs at
      old called.stores feed new (command_of step.words) not run.does left in (
        kept.0,
        kept.1,
        kept.2,
        subst (λ (i : Option (List ℕ)). Becomes (command_of step.words) i Crashed cs kept.0) called.input kept.3,
        kept.4,
      )

  pub lead : (steps : List Step) (old new : Areas) (base : List ℕ) (cs : Catalog) (at : CursorNumbers) → Lead b steps old new → IsSoundFeed base cs at old
      → (ds : Catalog) × (to : CursorNumbers) × IsSoundFeed base ds to new × BecomesOver steps cs ds × NoneBehind at to
  lead [] old new base cs at same feed = (cs, at, same_feed base cs at old new (λ name. ap Some (sym (same name))) feed, refl, λ hive. omega arith)
  lead (step ∷ steps) old new base cs at (mid, first, rest) feed =
      let one = leads step step.fate old mid base cs at first feed in
      let more = lead steps mid new base one.0 one.1 rest one.2 in
      (more.0, more.1, more.2, (one.0, one.3, more.3), (λ hive. let p = one.4 hive in let q = more.4 hive in omega (arith, p, q)))

  pub read : (steps : List Step) (old new : Areas) (base : List ℕ) (cs : Catalog) (at : CursorNumbers) → Lead b steps old new → IsSoundFeed base cs at old
      → (words : List (List ℕ)) (before after : Outside B I O C) (status : ℕ) → RunsCommand b words before status after
      → (hive : ServedHive) (path name : List ℕ) → command_of words ≡ Some (Get path) → IsHivePath hive path name → Hold b.blobs before.stores new → status ≡ 0
      → (ds : Catalog) × (k : ℕ) × (bytes : List ℕ) × BecomesOver steps cs ds × (at (hive_name hive) ≤ k) × (k ≤ length ds)
      × (from_scratch (hive_name hive) base (take k ds) name ≡ Some bytes)
      × HasMore bytes (output_of b.sink before.output) (output_of b.sink after.output)
  read steps old new base cs at course feed words before after status run hive path name asked names hold zero =
      let now = lead steps old new base cs at course feed in
      let its : HoldsHive b.blobs before.stores (hive_name hive) base now.0 (now.1 (hive_name hive)) = record {
        catalog = record { lawful = now.2.lawful; store = (new area.Catalog, hold area.Catalog, now.2.spells) };
        sound = (new (area.Hive (hive_name hive)), hold (area.Hive (hive_name hive)), now.2.hives (hive_name hive));
      } in
      let is = get_found b words before after status run hive path name base now.0 (now.1 (hive_name hive)) asked names its zero in
      let far = now.4 (hive_name hive) in
      let reached = is.2 in
      (now.0, is.0, is.1, now.3, omega (arith, far, reached), is.3, is.4, is.5)
