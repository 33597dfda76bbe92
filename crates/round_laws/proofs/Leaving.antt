-- What a round leaves, whatever it answers.
use Rattle.std.proofs.Common.{◌≡◌, ◌≢◌, ◌⊎◌, inl, inr, ⊎_elim, ℕ, List, [], ◌∷◌, ◌++◌, length, Option, Some, Ok, Err, Result, sym, ◌∙◌, subst, append-nil}
use Rattle.std.specs.FinMap.{get}
use Rattle.blob_store.specs.Area.{Area}
use Rattle.blob_store.specs.Events.{Act, Get}
use Rattle.blob_store.specs.Plans.{StopsAt}
use Rattle.blob_store.specs.Seen.{Seen}
use Rattle.blob_store.specs.Steps.{AfterPrefix, after_plan}
use Rattle.blob_store.specs.declared.error.BlobErr.{BlobErr}
use Rattle.blob_store.specs.declared.error.BlobErr.TheVariants as blob
use Rattle.blob_store.proofs.Stepping.{after_plan-append}
use Rattle.pkg_meta.specs.Catalog.{Catalog}
use Rattle.pkg_meta.specs.declared.entry.Entry.{Entry}
use Rattle.cursor_doc.specs.Cursor.{cursor_name}
use Rattle.fold_core.specs.Docs.{MakesDocs}
use Rattle.fold_core.specs.Entries.{Keeps}
use Rattle.fold_core.specs.Folds.{Fold, fold_of}
use Rattle.fold_core.specs.Laws.{AreOfEntries}
use Rattle.hive_laws.specs.Areas.{SettledArea, SoundArea, cursor_at}
use Rattle.hive_laws.specs.FoldLaws.{FoldLaws}
use Rattle.id_pass.specs.declared.error.RoundErr.{RoundErr}
use Rattle.id_pass.specs.declared.error.RoundErr.TheVariants as told
use Rattle.id_pass.specs.declared.error.RoundOut.{RoundOut}
use Rattle.id_pass.specs.declared.error.RoundOut.TheVariants.{Done, Idle}
use Rattle.job_round.specs.Plans.{AreWholePasses, IsPartPass, Pass, held_after, keys_in, pass_plan, passes_plan}
use Rattle.job_round.specs.Rounds.{EndsAt, HaltsInPass, IsTask, Rounds, cursor_put, round_err_of, round_plan}
use Rattle.round_laws.specs.OnAreas.{HoldsArea, IsSoundOrSettled, OnSoundArea}
use Rattle.round_laws.proofs.Prefixes.{Keeps as KeepsArea, front_got, front_last, front_none, front_split, memory_holds, run_keeps, weaken}
use Rattle.round_laws.proofs.Rounding.{Known, known, whole}
use Rattle.round_laws.proofs.Within.{within_round, within_stopped}

-- a plan's end as a run of it
ends_keep : (plan : List Act) (error : RoundErr) (a b : Seen) (m : Area) (P : Area → Type 0) → a.held ≡ Some m → EndsAt plan error a b
    → ((left : Area) → AfterPrefix plan m left → P left) → KeepsArea P a b
ends_keep plan told.CatalogFault a b m P is ends to = run_keeps plan a b m is {A = Unit {0}} P (Err blob.Memory) (inr ends) to
ends_keep plan told.HiveFault a b m P is ends to = run_keeps plan a b m is {A = Unit {0}} P (Err blob.Failed) ends to
ends_keep plan (told.Damaged name) a b m P is ends to = run_keeps plan a b m is {A = Unit {0}} P (Err blob.Memory) (inr ends) to
ends_keep plan told.Memory a b m P is ends to = run_keeps plan a b m is {A = Unit {0}} P (Err blob.Memory) ends to

stops_keep : (plan : List Act) (error : BlobErr) (a b : Seen) (m : Area) (P : Area → Type 0) → a.held ≡ Some m → StopsAt plan error a b
    → ((left : Area) → AfterPrefix plan m left → P left) → KeepsArea P a b
stops_keep plan blob.Failed a b m P is stops to = run_keeps plan a b m is {A = Unit {0}} P (Err blob.Failed) stops to
stops_keep plan blob.Memory a b m P is stops to = run_keeps plan a b m is {A = Unit {0}} P (Err blob.Memory) (inl stops) to

weaker : (P R : Area → Type 0) (a b : Seen) → ((left : Area) → P left → R left) → KeepsArea P a b → KeepsArea R a b
weaker P R a b to keeps = ((keeps.0.0, keeps.0.1, to keeps.0.0 keeps.0.2), weaken P R a b to keeps.1)

module _ (keeps : Keeps) (makes : MakesDocs) (base : List ℕ) (staged : (base key : List ℕ) (number stamp : ℕ) (es : List Entry)
    → AreOfEntries es (makes base key number stamp es))
    (cs : Catalog) (Q : Catalog → Type 0) (c : ℕ) (m : Area) (old new : Seen)
    (laws : FoldLaws (fold_of keeps makes base) cs) (on : OnSoundArea (fold_of keeps makes base) Q cs c m old) where
  abbrev f : Fold
  f = fold_of keeps makes base

  abbrev IsSound : Area → Type 0
  IsSound left = SoundArea f cs c left

  abbrev IsEither : Area → Type 0
  IsEither left = IsSoundOrSettled f cs c left

  either : KeepsArea IsSound old new → KeepsArea IsEither old new
  either kept = weaker IsSound IsEither old new (λ left sound. inl sound) kept

  got_alone : (left : Area) → AfterPrefix (Get cursor_name ∷ []) m left → IsSound left
  got_alone left here = subst IsSound (sym (front_none m left (front_got cursor_name [] m left here))) on.sound

  module _ (n target stamp : ℕ) (passes : List Pass) (task : IsTask Q old.held n target stamp (keys_in passes))
      (all : AreWholePasses f Q n target old.held passes) where
    abbrev put_plan : List Act
    put_plan = round_plan passes ++ cursor_put target stamp ∷ []

    own : Known keeps makes base staged cs Q c m old new laws on n target stamp (keys_in passes) passes
    own = known keeps makes base staged cs Q c m old new laws on n target stamp (keys_in passes) passes task all

    before_put : (left : Area) → AfterPrefix (round_plan passes) m left → IsSound left
    before_put left here = within_round keeps makes base staged cs on.catalog laws Q on.meant c target (own.task.ends cs on.meant) m on.sound passes own.all
        stamp left own.task here

    at_put : (left : Area) → AfterPrefix put_plan m left → IsEither left
    at_put left here = ⊎_elim
        (λ early. inl (before_put left early))
        (λ late. ⊎_elim
        (λ none. inl (before_put left (round_plan passes, [], sym (append-nil (round_plan passes)), none)))
        (λ done. inr (subst (λ (a : Area). SettledArea f cs (length cs) a) (after_plan-append (round_plan passes) (cursor_put target stamp ∷ []) m ∙ sym done)
        (whole keeps makes base staged cs Q c m old new laws on n target stamp passes own)))
        (front_last (cursor_put target stamp) (after_plan (round_plan passes) m) left late))
        (front_split (round_plan passes) (cursor_put target stamp ∷ []) m left here)

    by_error : (error : RoundErr) (e : BlobErr) → error ≡ round_err_of e → error ≢ told.HiveFault → StopsAt put_plan e old new → HoldsArea new IsSound
    by_error error blob.Failed is other stops = absurd (other is)
    by_error error blob.Memory is other stops =
        let held = memory_holds (round_plan passes) (cursor_put target stamp) old new m on.held stops in
        (held.0, held.1, before_put held.0 held.2)

  in_pass : (error : RoundErr) → HaltsInPass f Q (λ plan. EndsAt plan error old new) old → KeepsArea IsSound old new
  in_pass error (n, target, stamp, passes, last, rest, task, all, part, halts) =
      let own = known keeps makes base staged cs Q c m old new laws on n target stamp (keys_in passes ++ last.key ∷ rest) passes task all in
      let held : IsPartPass f Q c target (held_after (passes_plan passes) (Some m)) last =
      subst (λ (k : ℕ). IsPartPass f Q k target (held_after (passes_plan passes) (Some m)) last) own.cursor
      (subst (λ (h : Option Area). IsPartPass f Q n target (held_after (passes_plan passes) h) last) on.held part) in
      ends_keep (round_plan passes ++ pass_plan last) error old new m IsSound on.held halts
      (λ left here. within_stopped keeps makes base staged cs on.catalog laws Q on.meant c target (own.task.ends cs on.meant) m on.sound passes own.all stamp
      last rest left own.task held here)

  pub keeps_either : (result : Result RoundOut RoundErr) → Rounds f Q old new result → KeepsArea IsEither old new
  keeps_either (Ok (Done target)) (n, stamp, passes, task, all, made) =
      run_keeps (round_plan passes ++ cursor_put target stamp ∷ []) old new m on.held {A = Unit {0}} IsEither (Ok tt) made
      (at_put n target stamp passes task all)
  keeps_either (Ok (Idle n)) (none, made) = either (run_keeps (Get cursor_name ∷ []) old new m on.held {A = Unit {0}} IsSound (Ok tt) made got_alone)
  keeps_either (Err error) (inl halts) = either (ends_keep (Get cursor_name ∷ []) error old new m IsSound on.held halts got_alone)
  keeps_either (Err error) (inr (inl halts)) = either (in_pass error halts)
  keeps_either (Err error) (inr (inr (n, target, stamp, passes, task, all, inl halts))) =
      either (ends_keep (round_plan passes) error old new m IsSound on.held halts (before_put n target stamp passes task all))
  keeps_either (Err error) (inr (inr (n, target, stamp, passes, task, all, inr (e, why, stops)))) =
      stops_keep (round_plan passes ++ cursor_put target stamp ∷ []) e old new m IsEither on.held stops (at_put n target stamp passes task all)

  pub stays_sound : (error : RoundErr) → Rounds f Q old new (Err error) → error ≢ told.HiveFault → HoldsArea new IsSound
  stays_sound error (inl halts) other = (ends_keep (Get cursor_name ∷ []) error old new m IsSound on.held halts got_alone).0
  stays_sound error (inr (inl halts)) other = (in_pass error halts).0
  stays_sound error (inr (inr (n, target, stamp, passes, task, all, inl halts))) other =
      (ends_keep (round_plan passes) error old new m IsSound on.held halts (before_put n target stamp passes task all)).0
  stays_sound error (inr (inr (n, target, stamp, passes, task, all, inr (e, why, stops)))) other = by_error n target stamp passes task all error e why other
      stops

  -- the cursor
  cursor_stands : (left : Area) → IsSound left → get left cursor_name ≡ get m cursor_name
  cursor_stands left sound = sound.1.area.cursor ∙ sym on.sound.1.area.cursor

  pub keeps_cursor : (error : RoundErr) → Rounds f Q old new (Err error) → error ≢ told.HiveFault
      → HoldsArea new (λ left. get left cursor_name ≡ get m cursor_name)
  keeps_cursor error rounds other =
      let held = stays_sound error rounds other in
      (held.0, held.1, cursor_stands held.0 held.2)

  pub cursor_or_last : (error : RoundErr) → Rounds f Q old new (Err error)
      → HoldsArea new (λ left. (get left cursor_name ≡ get m cursor_name)
      ⊎ ((get left cursor_name ≡ cursor_at cs (length cs)) × SettledArea f cs (length cs) left))
  cursor_or_last error rounds =
      let held = (keeps_either (Err error) rounds).0 in
      (held.0, held.1, ⊎_elim (λ sound. inl (cursor_stands held.0 sound)) (λ settled. inr (settled.1.area.cursor, settled)) held.2)
