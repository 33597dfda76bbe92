-- What a round leaves.
use Rattle.std.proofs.Common.{◌≡◌, ℕ, List, [], ◌∷◌, ◌++◌, length, Option, Some, Ok, sym, ◌∙◌, subst}
use Rattle.blob_store.specs.Area.{Area}
use Rattle.blob_store.specs.Events.{Get}
use Rattle.blob_store.specs.Seen.{Seen}
use Rattle.blob_store.specs.Steps.{after_plan}
use Rattle.blob_store.proofs.Stepping.{holds}
use Rattle.pkg_meta.specs.Catalog.{Catalog}
use Rattle.pkg_meta.specs.declared.entry.Entry.{Entry}
use Rattle.cursor_doc.specs.Cursor.{cursor_name}
use Rattle.fold_core.specs.Docs.{MakesDocs}
use Rattle.fold_core.specs.Entries.{Keeps}
use Rattle.fold_core.specs.Folds.{Fold, fold_of}
use Rattle.fold_core.specs.Laws.{AreOfEntries}
use Rattle.hive_laws.specs.Areas.{SettledArea, SoundArea}
use Rattle.hive_laws.specs.FoldLaws.{FoldLaws}
use Rattle.hive_laws.proofs.AreaRounds.{ended}
use Rattle.id_pass.specs.declared.error.RoundOut.TheVariants.{Done, Idle}
use Rattle.job_round.specs.Plans.{AreWholePasses, Pass, keys_in}
use Rattle.job_round.specs.Rounds.{IsNoTask, IsTask, Rounds, cursor_put, round_plan}
use Rattle.round_laws.specs.OnAreas.{HoldsArea, OnSoundArea}
use Rattle.round_laws.proofs.Ways.{cursor_is, settles, task_cursor}

module _ (keeps : Keeps) (makes : MakesDocs) (base : List ℕ) (staged : (base key : List ℕ) (number stamp : ℕ) (es : List Entry)
    → AreOfEntries es (makes base key number stamp es))
    (cs : Catalog) (Q : Catalog → Type 0) (c : ℕ) (m : Area) (old new : Seen)
    (laws : FoldLaws (fold_of keeps makes base) cs) (on : OnSoundArea (fold_of keeps makes base) Q cs c m old) where
  abbrev f : Fold
  f = fold_of keeps makes base

  -- a task, of the area and the cursor that are known
  pub record Known (n target stamp : ℕ) (keys : List (List ℕ)) (passes : List Pass) : Type 0 where
    pub task : IsTask Q (Some m) c target stamp keys
    pub all : AreWholePasses f Q c target (Some m) passes
    pub cursor : n ≡ c

  pub known : (n target stamp : ℕ) (keys : List (List ℕ)) (passes : List Pass) → IsTask Q old.held n target stamp keys
      → AreWholePasses f Q n target old.held passes
      → Known n target stamp keys passes
  known n target stamp keys passes task all =
      let own : IsTask Q (Some m) n target stamp keys = subst (λ (h : Option Area). IsTask Q h n target stamp keys) on.held task in
      let every : AreWholePasses f Q n target (Some m) passes = subst (λ (h : Option Area). AreWholePasses f Q n target h passes) on.held all in
      let e : n ≡ c = task_cursor keeps makes base staged cs on.catalog laws Q on.meant c m on.sound n target stamp keys own in
      record {
        task = subst (λ (k : ℕ). IsTask Q (Some m) k target stamp keys) e own;
        all = subst (λ (k : ℕ). AreWholePasses f Q k target (Some m) passes) e every;
        cursor = e;
      }

  pub whole : (n target stamp : ℕ) (passes : List Pass) → Known n target stamp (keys_in passes) passes
      → SettledArea f cs (length cs) (after_plan (round_plan passes ++ cursor_put target stamp ∷ []) m)
  whole n target stamp passes is = settles keeps makes base staged cs on.catalog laws Q on.meant c m on.sound target stamp passes is.task is.all

  pub settled : (target : ℕ) → Rounds f Q old new (Ok (Done target)) → HoldsArea new (SettledArea f cs (length cs))
  settled target (n, stamp, passes, task, all, made) = (
    after_plan (round_plan passes ++ cursor_put target stamp ∷ []) m,
    holds (round_plan passes ++ cursor_put target stamp ∷ []) old new m made on.held,
    whole n target stamp passes (known n target stamp (keys_in passes) passes task all),
  )

  pub idle_settled : (n : ℕ) → Rounds f Q old new (Ok (Idle n)) → (new.held ≡ Some m) × SettledArea f cs (length cs) m
  idle_settled n (none, made) =
      let own : IsNoTask Q (Some m) n = subst (λ (h : Option Area). IsNoTask Q h n) on.held none in
      let e : c ≡ length cs = sym (cursor_is cs c n _ on.catalog.lawful on.sound.1.sound.cursor on.sound.1.area.cursor own.cursor) ∙ own.last cs on.meant in
      (holds (Get cursor_name ∷ []) old new m made on.held, ended f cs laws m (subst (λ (k : ℕ). SoundArea f cs k m) e on.sound))
