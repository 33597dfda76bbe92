-- The calls of a round meet their conditions.
use Rattle.std.proofs.Common.{◌≡◌, inl, inr, ⊎_elim, ◌<◌, ℕ, List, [], ◌∷◌, ◌++◌, length, map, Option, Some, Ok, Err, Result, refl, sym, ◌∙◌, subst, arith}
use Rattle.std.proofs.lemmas.Bool.{cases_lt}
use Rattle.std.proofs.lemmas.List.Elements.{Contains-append_left, Contains-append_right}
use Rattle.blob_store.specs.Area.{Area}
use Rattle.blob_store.specs.Events.{Act, Change, Get}
use Rattle.blob_store.specs.Plans.{all_done}
use Rattle.blob_store.specs.Seen.{Seen}
use Rattle.blob_store.specs.Steps.{after_plan}
use Rattle.blob_store.specs.declared.call.Call.{Call as StoreCall}
use Rattle.blob_store.specs.declared.error.BlobErr.TheVariants as blob
use Rattle.pkg_meta.specs.Catalog.{Catalog}
use Rattle.pkg_meta.specs.declared.entry.Entry.{Entry}
use Rattle.catalog_doc.specs.Catalogs.{IsCatalog}
use Rattle.cursor_doc.specs.Cursor.{cursor_name, cursor_text}
use Rattle.fold_core.specs.Docs.{MakesDocs}
use Rattle.fold_core.specs.Entries.{Keeps}
use Rattle.fold_core.specs.Folds.{Fold, fold_of, touched_by}
use Rattle.fold_core.specs.Laws.{AreOfEntries}
use Rattle.feed_laws.specs.Calls.{CallsMeetOnHive, MeetAllOnHive}
use Rattle.feed_laws.proofs.HiveCalled.{joined, plan_meets, some_meet, stop_meets}
use Rattle.hive_laws.specs.Areas.{SoundArea, cursor_at}
use Rattle.hive_laws.specs.FoldLaws.{FoldLaws}
use Rattle.hive_laws.specs.Rounds.{AreDue, AreLed, HaveItems}
use Rattle.hive_laws.proofs.AreaRounds.{AllLed, idle_there, led_all, round_sound}
use Rattle.hive_laws.proofs.Listed.{first, later}
use Rattle.id_pass.specs.declared.call.Call.{Call}
use Rattle.id_pass.specs.declared.error.RoundErr.{RoundErr}
use Rattle.id_pass.specs.declared.error.RoundErr.TheVariants as told
use Rattle.id_pass.specs.declared.error.RoundOut.{RoundOut}
use Rattle.id_pass.specs.declared.error.RoundOut.TheVariants.{Done, Idle}
use Rattle.job_round.specs.Made.{AreMade, AreSomeMade}
use Rattle.job_round.specs.Plans.{AreWholePasses, IsPartPass, Pass, TakesUp, held_after, keys_in, pass_plan, passes_plan}
use Rattle.job_round.specs.Rounds.{EndsAt, IsTask, Rounds, cursor_put, round_plan}
use Rattle.round_calls.proofs.Passed.{some_meet as some_of_pass}
use Rattle.round_laws.specs.OnAreas.{OnSoundArea}
use Rattle.round_laws.proofs.Ids.{are_due}
use Rattle.round_laws.proofs.Rounding.{Known, known}
use Rattle.round_laws.proofs.Ways.{are_calls, cursor_last, pass_sound, passes_led, some_by, starts}

all_some : (Q : Catalog → Type 0) (calls : List Call) (made : List StoreCall) → AreMade Q calls made → AreSomeMade Q calls made
all_some Q [] [] are = tt
all_some Q [] (x ∷ made) are = are
all_some Q (call ∷ calls) [] are = tt
all_some Q (call ∷ calls) (x ∷ made) are = (are.0, all_some Q calls made are.1)

module _ (keeps : Keeps) (makes : MakesDocs) (base : List ℕ) (staged : (base key : List ℕ) (number stamp : ℕ) (es : List Entry)
    → AreOfEntries es (makes base key number stamp es))
    (cs : Catalog) (catalog : IsCatalog cs) (laws : FoldLaws (fold_of keeps makes base) cs) (Q : Catalog → Type 0) (meant : Q cs) (c : ℕ)
    (target : ℕ) (ends : target ≡ length cs) where
  abbrev f : Fold
  f = fold_of keeps makes base

  abbrev Meet : Area → List Act → Type 0
  Meet m plan = MeetAllOnHive f cs (length cs) m (all_done plan)

  some_meets : (p : Pass) (m : Area) → SoundArea f cs c m → c < touched_by cs p.key (length cs) → TakesUp f Q c target (Some m) p
      → AreSomeMade Q p.calls p.made → Meet m (pass_plan p)
  some_meets p m sound item takes some = (
    tt,
    some_of_pass keeps makes base staged cs c p.key p.stored m laws
        (starts keeps makes base staged cs catalog laws Q meant c target ends p m sound item takes) p.calls p.made
        (are_calls keeps makes base staged cs catalog laws Q meant c target ends p m sound item takes)
        (some_by keeps makes base staged cs catalog laws Q meant c p.calls p.made some),
  )

  pub passes_meet : (passes : List Pass) (m : Area) → SoundArea f cs c m → HaveItems cs c (length cs) (keys_in passes)
      → AreWholePasses f Q c target (Some m) passes → Meet m (passes_plan passes)
  passes_meet [] m sound items all = tt
  passes_meet (p ∷ passes) m sound items all =
      let item : c < touched_by cs p.key (length cs) = items p.key (first p.key (keys_in passes)) in
      joined f cs (length cs) (pass_plan p) (passes_plan passes) m
      (some_meets p m sound item all.0.takes (all_some Q p.calls p.made all.0.whole))
      (passes_meet passes (after_plan (pass_plan p) m)
      (pass_sound keeps makes base staged cs catalog laws Q meant c target ends p m sound item all.0)
      (λ j is. items j (later p.key j (keys_in passes) is)) all.1)

  part_meets : (p : Pass) (m : Area) → SoundArea f cs c m → c < touched_by cs p.key (length cs) → IsPartPass f Q c target (Some m) p → Meet m (pass_plan p)
  part_meets p m sound item (inl none) = (tt, subst (λ (l : List StoreCall). Meet m (map Change l)) (sym none) tt)
  part_meets p m sound item (inr part) = some_meets p m sound item part.0 part.1

  module _ (m : Area) (sound : SoundArea f cs c m) where
    due : (stamp : ℕ) (keys : List (List ℕ)) → IsTask Q (Some m) c target stamp keys → AreDue cs c (length cs) keys
    due stamp keys task = subst (λ (l : List (List ℕ)). AreDue cs c (length cs) l) (sym (task.ids cs meant)) (are_due cs c catalog.lawful)

    module _ (stamp : ℕ) (passes : List Pass) (all : AreWholePasses f Q c target (Some m) passes) where
      abbrev there : Area
      there = after_plan (passes_plan passes) m

      -- the whole passes of a round, and the cursor's put behind them
      module _ (task : IsTask Q (Some m) c target stamp (keys_in passes)) where
        own : AreDue cs c (length cs) (keys_in passes)
        own = due stamp (keys_in passes) task

        pub round_meets : Meet m (round_plan passes)
        round_meets = (tt, passes_meet passes m sound own.some all)

        led : AreLed f cs (length cs) (keys_in passes) m there
        led = passes_led keeps makes base staged cs catalog laws Q meant c target ends passes m sound own.some all

        all_led : AllLed f cs c (length cs) (keys_in passes) sound.0 m there
        all_led = led_all f cs laws c (length cs) (omega arith) (keys_in passes) sound.0 m there sound.1 own.some led

        text : cursor_at cs (length cs) ≡ Some (cursor_text target stamp)
        text = cursor_last cs c (task.behind cs meant) ∙ (λ i. Some (cursor_text (sym ends i) (sym (task.newest_is cs meant) i)))

        put_meets : Meet there (cursor_put target stamp ∷ [])
        put_meets = (
          inr (inr (
            all_led.now,
            (λ key. record { value = all_led.area.area.values key; held = all_led.area.area.held key }),
            (λ key. ⊎_elim (λ item. all_led.clean key (own.all key item))
                (λ few. idle_there f cs laws c all_led.now there all_led.area key few) (cases_lt c (touched_by cs key (length cs)))),
            refl,
            text,
          )),
          tt,
        )

        pub whole_meets : Meet m (round_plan passes ++ cursor_put target stamp ∷ [])
        whole_meets = joined f cs (length cs) (round_plan passes) (cursor_put target stamp ∷ []) m round_meets put_meets

      -- those of a round that stopped in a pass
      pub stopped_meets : (last : Pass) (rest : List (List ℕ)) → IsTask Q (Some m) c target stamp (keys_in passes ++ last.key ∷ rest)
          → IsPartPass f Q c target (held_after (passes_plan passes) (Some m)) last → Meet m (round_plan passes ++ pass_plan last)
      stopped_meets last rest task part =
          let items : HaveItems cs c (length cs) (keys_in passes ++ last.key ∷ rest) = (due stamp (keys_in passes ++ last.key ∷ rest) task).some in
          let own : HaveItems cs c (length cs) (keys_in passes) = λ j is. items j (Contains-append_left (keys_in passes) (last.key ∷ rest) j is) in
          let item : c < touched_by cs last.key (length cs) =
          items last.key (Contains-append_right (keys_in passes) (last.key ∷ rest) last.key (first last.key rest)) in
          let on : SoundArea f cs c there = round_sound f cs laws c (keys_in passes) m there sound own
          (passes_led keeps makes base staged cs catalog laws Q meant c target ends passes m sound own all) in
          joined f cs (length cs) (round_plan passes) (pass_plan last) m (tt, passes_meet passes m sound own all) (part_meets last there on item part)

-- by what the round answered
module _ (keeps : Keeps) (makes : MakesDocs) (base : List ℕ) (staged : (base key : List ℕ) (number stamp : ℕ) (es : List Entry)
    → AreOfEntries es (makes base key number stamp es))
    (cs : Catalog) (Q : Catalog → Type 0) (c : ℕ) (m : Area) (old new : Seen)
    (laws : FoldLaws (fold_of keeps makes base) cs) (on : OnSoundArea (fold_of keeps makes base) Q cs c m old) where
  abbrev g : Fold
  g = fold_of keeps makes base

  abbrev CallsMeet : Type 0
  CallsMeet = CallsMeetOnHive g cs (length cs) m old new

  ends_meet : (plan : List Act) (error : RoundErr) → MeetAllOnHive g cs (length cs) m (all_done plan) → EndsAt plan error old new → CallsMeet
  ends_meet plan told.CatalogFault meet ends = some_meet g cs (length cs) plan m meet old new ends
  ends_meet plan told.HiveFault meet ends = stop_meets g cs (length cs) plan m meet old new blob.Failed ends
  ends_meet plan (told.Damaged name) meet ends = some_meet g cs (length cs) plan m meet old new ends
  ends_meet plan told.Memory meet ends =
      ⊎_elim (stop_meets g cs (length cs) plan m meet old new blob.Memory) (some_meet g cs (length cs) plan m meet old new) ends

  module _ (n target stamp : ℕ) (passes : List Pass) (all : AreWholePasses g Q n target old.held passes) where
    module _ (keys : List (List ℕ)) (task : IsTask Q old.held n target stamp keys) where
      is : Known keeps makes base staged cs Q c m old new laws on n target stamp keys passes
      is = known keeps makes base staged cs Q c m old new laws on n target stamp keys passes task all

      ends_at : target ≡ length cs
      ends_at = is.task.ends cs on.meant

    module _ (task : IsTask Q old.held n target stamp (keys_in passes)) where
      at_passes : MeetAllOnHive g cs (length cs) m (all_done (round_plan passes))
      at_passes = round_meets keeps makes base staged cs on.catalog laws Q on.meant c target (ends_at (keys_in passes) task) m on.sound stamp passes
          (is (keys_in passes) task).all (is (keys_in passes) task).task

      at_put : MeetAllOnHive g cs (length cs) m (all_done (round_plan passes ++ cursor_put target stamp ∷ []))
      at_put = whole_meets keeps makes base staged cs on.catalog laws Q on.meant c target (ends_at (keys_in passes) task) m on.sound stamp passes
          (is (keys_in passes) task).all (is (keys_in passes) task).task

    in_pass : (last : Pass) (rest : List (List ℕ)) → IsTask Q old.held n target stamp (keys_in passes ++ last.key ∷ rest)
        → IsPartPass g Q n target (held_after (passes_plan passes) old.held) last
        → MeetAllOnHive g cs (length cs) m (all_done (round_plan passes ++ pass_plan last))
    in_pass last rest task part =
        let own = is (keys_in passes ++ last.key ∷ rest) task in
        let held : IsPartPass g Q c target (held_after (passes_plan passes) (Some m)) last =
        subst (λ (k : ℕ). IsPartPass g Q k target (held_after (passes_plan passes) (Some m)) last) own.cursor
        (subst (λ (h : Option Area). IsPartPass g Q n target (held_after (passes_plan passes) h) last) on.held part) in
        stopped_meets keeps makes base staged cs on.catalog laws Q on.meant c target (ends_at (keys_in passes ++ last.key ∷ rest) task) m on.sound stamp passes
        own.all last rest own.task held

  pub round_calls_meet : (result : Result RoundOut RoundErr) → Rounds g Q old new result → CallsMeet
  round_calls_meet (Ok (Done target)) (n, stamp, passes, task, all, made) =
      plan_meets g cs (length cs) (round_plan passes ++ cursor_put target stamp ∷ []) m (at_put n target stamp passes all task) old new made
  round_calls_meet (Ok (Idle n)) (none, made) = plan_meets g cs (length cs) (Get cursor_name ∷ []) m (tt, tt) old new made
  round_calls_meet (Err error) (inl halts) = ends_meet (Get cursor_name ∷ []) error (tt, tt) halts
  round_calls_meet (Err error) (inr (inl (n, target, stamp, passes, last, rest, task, all, part, halts))) =
      ends_meet (round_plan passes ++ pass_plan last) error (in_pass n target stamp passes all last rest task part) halts
  round_calls_meet (Err error) (inr (inr (n, target, stamp, passes, task, all, inl halts))) =
      ends_meet (round_plan passes) error (at_passes n target stamp passes all task) halts
  round_calls_meet (Err error) (inr (inr (n, target, stamp, passes, task, all, inr (e, why, stops)))) =
      stop_meets g cs (length cs) (round_plan passes ++ cursor_put target stamp ∷ []) m (at_put n target stamp passes all task) old new e stops
