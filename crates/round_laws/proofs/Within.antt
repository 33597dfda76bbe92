-- What is left within the passes of a round.
use Rattle.std.proofs.Common.{◌≡◌, ◌⊎◌, inl, inr, ⊎_elim, ◌<◌, ℕ, List, [], ◌∷◌, ◌++◌, length, Some, sym, subst}
use Rattle.std.specs.List.{Contains}
use Rattle.blob_store.specs.Area.{Area}
use Rattle.blob_store.specs.Events.{Change}
use Rattle.blob_store.specs.Runs.{IsAfterSome}
use Rattle.blob_store.specs.Steps.{AfterPrefix, after_plan}
use Rattle.blob_store.specs.declared.call.Call.{Call as StoreCall}
use Rattle.blob_store.proofs.Fronts.{front_of_none}
use Rattle.std.specs.Prelude.{map}
use Rattle.pkg_meta.specs.Catalog.{Catalog}
use Rattle.pkg_meta.specs.declared.entry.Entry.{Entry}
use Rattle.catalog_doc.specs.Catalogs.{IsCatalog}
use Rattle.cursor_doc.specs.Cursor.{cursor_name}
use Rattle.hive_state.specs.State.{state_name}
use Rattle.fold_core.specs.Docs.{MakesDocs}
use Rattle.fold_core.specs.Entries.{Keeps}
use Rattle.fold_core.specs.Folds.{Fold, fold_of, touched_by}
use Rattle.fold_core.specs.Laws.{AreOfEntries}
use Rattle.hive_laws.specs.Areas.{SoundArea}
use Rattle.hive_laws.specs.FoldLaws.{FoldLaws}
use Rattle.hive_laws.specs.Rounds.{HaveItems, IsOnTheWay, IsPartlyPassed}
use Rattle.hive_laws.proofs.AreaRounds.{on_the_way}
use Rattle.hive_laws.proofs.Listed.{first, later, nothing_in, split}
use Rattle.id_pass.specs.declared.call.Call.{Call}
use Rattle.pass_laws.proofs.Leads.{partly_led}
use Rattle.job_round.specs.Made.{AreMade, AreSomeMade}
use Rattle.job_round.specs.Plans.{AreWholePasses, IsPartPass, Pass, TakesUp, held_after, keys_in, pass_plan, passes_plan}
use Rattle.job_round.specs.Rounds.{IsTask, round_plan}
use Rattle.round_laws.proofs.Ids.{are_due}
use Rattle.round_laws.proofs.Prefixes.{front_changes, front_got, front_none, front_split, whole_front}
use Rattle.round_laws.proofs.Ways.{are_calls, only, pass_sound, some_by, starts}

pub contains_left : (key : List ℕ) (xs ys : List (List ℕ)) → Contains xs key → Contains (xs ++ ys) key
contains_left key [] ys is = absurd (nothing_in key is)
contains_left key (x ∷ xs) ys is = ⊎_elim
    (λ e. subst (λ (y : List ℕ). Contains (y ∷ xs ++ ys) key) e (first key (xs ++ ys)))
    (λ there. later x key (xs ++ ys) (contains_left key xs ys there))
    (split x key xs is)

pub contains_right : (key : List ℕ) (xs ys : List (List ℕ)) → Contains ys key → Contains (xs ++ ys) key
contains_right key [] ys is = is
contains_right key (x ∷ xs) ys is = later x key (xs ++ ys) (contains_right key xs ys is)

contains_next : (key : List ℕ) (xs ys : List (List ℕ)) → Contains (xs ++ key ∷ ys) key
contains_next key [] ys = first key ys
contains_next key (x ∷ xs) ys = later x key (xs ++ key ∷ ys) (contains_next key xs ys)

all_some : (Q : Catalog → Type 0) (calls : List Call) (made : List StoreCall) → AreMade Q calls made → AreSomeMade Q calls made
all_some Q [] [] are = tt
all_some Q [] (x ∷ made) are = are
all_some Q (call ∷ calls) [] are = tt
all_some Q (call ∷ calls) (x ∷ made) are = (are.0, all_some Q calls made are.1)

module _ (keeps : Keeps) (makes : MakesDocs) (base : List ℕ) (staged : (base key : List ℕ) (number stamp : ℕ) (es : List Entry)
    → AreOfEntries es (makes base key number stamp es))
    (cs : Catalog) (catalog : IsCatalog cs) (laws : FoldLaws (fold_of keeps makes base) cs) (Q : Catalog → Type 0) (meant : Q cs) (c : ℕ)
    (target : ℕ) (ends : target ≡ length cs) where
  abbrev f : Fold
  f = fold_of keeps makes base

  -- within a pass
  within_pass : (p : Pass) (m left : Area) → SoundArea f cs c m → c < touched_by cs p.key (length cs) → TakesUp f Q c target (Some m) p
      → AreSomeMade Q p.calls p.made
      → AfterPrefix (pass_plan p) m left → SoundArea f cs c left
  within_pass p m left sound item takes some here =
      let after : IsAfterSome p.made m left = front_changes p.made m left (front_got (state_name p.key) (map Change p.made) m left here) in
      let way : (left ≡ m) ⊎ IsPartlyPassed f cs p.key (length cs) m left =
      partly_led keeps makes base staged cs c p.key p.stored m laws
      (starts keeps makes base staged cs catalog laws Q meant c target ends p m sound item takes) p.calls p.made left
      (are_calls keeps makes base staged cs catalog laws Q meant c target ends p m sound item takes)
      (some_by keeps makes base staged cs catalog laws Q meant c p.calls p.made some) after in
      let on : IsOnTheWay f cs (length cs) (p.key ∷ []) m left = ⊎_elim (λ e. inl e) (λ part. inr (inl part)) way in
      on_the_way f cs laws c (p.key ∷ []) m left sound (only keeps makes base staged cs catalog laws Q meant c target ends p.key item) on

  -- within passes that are made whole
  pub within_passes : (passes : List Pass) (m left : Area) → SoundArea f cs c m → HaveItems cs c (length cs) (keys_in passes)
      → AreWholePasses f Q c target (Some m) passes
      → AfterPrefix (passes_plan passes) m left → SoundArea f cs c left
  within_passes [] m left sound items all here = subst (λ (a : Area). SoundArea f cs c a) (sym (front_none m left here)) sound
  within_passes (p ∷ passes) m left sound items all here =
      let item : c < touched_by cs p.key (length cs) = items p.key (first p.key (keys_in passes)) in
      ⊎_elim
      (λ own. within_pass p m left sound item all.0.takes (all_some Q p.calls p.made all.0.whole) own)
      (λ more. within_passes passes (after_plan (pass_plan p) m) left
      (pass_sound keeps makes base staged cs catalog laws Q meant c target ends p m sound item all.0)
      (λ j is. items j (later p.key j (keys_in passes) is)) all.1 more)
      (front_split (pass_plan p) (passes_plan passes) m left here)

  -- what they leave together
  pub whole_passes : (passes : List Pass) (m : Area) → SoundArea f cs c m → HaveItems cs c (length cs) (keys_in passes)
      → AreWholePasses f Q c target (Some m) passes
      → SoundArea f cs c (after_plan (passes_plan passes) m)
  whole_passes passes m sound items all =
      within_passes passes m (after_plan (passes_plan passes) m) sound items all (whole_front (passes_plan passes) m)

  -- within a pass that is made in part
  within_part : (p : Pass) (m left : Area) → SoundArea f cs c m → c < touched_by cs p.key (length cs) → IsPartPass f Q c target (Some m) p
      → AfterPrefix (pass_plan p) m left → SoundArea f cs c left
  within_part p m left sound item (inl none) here =
      let after : IsAfterSome p.made m left = front_changes p.made m left (front_got (state_name p.key) (map Change p.made) m left here) in
      subst (λ (a : Area). SoundArea f cs c a) (sym (front_of_none m left (subst (λ (l : List StoreCall). IsAfterSome l m left) none after))) sound
  within_part p m left sound item (inr part) here = within_pass p m left sound item part.0 part.1 here

  module _ (m : Area) (sound : SoundArea f cs c m) (passes : List Pass) (all : AreWholePasses f Q c target (Some m) passes) where
    task_items : (stamp : ℕ) (keys : List (List ℕ)) → IsTask Q (Some m) c target stamp keys → HaveItems cs c (length cs) keys
    task_items stamp keys task =
        subst (λ (l : List (List ℕ)). HaveItems cs c (length cs) l) (sym (task.ids cs meant)) (are_due cs c catalog.lawful).some

    -- within the whole passes of a round
    pub within_round : (stamp : ℕ) (left : Area) → IsTask Q (Some m) c target stamp (keys_in passes) → AfterPrefix (round_plan passes) m left
        → SoundArea f cs c left
    within_round stamp left task here =
        within_passes passes m left sound (task_items stamp (keys_in passes) task) all (front_got cursor_name (passes_plan passes) m left here)

    -- within those of a round that stopped in a pass
    pub within_stopped : (stamp : ℕ) (last : Pass) (rest : List (List ℕ)) (left : Area) → IsTask Q (Some m) c target stamp (keys_in passes ++ last.key ∷ rest)
        → IsPartPass f Q c target (held_after (passes_plan passes) (Some m)) last → AfterPrefix (round_plan passes ++ pass_plan last) m left
        → SoundArea f cs c left
    within_stopped stamp last rest left task part here =
        let items : HaveItems cs c (length cs) (keys_in passes ++ last.key ∷ rest) = task_items stamp (keys_in passes ++ last.key ∷ rest) task in
        let own : HaveItems cs c (length cs) (keys_in passes) = λ j is. items j (contains_left j (keys_in passes) (last.key ∷ rest) is) in
        ⊎_elim
        (λ early. within_passes passes m left sound own all (front_got cursor_name (passes_plan passes) m left early))
        (λ late. within_part last (after_plan (passes_plan passes) m) left
        (within_passes passes m (after_plan (passes_plan passes) m) sound own all (whole_front (passes_plan passes) m))
        (items last.key (contains_next last.key (keys_in passes) rest)) part late)
        (front_split (round_plan passes) (pass_plan last) m left here)
