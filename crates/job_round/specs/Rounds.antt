-- A round: the cursor, the passes, and the cursor's put.
use Rattle.std.specs.Prelude.{◌≡◌, ◌⊎◌, ◌<◌, ◌++◌, ℕ, List, [], ◌∷◌, length, IfSome, Option, Some, Result, ⊤}
use Rattle.std.specs.declared.result.Result.TheVariants.{Ok, Err}
use Rattle.std.specs.FinMap.{get}
use Rattle.blob_store.specs.Area.{Area}
use Rattle.blob_store.specs.Events.{Act, Get, Change}
use Rattle.blob_store.specs.Plans.{Makes, MakesSome, StopsAt}
use Rattle.blob_store.specs.Seen.{Seen}
use Rattle.blob_store.specs.declared.call.Call.TheVariants.{Put}
use Rattle.blob_store.specs.declared.error.BlobErr.{BlobErr}
use Rattle.blob_store.specs.declared.error.BlobErr.TheVariants as blob
use Rattle.pkg_meta.specs.Catalog.{Catalog}
use Rattle.pkg_meta.specs.Lawful.{newest}
use Rattle.catalog_core.specs.Opened.{IsOpenFor, IsUnsettled, Opened}
use Rattle.cursor_doc.specs.Cursor.{cursor_name, cursor_text}
use Rattle.fold_core.specs.Folds.{Fold}
use Rattle.id_pass.specs.declared.error.RoundErr.{RoundErr}
use Rattle.id_pass.specs.declared.error.RoundErr.TheVariants as told
use Rattle.id_pass.specs.declared.error.RoundOut.{RoundOut}
use Rattle.id_pass.specs.declared.error.RoundOut.TheVariants.{Done, Idle}
use Rattle.job_round.specs.Cursors.{IsCursor}
use Rattle.job_round.specs.Items.{keys_after}
use Rattle.job_round.specs.Plans.{AreWholePasses, IsPartPass, Pass, PassesHalt, held_after, keys_in, pass_plan, passes_plan}
use Rattle.job_round.specs.Stops.{JobHaltsAt, hive_stop_of}
use Rattle.job_round.specs.declared.stop.Stop.{Stop}
use Rattle.job_round.specs.declared.stop.Stop.TheVariants.{CatalogFault, HiveFault, CatalogDamaged, HiveDamaged, Memory}

-- the cursor's put
abbrev pub cursor_put : ℕ → ℕ → Act
cursor_put number stamp = Change (Put cursor_name (cursor_text number stamp))

-- the cursor is got, and the passes are made
abbrev pub round_plan : List Pass → List Act
round_plan passes = Get cursor_name ∷ passes_plan passes

-- What a round takes up, of each catalog that may be meant: the commits behind the cursor c up to the last, the target, of this stamp, and
-- the ids that have an item there.
pub record IsTask (Q : Catalog → Type 0) (held : Option Area) (c target stamp : ℕ) (keys : List (List ℕ)) : Type 0 where
  pub cursor : IfSome held (λ m. IsCursor (get m cursor_name) c)
  pub behind : (cs : Catalog) → Q cs → c < length cs
  pub ends : (cs : Catalog) → Q cs → target ≡ length cs
  pub newest_is : (cs : Catalog) → Q cs → stamp ≡ newest cs
  pub ids : (cs : Catalog) → Q cs → keys ≡ keys_after c cs

-- there is nothing to take up: the cursor found is at the last commit
pub record IsNoTask (Q : Catalog → Type 0) (held : Option Area) (c : ℕ) : Type 0 where
  pub cursor : IfSome held (λ m. IsCursor (get m cursor_name) c)
  pub last : (cs : Catalog) → Q cs → c ≡ length cs

module _ (f : Fold) (Q : Catalog → Type 0) where
  -- what a round that was done made: the passes of all its ids, and the cursor's put
  abbrev pub RoundDone : ℕ → Seen → Seen → Type 0
  RoundDone target old new = (c stamp : ℕ) × (passes : List Pass) × IsTask Q old.held c target stamp (keys_in passes)
      × AreWholePasses f Q c target old.held passes × Makes (round_plan passes ++ cursor_put target stamp ∷ []) old new

  -- one that stopped within a pass
  abbrev pub HaltsInPass : (List Act → Type 0) → Seen → Type 0
  HaltsInPass Halts old = (c target stamp : ℕ) × (passes : List Pass) × (last : Pass) × (rest : List (List ℕ))
      × IsTask Q old.held c target stamp (keys_in passes ++ last.key ∷ rest) × AreWholePasses f Q c target old.held passes
      × IsPartPass f Q c target (held_after (passes_plan passes) old.held) last × Halts (round_plan passes ++ pass_plan last)

  -- one that stopped at the cursor's put, or right before it
  abbrev pub HaltsAtPut : (List Act → Type 0) → (BlobErr → Type 0) → Seen → Seen → Type 0
  HaltsAtPut Halts IsWhy old new = (c target stamp : ℕ) × (passes : List Pass) × IsTask Q old.held c target stamp (keys_in passes)
      × AreWholePasses f Q c target old.held passes
      × (Halts (round_plan passes) ⊎ ((error : BlobErr) × IsWhy error × StopsAt (round_plan passes ++ cursor_put target stamp ∷ []) error old new))

  -- what a round that stopped made: it stopped before its passes, within one, or at the end
  abbrev pub RoundHalts : (List Act → Type 0) → (BlobErr → Type 0) → Seen → Seen → Type 0
  RoundHalts Halts IsWhy old new = Halts (Get cursor_name ∷ []) ⊎ (HaltsInPass Halts old ⊎ HaltsAtPut Halts IsWhy old new)

-- a stop that the hive's store brought about
abbrev pub IsStopOf : Stop → BlobErr → Type 0
IsStopOf stop error = stop ≡ hive_stop_of error

-- What a round made of its plan, by its answer.
abbrev pub RunsRound : Fold → (Catalog → Type 0) → Seen → Seen → Result RoundOut Stop → Type 0
RunsRound f Q old new (Ok (Done n)) = RoundDone f Q n old new
RunsRound f Q old new (Ok (Idle n)) = IsNoTask Q old.held n × Makes (Get cursor_name ∷ []) old new
RunsRound f Q old new (Err stop) = RoundHalts f Q (λ plan. JobHaltsAt plan stop old new) (IsStopOf stop) old new

-- what a round that told this made of a plan
abbrev pub EndsAt : List Act → RoundErr → Seen → Seen → Type 0
EndsAt plan told.CatalogFault old new = MakesSome plan old new
EndsAt plan told.HiveFault old new = StopsAt plan blob.Failed old new
EndsAt plan (told.Damaged name) old new = MakesSome plan old new
EndsAt plan told.Memory old new = StopsAt plan blob.Memory old new ⊎ MakesSome plan old new

-- how a store's error is told
abbrev pub round_err_of : BlobErr → RoundErr
round_err_of blob.Failed = told.HiveFault
round_err_of blob.Memory = told.Memory

-- The calls of a round on the hive's store, by its answer.
abbrev pub Rounds : Fold → (Catalog → Type 0) → Seen → Seen → Result RoundOut RoundErr → Type 0
Rounds f Q old new (Ok (Done n)) = RoundDone f Q n old new
Rounds f Q old new (Ok (Idle n)) = IsNoTask Q old.held n × Makes (Get cursor_name ∷ []) old new
Rounds f Q old new (Err error) = RoundHalts f Q (λ plan. EndsAt plan error old new) (λ e. error ≡ round_err_of e) old new

-- the last call was made, or it stopped before it or at it
abbrev pub RunsLast : {A : Type 0} → Act → Seen → Seen → Result A Stop → Type 0
RunsLast last old new (Ok a) = Makes (last ∷ []) old new
RunsLast last old new (Err stop) = JobHaltsAt [] stop old new ⊎ ((error : BlobErr) × (stop ≡ hive_stop_of error) × StopsAt (last ∷ []) error old new)

-- What taking up ids made: their passes and the cursor's put; up to where it stopped.
abbrev pub RunsTaking : {A : Type 0} → Fold → (Catalog → Type 0) → (c target stamp : ℕ) → List (List ℕ) → Seen → Seen
    → Result A Stop → Type 0
RunsTaking f Q c target stamp keys old new (Ok a) = (passes : List Pass) × (keys_in passes ≡ keys) × AreWholePasses f Q c target old.held passes
    × Makes (passes_plan passes ++ cursor_put target stamp ∷ []) old new
RunsTaking f Q c target stamp keys old new (Err stop) = JobHaltsAt [] stop old new ⊎ (PassesHalt f Q c target keys stop old new
    ⊎ ((passes : List Pass) × (keys_in passes ≡ keys) × AreWholePasses f Q c target old.held passes
    × (JobHaltsAt (passes_plan passes) stop old new ⊎ ((error : BlobErr) × (stop ≡ hive_stop_of error)
    × StopsAt (passes_plan passes ++ cursor_put target stamp ∷ []) error old new))))

-- why there is no answer where no row stands behind the cursor: the catalog gave none, or its last commit isn't the cursor's
abbrev pub IsEndStop : {B : Type 0} → Opened B → Seen → ℕ → Stop → Type 0
IsEndStop o s cursor CatalogFault = ⊤
IsEndStop o s cursor HiveFault = ⊥
IsEndStop o s cursor (CatalogDamaged name) = (m : Area) → s.held ≡ Some m → IsUnsettled m o name
IsEndStop o s cursor (HiveDamaged name) = (name ≡ cursor_name) × ((cs : Catalog) → IsOpenFor o s cs → length cs ≡ cursor → ⊥)
IsEndStop o s cursor Memory = ⊤

-- The plan was made as the answer tells.
abbrev pub EndsTo : {A : Type 0} → List Act → Seen → Seen → Result A RoundErr → Type 0
EndsTo plan old new (Ok a) = Makes plan old new
EndsTo plan old new (Err error) = EndsAt plan error old new
