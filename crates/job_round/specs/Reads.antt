-- What a round reads of the catalog's store: which blobs are got, in which order.
use Rattle.std.specs.Prelude.{◌≡◌, ◌⊎◌, ◌++◌, ℕ, List, [], ◌∷◌, filter, flat_map, nat_lt, Contains, IfSome, Option, Some, Result, if◌then◌else◌}
use Rattle.std.specs.declared.result.Result.TheVariants.{Ok, Err}
use Rattle.std.specs.FinMap.{get}
use Rattle.std.specs.List.{AllByRecursion}
use Rattle.blob_store.specs.Area.{Area}
use Rattle.blob_store.specs.Events.{Act, Get}
use Rattle.blob_store.specs.Plans.{Makes, MakesSome, StopsAt}
use Rattle.blob_store.specs.Seen.{Seen}
use Rattle.blob_store.specs.declared.error.BlobErr.TheVariants as blob
use Rattle.pkg_meta.specs.Catalog.{Catalog}
use Rattle.catalog_doc.specs.Names.{leaf_name, staged_name}
use Rattle.catalog_doc.specs.declared.row.Row.{Row}
use Rattle.catalog_items.specs.ByRows.{rows_above}
use Rattle.fold_core.specs.Folds.{Fold}
use Rattle.fold_core.specs.declared.doc.Body.TheVariants.{Made, Staged as FromPublish}
use Rattle.fold_core.specs.declared.hive.HiveName.{HiveName}
use Rattle.hive_state.specs.State.{state_name}
use Rattle.id_pass.specs.declared.call.Call.{Call}
use Rattle.id_pass.specs.declared.call.Call.TheVariants.{Put, Remove}
use Rattle.id_pass.specs.declared.error.RoundErr.{RoundErr}
use Rattle.id_pass.specs.declared.error.RoundErr.TheVariants as told
use Rattle.id_pass.specs.declared.error.RoundOut.{RoundOut}
use Rattle.id_pass.specs.declared.error.RoundOut.TheVariants.{Done, Idle}
use Rattle.job_round.specs.Answers.{in_catalog, in_hive}
use Rattle.job_round.specs.Ids.{is_row_of, keys_of}
use Rattle.job_round.specs.Plans.{AreWholePasses, IsWholePass, Pass, TakesUp, held_after, keys_in, pass_plan, passes_plan}
use Rattle.job_round.specs.Rounds.{IsTask, cursor_put, round_plan}
use Rattle.job_round.specs.States.{IsStoredState, at_in}
use Rattle.job_round.specs.declared.ids.IdRows.{IdRows}
use Rattle.job_round.specs.declared.stop.Stop.{Stop}
use Rattle.job_round.specs.declared.stop.Stop.TheVariants.{CatalogFault, HiveFault, CatalogDamaged, HiveDamaged, Memory}

-- the get of a row's leaf
abbrev pub leaf_get : Row → Act
leaf_get row = Get (leaf_name row.number row.place)

-- that of a details item; a delete is told by its row
abbrev pub leaf_of : Row → List Act
leaf_of row = if row.gone then [] else leaf_get row ∷ []

-- the leaves of those of these rows that stand behind the commit `at`, each once, in order
abbrev pub leaves_behind : ℕ → List Row → List Act
leaves_behind at rows = flat_map leaf_of (filter (λ (row : Row). nat_lt at row.number) rows)

-- what a publish brought is got, for a call that puts it
abbrev pub body_of : Call → List Act
body_of (Put name (Made bytes)) = []
body_of (Put name (FromPublish number place nuspec)) = Get (staged_name number place nuspec) ∷ []
body_of (Remove name) = []

-- for each of these calls
abbrev pub bodies_of : List Call → List Act
bodies_of calls = flat_map body_of calls

-- an id's rows behind commit c, of a catalog's rows
abbrev pub own_rows : ℕ → List Row → List ℕ → List Row
own_rows c rows key = filter (is_row_of key) (rows_above c rows)

-- the leaves that a pass reads: those of its id behind the cursor c and the state that was found
abbrev pub leaf_reads : ℕ → List Row → Pass → List Act
leaf_reads c rows p = leaves_behind (at_in p.stored) (own_rows c rows p.key)

-- all that it reads: these leaves, and then, for each call that puts what a publish brought, that file
abbrev pub pass_reads : ℕ → List Row → Pass → List Act
pass_reads c rows p = leaf_reads c rows p ++ bodies_of p.calls

-- one pass behind the other
abbrev pub passes_reads : ℕ → List Row → List Pass → List Act
passes_reads c rows passes = flat_map (pass_reads c rows) passes

-- the reads were made up to this blob's, without it or with it
abbrev pub ReachesBlob : List ℕ → List Act → Seen → Seen → Type 0
ReachesBlob name plan old new = (first : List Act) × (unmade : List Act) × (plan ≡ first ++ Get name ∷ unmade)
    × (Makes first old new ⊎ Makes (first ++ Get name ∷ []) old new)

-- How much of the reads a job that stopped made: what precedes the get that failed, or some of them. Where a blob of the catalog is damaged,
-- it is the last one, in an area that is told.
abbrev pub StopsReading : List Act → Stop → Seen → Seen → Type 0
StopsReading plan CatalogFault old new = StopsAt plan blob.Failed old new
StopsReading plan HiveFault old new = MakesSome plan old new
StopsReading plan (CatalogDamaged name) old new = MakesSome plan old new × ((m : Area) → old.held ≡ Some m → ReachesBlob name plan old new)
StopsReading plan (HiveDamaged name) old new = MakesSome plan old new
StopsReading plan Memory old new = StopsAt plan blob.Memory old new ⊎ MakesSome plan old new

-- The reads were made as the result tells.
abbrev pub RunsReads : {A : Type 0} → List Act → Seen → Seen → Result A Stop → Type 0
RunsReads plan old new (Ok a) = Makes plan old new
RunsReads plan old new (Err stop) = StopsReading plan stop old new

-- each of these rows is one of those that are kept
abbrev pub AreKept : List Row → List Row → Type 0
AreKept kept rows = (row : Row) → Contains rows row → Contains kept row

-- each of these ids has its rows behind commit c
abbrev pub HaveOwnRows : ℕ → List Row → List IdRows → Type 0
HaveOwnRows c rows ids = AllByRecursion (λ (id : IdRows). id.rows ≡ own_rows c rows id.key) ids

module _ (f : Fold) (Q : Catalog → Type 0) (c target : ℕ) (rows : List Row) where
  -- What the pass of an id was to read when it stopped: nothing before its state was found; of that state the leaves; and all, once its calls
  -- were planned.
  abbrev pub IsToRead : List ℕ → Option Area → List Act → Type 0
  IsToRead key held reads = (reads ≡ [])
      ⊎ ((p : Pass) × (p.key ≡ key) × ((IfSome held (λ m. IsStoredState p.key target (get m (state_name p.key)) p.stored)
      × (reads ≡ leaf_reads c rows p))
      ⊎ (TakesUp f Q c target held p × (reads ≡ pass_reads c rows p))))

  -- what the first of these ids was to read, if there is one
  abbrev pub IsNextToRead : List (List ℕ) → Option Area → List Act → Type 0
  IsNextToRead [] held reads = reads ≡ []
  IsNextToRead (key ∷ rest) held reads = IsToRead key held reads

  -- The pass of an id was made, on the hive's store and on the catalog's; of one that stopped, what it read.
  abbrev pub ReadsPass : {A : Type 0} → List ℕ → (old new before after : Seen) → Result A Stop → Type 0
  ReadsPass key old new before after (Ok a) = (p : Pass) × (p.key ≡ key) × IsWholePass f Q c target old.held p
      × Makes (pass_plan p) old new × Makes (pass_reads c rows p) before after
  ReadsPass key old new before after (Err stop) = (reads : List Act) × IsToRead key old.held reads × StopsReading reads stop before after

  -- The passes of these ids were made, on both.
  abbrev pub PassesRead : List (List ℕ) → (old new before after : Seen) → Type 0
  PassesRead keys old new before after = (passes : List Pass) × (keys_in passes ≡ keys) × AreWholePasses f Q c target old.held passes
      × Makes (passes_plan passes) old new × Makes (passes_reads c rows passes) before after

  -- Those of some ids were made, from the first, and of the next one some.
  abbrev pub ReadsSome : List (List ℕ) → Option Area → (List Act → Type 0) → Type 0
  ReadsSome keys held Halts = (passes : List Pass) × (rest : List (List ℕ)) × (reads : List Act) × (keys ≡ keys_in passes ++ rest)
      × AreWholePasses f Q c target held passes × IsNextToRead rest (held_after (passes_plan passes) held) reads
      × Halts (passes_reads c rows passes ++ reads)

  -- The passes of these ids were made, and read, as the result tells.
  abbrev pub ReadsPasses : {A : Type 0} → List (List ℕ) → (old new before after : Seen) → Result A Stop → Type 0
  ReadsPasses keys old new before after (Ok a) = PassesRead keys old new before after
  ReadsPasses keys old new before after (Err stop) = ReadsSome keys old.held (λ plan. StopsReading plan stop before after)

  -- With the cursor's put behind them, for which nothing is read.
  abbrev pub ReadsTaking : {A : Type 0} → (stamp : ℕ) → List (List ℕ) → (old new before after : Seen) → Result A Stop → Type 0
  ReadsTaking stamp keys old new before after (Ok a) = (passes : List Pass) × (keys_in passes ≡ keys) × AreWholePasses f Q c target old.held passes
      × Makes (passes_plan passes ++ cursor_put target stamp ∷ []) old new × Makes (passes_reads c rows passes) before after
  ReadsTaking stamp keys old new before after (Err stop) = ReadsSome keys old.held (λ plan. StopsReading plan stop before after)

module _ (f : Fold) (Q : Catalog → Type 0) (rows : List Row) where
  -- what a round that was done made of both plans: the same passes, of all ids that have a row behind the cursor
  abbrev pub RoundRead : ℕ → (old new before after : Seen) → Type 0
  RoundRead target old new before after = (c stamp : ℕ) × (passes : List Pass) × IsTask Q old.held c target stamp (keys_in passes)
      × (keys_in passes ≡ keys_of (rows_above c rows)) × AreWholePasses f Q c target old.held passes
      × Makes (round_plan passes ++ cursor_put target stamp ∷ []) old new × Makes (passes_reads c rows passes) before after

  -- one that stopped read nothing before its passes, and then some of what they read
  abbrev pub SomeRead : Option Area → (List Act → Type 0) → Type 0
  SomeRead held Halts = Halts [] ⊎ ((c target stamp : ℕ) × (keys : List (List ℕ)) × IsTask Q held c target stamp keys
      × (keys ≡ keys_of (rows_above c rows))
      × ReadsSome f Q c target rows keys held Halts)

  -- What a round read, by its answer.
  abbrev pub ReadsRound : (old new before after : Seen) → Result RoundOut Stop → Type 0
  ReadsRound old new before after (Ok (Done n)) = RoundRead n old new before after
  ReadsRound old new before after (Ok (Idle n)) = Makes [] before after
  ReadsRound old new before after (Err stop) = SomeRead old.held (λ plan. StopsReading plan stop before after)

-- how much of the reads a round that told this made
abbrev pub EndsReading : List Act → RoundErr → Seen → Seen → Type 0
EndsReading plan told.CatalogFault old new = StopsAt plan blob.Failed old new
EndsReading plan told.HiveFault old new = MakesSome plan old new
EndsReading plan (told.Damaged text) old new = MakesSome plan old new × (((hive : HiveName) × (name : List ℕ) × (text ≡ in_hive hive name))
    ⊎ ((name : List ℕ) × (text ≡ in_catalog name) × ((m : Area) → old.held ≡ Some m → ReachesBlob name plan old new)))
EndsReading plan told.Memory old new = StopsAt plan blob.Memory old new ⊎ MakesSome plan old new

-- The calls of a round on the catalog's store, which is settled and keeps these rows, by its answer: `before` and `after` are of that store,
-- `old` and `new` of the hive's.
abbrev pub RoundReads : Fold → (Catalog → Type 0) → List Row → (old new before after : Seen) → Result RoundOut RoundErr → Type 0
RoundReads f Q rows old new before after (Ok (Done n)) = RoundRead f Q rows n old new before after
RoundReads f Q rows old new before after (Ok (Idle n)) = Makes [] before after
RoundReads f Q rows old new before after (Err error) = SomeRead f Q rows old.held (λ plan. EndsReading plan error before after)
