-- What passes read, one behind the other.
use Rattle.std.proofs.Common.{◌≡◌, ◌<◌, ◌+◌, ℕ, List, [], ◌∷◌, ◌++◌, length, map, take, drop, get_or, Option, IfSome, Ok, Err, Result, inl, inr, refl, sym, ◌∙◌, ap, subst, append-nil}
use Rattle.std.proofs.lemmas.Grind.{flat_map-append}
use Rattle.std.proofs.lemmas.List.{map-append}
use Rattle.std.specs.FinMap.{get}
use Rattle.blob_store.specs.Area.{Area}
use Rattle.blob_store.specs.Events.{Act, Change, Get}
use Rattle.blob_store.specs.Plans.{Makes}
use Rattle.blob_store.specs.Seen.{Seen}
use Rattle.blob_store.specs.declared.call.Call.{Call as StoreCall}
use Rattle.blob_store.proofs.Following.{makes_then}
use Rattle.pkg_meta.specs.Catalog.{Catalog}
use Rattle.pkg_meta.specs.Lawful.{Placed}
use Rattle.pkg_meta.specs.declared.state.StateDoc.{StateDoc}
use Rattle.catalog_doc.specs.declared.row.Row.{Row}
use Rattle.fold_core.specs.Folds.{Fold}
use Rattle.hive_state.specs.State.{state_name}
use Rattle.id_pass.specs.declared.call.Call.{Call}
use Rattle.job_round.specs.Ids.{key_of_id}
use Rattle.job_round.specs.Made.{RunsCalls}
use Rattle.job_round.specs.Plans.{IsWholePass, Pass, TakesUp, held_after, keys_in, pass_plan, passes_plan}
use Rattle.job_round.specs.Reads.{IsNextToRead, IsToRead, PassesRead, RunsReads, ReadsPass, ReadsPasses, ReadsSome, ReadsTaking, StopsReading, bodies_of, leaf_reads, leaves_behind, own_rows, pass_reads, passes_reads}
use Rattle.job_round.specs.Rounds.{cursor_put}
use Rattle.job_round.specs.States.{IsStoredState, at_in}
use Rattle.job_round.specs.Stops.{IsOfHive}
use Rattle.job_round.specs.declared.ids.IdRows.{IdRows}
use Rattle.job_round.specs.declared.stop.Stop.{Stop}
use Rattle.job_round.proofs.Making.{weaker_all}
use Rattle.job_round.proofs.Passing.{all_keys, fewer_passes, fewer_takes, fewer_whole, next_keys, whole_joined}
use Rattle.job_round.proofs.Reading.{reads_behind, reads_then}

-- one pass
module _ (f : Fold) (c target : ℕ) (rows : List Row) (key : List ℕ) where
  -- nothing was read
  pub pass_unread : {A : Type 0} (Q : Catalog → Type 0) (stop : Stop) (r : Result A Stop) (a b s : Seen) → r ≡ Err stop → StopsReading [] stop s s → ReadsPass f Q c target rows key a b s s r
  pass_unread {A} Q stop r a b s told halts = subst (λ (x : Result A Stop). ReadsPass f Q c target rows key a b s s x) (sym told) ([], inl refl, halts)

  -- leaves were read, of the state that was found
  pub leaves_read : {A : Type 0} (Q : Catalog → Type 0) (stored : Option StateDoc) (stop : Stop) (r : Result A Stop) (a b s t : Seen) → r ≡ Err stop
      → IfSome a.held (λ m. IsStoredState key target (get m (state_name key)) stored) → StopsReading (leaves_behind (at_in stored) (own_rows c rows key)) stop s t
      → ReadsPass f Q c target rows key a b s t r
  leaves_read {A} Q stored stop r a b s t told found halts =
      let p : Pass = record { key = key; stored = stored; items = []; calls = []; made = [] } in
      subst (λ (x : Result A Stop). ReadsPass f Q c target rows key a b s t x) (sym told) (leaf_reads c rows p, inr (p, refl, inl (found, refl)), halts)

  module _ (Q R : Catalog → Type 0) (more : (cs : Catalog) → R cs → Q cs) (stored : Option StateDoc) (items : List Placed) (calls : List Call) where
    abbrev planned : List StoreCall → Pass
    planned made = record { key = key; stored = stored; items = items; calls = calls; made = made }

    -- and then what publishes brought
    pub pass_read : {A : Type 0} (r : Result A Stop) (a b e s t u : Seen) → ((made : List StoreCall) → TakesUp f R c target a.held (planned made))
        → Makes (Get (state_name key) ∷ []) a b → RunsCalls Q calls b e r → Makes (leaves_behind (at_in stored) (own_rows c rows key)) s t → RunsReads (bodies_of calls) t u r
        → ReadsPass f R c target rows key a e s u r
    pass_read (Ok x) a b e s t u takes got (made, all, runs) leaves bodies = (
      planned made,
      refl,
      record { takes = takes made; whole = weaker_all Q R more calls made all },
      makes_then (Get (state_name key) ∷ []) (map Change made) a b e got runs,
      makes_then (leaves_behind (at_in stored) (own_rows c rows key)) (bodies_of calls) s t u leaves bodies,
    )
    pass_read (Err stop) a b e s t u takes got ran leaves bodies = (
      pass_reads c rows (planned []),
      inr (planned [], refl, inr (takes [], refl)),
      reads_then (leaves_behind (at_in stored) (own_rows c rows key)) (bodies_of calls) stop s t u leaves bodies,
    )

-- fewer catalogs may be meant
module _ (f : Fold) (c target : ℕ) (rows : List Row) (Q R : Catalog → Type 0) (more : (cs : Catalog) → R cs → Q cs) where
  fewer_to_read : (key : List ℕ) (h : Option Area) (reads : List Act) → IsToRead f Q c target rows key h reads → IsToRead f R c target rows key h reads
  fewer_to_read key h reads (inl none) = inl none
  fewer_to_read key h reads (inr (p, is, inl found)) = inr (p, is, inl found)
  fewer_to_read key h reads (inr (p, is, inr (takes, all))) = inr (p, is, inr (fewer_takes f c target Q R more h p takes, all))

  fewer_next : (keys : List (List ℕ)) (h : Option Area) (reads : List Act) → IsNextToRead f Q c target rows keys h reads → IsNextToRead f R c target rows keys h reads
  fewer_next [] h reads none = none
  fewer_next (key ∷ keys) h reads next = fewer_to_read key h reads next

  pub fewer_read : {A : Type 0} (key : List ℕ) (a b s t : Seen) (r : Result A Stop) → ReadsPass f Q c target rows key a b s t r → ReadsPass f R c target rows key a b s t r
  fewer_read key a b s t (Ok x) (p, is, whole, made, read) = (p, is, fewer_whole f c target Q R more a.held p whole, made, read)
  fewer_read key a b s t (Err stop) (reads, to_read, halts) = (reads, fewer_to_read key a.held reads to_read, halts)

  pub fewer_some : (keys : List (List ℕ)) (h : Option Area) (Halts : List Act → Type 0) → ReadsSome f Q c target rows keys h Halts → ReadsSome f R c target rows keys h Halts
  fewer_some keys h Halts (passes, rest, reads, same, all, next, halts) =
      (passes, rest, reads, same, fewer_passes f c target Q R more h passes all, fewer_next rest (held_after (passes_plan passes) h) reads next, halts)

module _ (f : Fold) (Q : Catalog → Type 0) (c target : ℕ) (rows : List Row) where
  pub read_none : (a s : Seen) → Makes [] a a → Makes [] s s → PassesRead f Q c target rows [] a a s s
  read_none a s quiet still = ([], refl, tt, quiet, still)

  reads_joined : (passes : List Pass) (p : Pass) → passes_reads c rows (passes ++ p ∷ []) ≡ passes_reads c rows passes ++ pass_reads c rows p
  reads_joined passes p = flat_map-append (pass_reads c rows) passes (p ∷ []) ∙ ap (λ (l : List Act). passes_reads c rows passes ++ l) (append-nil (pass_reads c rows p))

  read_more : {A : Type 0} (x : A) (keys : List (List ℕ)) (key : List ℕ) (a b e s t u : Seen) → PassesRead f Q c target rows keys a b s t
      → ReadsPass f Q c target rows key b e t u (Ok x) → PassesRead f Q c target rows (keys ++ key ∷ []) a e s u
  read_more x keys key a b e s t u (passes, same, all, made, read) (p, is, whole, ran, more) = (
    passes ++ p ∷ [],
    map-append (λ (q : Pass). q.key) passes (p ∷ []) ∙ ap (λ (l : List (List ℕ)). l ++ p.key ∷ []) same ∙ ap (λ (k : List ℕ). keys ++ k ∷ []) is,
    whole_joined f Q c target a.held passes p all (subst (λ (h : Option Area). IsWholePass f Q c target h p) made.area whole),
    subst (λ (l : List Act). Makes l a e) (sym (flat_map-append pass_plan passes (p ∷ []) ∙ ap (λ (l : List Act). passes_plan passes ++ l) (append-nil (pass_plan p))))
        (makes_then (passes_plan passes) (pass_plan p) a b e made ran),
    subst (λ (l : List Act). Makes l s u) (sym (reads_joined passes p)) (makes_then (passes_reads c rows passes) (pass_reads c rows p) s t u read more),
  )

  read_stop : (stop : Stop) (keys : List (List ℕ)) (key : List ℕ) (rest : List (List ℕ)) (a b e s t u : Seen) → PassesRead f Q c target rows keys a b s t
      → ReadsPass f Q c target rows {A = Unit {0}} key b e t u (Err stop) → ReadsSome f Q c target rows (keys ++ key ∷ rest) a.held (λ plan. StopsReading plan stop s u)
  read_stop stop keys key rest a b e s t u (passes, same, all, made, read) (reads, to_read, halts) = (
    passes,
    key ∷ rest,
    reads,
    ap (λ (l : List (List ℕ)). l ++ key ∷ rest) (sym same),
    all,
    subst (λ (h : Option Area). IsToRead f Q c target rows key h reads) made.area to_read,
    reads_then (passes_reads c rows passes) reads stop s t u read halts,
  )

  next_none : (keys : List (List ℕ)) (h : Option Area) → IsNextToRead f Q c target rows keys h []
  next_none [] h = refl
  next_none (key ∷ keys) h = inl refl

  -- no pass was begun
  pub some_unbegun : (keys : List (List ℕ)) (h : Option Area) (Halts : List Act → Type 0) → Halts [] → ReadsSome f Q c target rows keys h Halts
  some_unbegun keys h Halts halts = ([], keys, [], refl, tt, next_none keys (held_after [] h), halts)

  -- all passes were made
  pub some_all : (P : List ℕ → Type 0) (stop : Stop) (keys : List (List ℕ)) (a b s t : Seen) → IsOfHive P stop → PassesRead f Q c target rows keys a b s t
      → ReadsSome f Q c target rows keys a.held (λ plan. StopsReading plan stop s t)
  some_all P stop keys a b s t cause (passes, same, all, made, read) = (
    passes,
    [],
    [],
    sym (append-nil (keys_in passes) ∙ same),
    all,
    refl,
    subst (λ (l : List Act). StopsReading l stop s t) (sym (append-nil (passes_reads c rows passes))) (reads_behind (passes_reads c rows passes) s t read P stop cause),
  )

  -- behind a `?`
  pub taking_told : {A : Type 0} (stamp : ℕ) (keys : List (List ℕ)) (a e s u : Seen) (stop : Stop) (r : Result A Stop) → r ≡ Err stop
      → ReadsSome f Q c target rows keys a.held (λ plan. StopsReading plan stop s u) → ReadsTaking f Q c target rows stamp keys a e s u r
  taking_told {A} stamp keys a e s u stop r told some = subst (λ (x : Result A Stop). ReadsTaking f Q c target rows stamp keys a e s u x) (sym told) some

  pub taking_read : {A : Type 0} (x : A) (stamp : ℕ) (keys : List (List ℕ)) (a b e s t : Seen) → PassesRead f Q c target rows keys a b s t → Makes (cursor_put target stamp ∷ []) b e
      → ReadsTaking f Q c target rows stamp keys a e s t (Ok x)
  taking_read x stamp keys a b e s t (passes, same, all, made, read) put =
      (passes, same, all, makes_then (passes_plan passes) (cursor_put target stamp ∷ []) a b e made put, read)

  -- where nothing was read before
  pub taking_from : {A : Type 0} (stamp : ℕ) (keys : List (List ℕ)) (a e s t u : Seen) (r : Result A Stop) → Makes [] s t → ReadsTaking f Q c target rows stamp keys a e t u r
      → ReadsTaking f Q c target rows stamp keys a e s u r
  taking_from stamp keys a e s t u (Ok x) quiet (passes, same, all, made, read) = (passes, same, all, made, makes_then [] (passes_reads c rows passes) s t u quiet read)
  taking_from stamp keys a e s t u (Err stop) quiet (passes, rest, reads, same, all, next, halts) =
      (passes, rest, reads, same, all, next, reads_then [] (passes_reads c rows passes ++ reads) stop s t u quiet halts)

  -- in a loop
  module _ (ids : List IdRows) (i : ℕ) (id : IdRows) (within : i < length ids) (is : id ≡ get_or ids i id) where
    pub next_read : {A : Type 0} (x : A) (a b e s t u : Seen) → PassesRead f Q c target rows (map key_of_id (take i ids)) a b s t → ReadsPass f Q c target rows id.key b e t u (Ok x)
        → PassesRead f Q c target rows (map key_of_id (take (i + 1) ids)) a e s u
    next_read x a b e s t u made ran =
        subst (λ (l : List (List ℕ)). PassesRead f Q c target rows l a e s u) (next_keys f Q c target ids i id within is)
        (read_more x (map key_of_id (take i ids)) id.key a b e s t u made ran)

    pub read_stopped : {A : Type 0} (stop : Stop) (r : Result A Stop) (a b e s t u : Seen) → r ≡ Err stop → PassesRead f Q c target rows (map key_of_id (take i ids)) a b s t
        → ReadsPass f Q c target rows {A = Unit {0}} id.key b e t u (Err stop) → ReadsPasses f Q c target rows (map key_of_id ids) a e s u r
    read_stopped {A} stop r a b e s t u told made ran =
        subst (λ (x : Result A Stop). ReadsPasses f Q c target rows (map key_of_id ids) a e s u x) (sym told)
        (subst (λ (l : List (List ℕ)). ReadsSome f Q c target rows l a.held (λ plan. StopsReading plan stop s u)) (all_keys f Q c target ids i id within is)
        (read_stop stop (map key_of_id (take i ids)) id.key (map key_of_id (drop (i + 1) ids)) a b e s t u made ran))
