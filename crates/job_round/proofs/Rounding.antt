-- A round: the cursor, the rows behind it, and what is taken up.
use Rattle.std.proofs.Common.{◌≡◌, ◌<◌, ◌≤◌, ◌-◌, ℕ, List, [], ◌∷◌, ◌++◌, length, map, true, Option, Some, None, IfSome, IfOk, IfErr, Ok, Err, Result, inl, inr, refl, sym, ◌∙◌, ap, subst, arith}
use Rattle.std.specs.FinMap.{get}
use Rattle.std.specs.List.{slice_get}
use Rattle.std.specs.Prelude.{IsErrOf, ⊤}
use Rattle.blob_store.specs.Area.{Area}
use Rattle.blob_store.specs.Events.{Act, Get}
use Rattle.blob_store.specs.Plans.{Makes}
use Rattle.blob_store.specs.Seen.{Seen}
use Rattle.blob_store.proofs.Following.{makes_then, stops_behind}
use Rattle.pkg_meta.specs.Catalog.{Catalog}
use Rattle.catalog_doc.specs.CatDocs.{all_rows}
use Rattle.catalog_doc.specs.declared.row.Row.{Row}
use Rattle.catalog_items.specs.ByRows.{rows_above}
use Rattle.catalog_opening.specs.Errors.{IfDamagedBy}
use Rattle.catalog_opening.specs.declared.error.ReadErr.{ReadErr}
use Rattle.catalog_opening.specs.declared.error.ReadErr.TheVariants as reading
use Rattle.catalog_rows.specs.Kept.{Kept}
use Rattle.catalog_core.specs.Framing.{StaysOpen}
use Rattle.catalog_core.specs.Opened.{IsOpenFor, IsUnsettled, Opened}
use Rattle.cursor_doc.specs.Cursor.{cursor_name}
use Rattle.fold_core.specs.Docs.{MakesDocs}
use Rattle.fold_core.specs.Entries.{Keeps}
use Rattle.fold_core.specs.Folds.{Fold, fold_of}
use Rattle.id_pass.specs.declared.error.RoundOut.{RoundOut}
use Rattle.id_pass.specs.declared.error.RoundOut.TheVariants.{Done, Idle}
use Rattle.job_round.specs.Answers.{IsLostInCatalog, IsLostInHive}
use Rattle.job_round.specs.Cursors.{IsCursor, IsNoCursor}
use Rattle.job_round.specs.Ids.{by_id, key_of_id, keys_of}
use Rattle.job_round.specs.Plans.{AreTold, AreWholePasses, IsOfPasses, IsPartPass, Pass, held_after, keys_in, pass_plan, passes_plan}
use Rattle.job_round.specs.Reads.{RunsReads, ReadsRound, ReadsSome, ReadsTaking, RoundRead, StopsReading}
use Rattle.job_round.specs.Rounds.{IsEndStop, IsTask, RunsRound, RunsTaking, cursor_put}
use Rattle.job_round.specs.Stops.{JobHaltsAt, IfDamaged, IsElse, IsOfHive, catalog_stop_of}
use Rattle.job_round.specs.declared.stop.Stop.{Stop}
use Rattle.job_round.specs.declared.stop.Stop.TheVariants.{CatalogFault, HiveFault, CatalogDamaged, HiveDamaged, Memory}
use Rattle.job_round.proofs.Halting.{halts_behind, halts_then}
use Rattle.job_round.proofs.Passing.{fewer_part, fewer_passes}
use Rattle.job_round.proofs.ReadPasses.{fewer_some, taking_from}
use Rattle.job_round.proofs.Reading.{reads_then}
use Rattle.job_round.proofs.Targets.{end_told, ids_keys, keys_are, no_row, told_ids}

abbrev pub rows_read : List Row → Result (List Row) ReadErr
rows_read rows = Ok rows

-- it stopped at the cursor, or before any id
pub round_early : (f : Fold) (Q : Catalog → Type 0) (stop : Stop) (r : Result RoundOut Stop) (a b : Seen) → r ≡ Err stop → JobHaltsAt (Get cursor_name ∷ []) stop a b → RunsRound f Q a b r
round_early f Q stop r a b told halts = subst (λ (x : Result RoundOut Stop). RunsRound f Q a b x) (sym told) (inl halts)

pub else_of_end : {B : Type 0} (o : Opened B) (s : Seen) (cursor : ℕ) (stop : Stop) → IsEndStop o s cursor stop → IsElse stop
else_of_end o s cursor CatalogFault cause = tt
else_of_end o s cursor HiveFault cause = cause
else_of_end o s cursor (CatalogDamaged name) cause = tt
else_of_end o s cursor (HiveDamaged name) cause = tt
else_of_end o s cursor Memory cause = tt

-- the cursor is none
pub cursor_lost : {A B : Type 0} (P : List ℕ → Type 0) (o : Opened B) (s : Seen) (old new : Option Area) (stop : Stop) (r : Result A Stop) → r ≡ Err stop → new ≡ old
    → IsOfHive (λ name. (name ≡ cursor_name) × IfSome old (λ m. IsNoCursor (get m cursor_name))) stop → IfErr r (IfDamaged P (IsLostInHive o s new))
cursor_lost {A} P o s old new stop r told same cause =
    subst (λ (x : Result A Stop). IfErr x (IfDamaged P (IsLostInHive o s new))) (sym told) (subst (λ (h : Option Area). IfDamaged P (IsLostInHive o s h) stop) (sym same) (by stop cause))
  where
    there : (h : Option Area) (name : List ℕ) → name ≡ cursor_name → IfSome h (λ m. IsNoCursor (get m cursor_name)) → IsLostInHive o s h name
    there None name is lost = tt
    there (Some m) name is lost = inl (is, inl lost)

    by : (x : Stop) → IsOfHive (λ name. (name ≡ cursor_name) × IfSome old (λ m. IsNoCursor (get m cursor_name))) x → IfDamaged P (IsLostInHive o s old) x
    by CatalogFault c = absurd c
    by HiveFault c = tt
    by (CatalogDamaged name) c = absurd c
    by (HiveDamaged name) c = there old name c.0 c.1
    by Memory c = tt

-- the rows weren't read
pub rows_lost : {B : Type 0} (R : List ℕ → Type 0) (o n : Opened B) (s t : Seen) (error : ReadErr) (stop : Stop) → stop ≡ catalog_stop_of error
    → ((m : Area) → s.held ≡ Some m → IfDamagedBy error (IsUnsettled m o)) → IfDamaged (IsLostInCatalog o n s t) R stop
rows_lost R o n s t error stop told damaged = subst (IfDamaged (IsLostInCatalog o n s t) R) (sym told) (by error damaged)
  where
    by : (e : ReadErr) → ((m : Area) → s.held ≡ Some m → IfDamagedBy e (IsUnsettled m o)) → IfDamaged (IsLostInCatalog o n s t) R (catalog_stop_of e)
    by (reading.Damaged name) lost = inl (λ m is. lost m is)
    by reading.Fault lost = tt
    by reading.Memory lost = tt

module _ {B : Type 0} (keeps : Keeps) (makes : MakesDocs) (o mid : Opened B) (s t : Seen) (a b : Seen) (c : ℕ) (rows : List Row)
    (stays : StaysOpen o mid s t (IsErrOf (rows_read rows) reading.Fault)) (settled : mid.settled ≡ true)
    (read : (cs : Catalog) → IsOpenFor o s cs → rows ≡ rows_above c (all_rows cs))
    (cursor : IfSome a.held (λ m. IsCursor (get m cursor_name) c)) (got : Makes (Get cursor_name ∷ []) a b) (same : b.held ≡ a.held) where
  abbrev Q : Catalog → Type 0
  Q cs = IsOpenFor o s cs

  module _ (row : Row) (is : Some row ≡ slice_get rows (length rows - 1)) where
    abbrev f : Fold
    f = fold_of keeps makes o.base

    abbrev ids_of : Catalog → Type 0
    ids_of cs = AreTold c (by_id rows) (IsOpenFor mid t) cs

    more : (cs : Catalog) → Q cs → ids_of cs
    more cs is_open = ((stays.open_for cs is_open).open_for, told_ids c cs rows (read cs is_open))

    task : (keys : List (List ℕ)) → keys ≡ map key_of_id (by_id rows) → IsTask Q a.held c row.number row.stamp keys
    task keys own = record {
      cursor = cursor;
      behind = λ cs is_open. (end_told c cs rows row is_open.lawful.lawful.commits (read cs is_open) is).behind;
      ends = λ cs is_open. (end_told c cs rows row is_open.lawful.lawful.commits (read cs is_open) is).number_is;
      newest_is = λ cs is_open. (end_told c cs rows row is_open.lawful.lawful.commits (read cs is_open) is).stamp_is;
      ids = λ cs is_open. own ∙ keys_are c cs rows (read cs is_open);
    }

    all_of : (passes : List Pass) → AreWholePasses f ids_of c row.number b.held passes → AreWholePasses f Q c row.number a.held passes
    all_of passes all = fewer_passes f c row.number ids_of Q more a.held passes (subst (λ (h : Option Area). AreWholePasses f ids_of c row.number h passes) same all)

    part_of : (passes : List Pass) (p : Pass) → IsPartPass f ids_of c row.number (held_after (passes_plan passes) b.held) p → IsPartPass f Q c row.number (held_after (passes_plan passes) a.held) p
    part_of passes p part = fewer_part f c row.number ids_of Q more (held_after (passes_plan passes) a.held) p (subst (λ (h : Option Area). IsPartPass f ids_of c row.number (held_after (passes_plan passes) h) p) same part)

    by_answer : (r : Result RoundOut Stop) (e : Seen) → IfOk r (λ out. out ≡ Done row.number) → RunsTaking f ids_of c row.number row.stamp (map key_of_id (by_id rows)) b e r → RunsRound f Q a e r
    by_answer (Ok (Done n)) e done (passes, keys, all, made) =
        let number : n ≡ row.number = cc in
        subst (λ (k : ℕ). RunsRound f Q a e (Ok (Done k))) (sym number)
        (c, row.stamp, passes, task (keys_in passes) keys, all_of passes all, makes_then (Get cursor_name ∷ []) (passes_plan passes ++ cursor_put row.number row.stamp ∷ []) a b e got made)
    by_answer (Ok (Idle n)) e done ran = absurd (let no : ⊥ = cc in no)
    by_answer (Err stop) e done (inl halts) = inl (halts_then (Get cursor_name ∷ []) [] stop a b e got halts)
    by_answer (Err stop) e done (inr (inl (passes, last, rest, keys, all, part, halts))) =
        inr (inl (
          c,
          row.number,
          row.stamp,
          passes,
          last,
          rest,
          task (keys_in passes ++ last.key ∷ rest) (sym keys),
          all_of passes all,
          part_of passes last part,
          halts_then (Get cursor_name ∷ []) (passes_plan passes ++ pass_plan last) stop a b e got halts,
        ))
    by_answer (Err stop) e done (inr (inr (passes, keys, all, inl halts))) =
        inr (inr (c, row.number, row.stamp, passes, task (keys_in passes) keys, all_of passes all, inl (halts_then (Get cursor_name ∷ []) (passes_plan passes) stop a b e got halts)))
    by_answer (Err stop) e done (inr (inr (passes, keys, all, inr (error, told, stops)))) =
        inr (inr (
          c,
          row.number,
          row.stamp,
          passes,
          task (keys_in passes) keys,
          all_of passes all,
          inr (error, told, stops_behind (Get cursor_name ∷ []) (passes_plan passes ++ cursor_put row.number row.stamp ∷ []) error a b e got stops),
        ))

    -- the ids were taken up
    pub round_taken : (r : Result RoundOut Stop) (e : Seen) → IfOk r (λ out. out ≡ Done row.number)
        → ((k : ℕ) → RunsTaking (fold_of keeps makes mid.base) (AreTold k (by_id rows) (IsOpenFor mid t)) k row.number row.stamp (map key_of_id (by_id rows)) b e r) → RunsRound f Q a e r
    round_taken r e done ran = by_answer r e done (subst (λ (base : List ℕ). RunsTaking (fold_of keeps makes base) ids_of c row.number row.stamp (map key_of_id (by_id rows)) b e r) stays.base (ran c))

    -- what was read meanwhile, of a catalog that was settled at the start
    some_of : (keys : List (List ℕ)) (Halts : List Act → Type 0) → ReadsSome f ids_of c row.number o.kept.rows keys b.held Halts → ReadsSome f Q c row.number o.kept.rows keys a.held Halts
    some_of keys Halts some = fewer_some f c row.number o.kept.rows ids_of Q more keys a.held Halts (subst (λ (h : Option Area). ReadsSome f ids_of c row.number o.kept.rows keys h Halts) same some)

    read_by : (r : Result RoundOut Stop) (e u : Seen) → IfOk r (λ out. out ≡ Done row.number) → rows ≡ rows_above c o.kept.rows
        → ReadsTaking f ids_of c row.number o.kept.rows row.stamp (map key_of_id (by_id rows)) b e s u r → ReadsRound f Q o.kept.rows a e s u r
    read_by (Ok (Idle n)) e u done above read = absurd (let no : ⊥ = cc in no)
    read_by (Ok (Done n)) e u done above (passes, keys, all, made, read) =
        let number : row.number ≡ n = (let back : n ≡ row.number = cc in sym back) in
        subst (λ (k : ℕ). RoundRead f Q o.kept.rows k a e s u) number (
          c,
          row.stamp,
          passes,
          task (keys_in passes) keys,
          keys ∙ ids_keys rows (keys_of rows) ∙ ap keys_of above,
          all_of passes all,
          makes_then (Get cursor_name ∷ []) (passes_plan passes ++ cursor_put row.number row.stamp ∷ []) a b e got made,
          read,
        )
    read_by (Err stop) e u done above some = inr (
      c,
      row.number,
      row.stamp,
      map key_of_id (by_id rows),
      task (map key_of_id (by_id rows)) refl,
      ids_keys rows (keys_of rows) ∙ ap keys_of above,
      some_of (map key_of_id (by_id rows)) (λ plan. StopsReading plan stop s u) some,
    )

    pub round_read : (r : Result RoundOut Stop) (e u : Seen) → IfOk r (λ out. out ≡ Done row.number) → mid.kept ≡ o.kept → rows ≡ rows_above c mid.kept.rows → Makes [] s t
        → ((k : ℕ) → rows ≡ rows_above k mid.kept.rows
        → ReadsTaking (fold_of keeps makes mid.base) (AreTold k (by_id rows) (IsOpenFor mid t)) k row.number mid.kept.rows row.stamp (map key_of_id (by_id rows)) b e t u r)
        → ReadsRound f Q o.kept.rows a e s u r
    round_read r e u done kept above quiet ran =
        read_by r e u done (above ∙ ap (λ (k : Kept). rows_above c k.rows) kept)
        (taking_from f ids_of c row.number o.kept.rows row.stamp (map key_of_id (by_id rows)) b e s t u r quiet
        (subst (λ (k : Kept). ReadsTaking f ids_of c row.number k.rows row.stamp (map key_of_id (by_id rows)) b e t u r) kept
        (subst (λ (base : List ℕ). ReadsTaking (fold_of keeps makes base) ids_of c row.number mid.kept.rows row.stamp (map key_of_id (by_id rows)) b e t u r) stays.base (ran c above))))

    taken_if : (n : Opened B) (u : Seen) (held : Option Area) (stop : Stop) → IsOfPasses n u (record { calls = 0; faults = 0; held = held; asked = None; left = λ k m. ⊤ }) row.number stop
        → IfDamaged (IsLostInCatalog o n s u) (IsLostInHive o s held) stop
    taken_if n u held CatalogFault cause = tt
    taken_if n u held HiveFault cause = tt
    taken_if n u held (CatalogDamaged name) cause = inr cause
    taken_if n u None (HiveDamaged name) cause = tt
    taken_if n u (Some m) (HiveDamaged name) (key, named, lost) = inr (key, row.number, (λ cs is_open. (end_told c cs rows row is_open.lawful.lawful.commits (read cs is_open) is).number_is), named, lost)
    taken_if n u held Memory cause = tt

    pub round_lost : (n : Opened B) (u e : Seen) (r : Result RoundOut Stop) → IfErr r (IsOfPasses n u e row.number) → IfErr r (IfDamaged (IsLostInCatalog o n s u) (IsLostInHive o s e.held))
    round_lost n u e (Ok x) cause = tt
    round_lost n u e (Err stop) cause = taken_if n u e.held stop cause

  -- there was nothing to take up
  module _ (none : None ≡ slice_get rows (length rows - 1)) where
    beyond : (cs : Catalog) → Q cs → length cs ≤ c
    beyond cs is_open = no_row c cs rows is_open.lawful.lawful.commits (read cs is_open) none

    pub round_ended : (r : Result RoundOut Stop) (cause : IfErr r (IsEndStop mid t c)) → IfOk r (λ out. out ≡ Idle c) → ((cs : Catalog) → IsOpenFor mid t cs → IfOk r (λ out. c ≡ length cs))
        → RunsRound (fold_of keeps makes o.base) Q a b r
    round_ended (Ok (Idle n)) cause idle last =
        let number : c ≡ n = (let back : n ≡ c = cc in sym back) in
        subst (λ (k : ℕ). RunsRound (fold_of keeps makes o.base) Q a b (Ok (Idle k))) number
        (record { cursor = cursor; last = λ cs is_open. last cs (stays.open_for cs is_open).open_for }, got)
    round_ended (Ok (Done n)) cause idle last = absurd (let no : ⊥ = cc in no)
    round_ended (Err stop) cause idle last = inl (halts_behind (Get cursor_name ∷ []) stop a b (else_of_end mid t c stop cause) got)

    at_cursor : (h : Option Area) (name : List ℕ) → name ≡ cursor_name → ((cs : Catalog) → IsOpenFor mid t cs → length cs ≡ c → ⊥) → IfSome h (λ m. IsCursor (get m cursor_name) c) → IsLostInHive o s h name
    at_cursor None name is other found = tt
    at_cursor (Some m) name is other found = inl (is, inr (c, found, λ cs is_open. less (length cs) c (beyond cs is_open) (other cs (stays.open_for cs is_open).open_for)))
      where
        less : (n k : ℕ) → n ≤ k → (n ≡ k → ⊥) → n < k
        less n k low other_than = omega (arith, low, λ (e : n ≡ k). other_than e)

    pub end_lost : (n : Opened B) (u : Seen) (r : Result RoundOut Stop) → u.held ≡ t.held → IfErr r (IsEndStop mid t c) → IfErr r (IfDamaged (IsLostInCatalog o n s u) (IsLostInHive o s b.held))
    end_lost n u (Ok x) held cause = tt
    end_lost n u (Err CatalogFault) held cause = tt
    end_lost n u (Err HiveFault) held cause = tt
    end_lost n u (Err (CatalogDamaged name)) held cause = inr (λ m is. let why = cause m (sym held ∙ is) in let no : ⊥ = cc in absurd no)
    end_lost n u (Err (HiveDamaged name)) held cause = subst (λ (h : Option Area). IsLostInHive o s h name) (sym same) (at_cursor a.held name cause.0 cause.1 cursor)
    end_lost n u (Err Memory) held cause = tt

-- what a round read where there was nothing to take up
pub idle_read : (f : Fold) (Q : Catalog → Type 0) (kept : List Row) (c : ℕ) (a e s t u : Seen) (r : Result RoundOut Stop) → IfOk r (λ out. out ≡ Idle c) → Makes [] s t → RunsReads [] t u r
    → ReadsRound f Q kept a e s u r
idle_read f Q kept c a e s t u (Ok (Idle n)) idle quiet read = makes_then [] [] s t u quiet read
idle_read f Q kept c a e s t u (Ok (Done n)) idle quiet read = absurd (let no : ⊥ = cc in no)
idle_read f Q kept c a e s t u (Err stop) idle quiet read = inl (reads_then [] [] stop s t u quiet read)

-- and where it stopped before
pub early_read : (f : Fold) (Q : Catalog → Type 0) (kept : List Row) (a e s u : Seen) (stop : Stop) (r : Result RoundOut Stop) → r ≡ Err stop → StopsReading [] stop s u
    → ReadsRound f Q kept a e s u r
early_read f Q kept a e s u stop r told halts = subst (λ (x : Result RoundOut Stop). ReadsRound f Q kept a e s u x) (sym told) (inl halts)
