-- RunsReads of the catalog's store, one behind the other, up to where a job stopped.
use Rattle.std.proofs.Common.{◌≡◌, ◌<◌, ◌≤◌, ◌+◌, ◌⊎◌, ℕ, zero, suc, List, [], ◌∷◌, ◌++◌, length, take, drop, get_or, Bool, true, false, cond, Some, Ok, Err, IfErr, Result, inl, inr, ⊎_elim, Option, refl, sym, ◌∙◌, ap, ap₂, subst, append_assoc, append-nil, option_map, arith}
use Rattle.std.proofs.lemmas.Bool.{lt-ltb, le-ltb}
use Rattle.std.proofs.lemmas.Bool.Decides.{nat_tests}
use Rattle.std.proofs.lemmas.Grind.{flat_map-append}
use Rattle.std.proofs.lemmas.List.{take_more, take-append-drop}
use Rattle.std.proofs.lemmas.List.Elements.{filter-append}
use Rattle.std.specs.List.{Contains, filter, flat_map}
use Rattle.std.specs.Prelude.{◌&&◌, nat_eq, nat_lt}
use Rattle.blob_store.specs.Area.{Area}
use Rattle.blob_store.specs.Laws.{both}
use Rattle.blob_store.specs.Events.{Act, Get, after_events}
use Rattle.blob_store.specs.Plans.{Makes, MakesSome, StopsAt, all_done}
use Rattle.blob_store.specs.Seen.{Seen}
use Rattle.blob_store.specs.declared.error.BlobErr.TheVariants as blob
use Rattle.blob_store.proofs.Following.{makes_then, stops_behind, stops_early}
use Rattle.blob_store.proofs.InMemory.{some_all, some_behind, some_early}
use Rattle.catalog_doc.specs.Names.{leaf_name, staged_name}
use Rattle.catalog_doc.specs.declared.row.Row.{Row}
use Rattle.catalog_items.specs.Leaves.{is_at, leaf_gets, row_with}
use Rattle.catalog_items.specs.Reads.{IsAbsent}
use Rattle.catalog_items.proofs.LeafReads.{same_number}
use Rattle.catalog_opening.specs.Errors.{IfDamagedBy}
use Rattle.catalog_opening.specs.Plans.{HaltsAt}
use Rattle.catalog_opening.specs.declared.error.ReadErr.{ReadErr}
use Rattle.catalog_opening.specs.declared.error.ReadErr.TheVariants as reading
use Rattle.catalog_rows.specs.Kept.{Kept}
use Rattle.catalog_core.specs.Opened.{IsUnsettled, Opened}
use Rattle.job_round.specs.Reads.{AreKept, ReachesBlob, RunsReads, StopsReading, leaf_get, leaf_of, leaves_behind}
use Rattle.job_round.specs.Stops.{IsOfHive, catalog_stop_of}
use Rattle.job_round.specs.declared.stop.Stop.{Stop}
use Rattle.job_round.specs.declared.stop.Stop.TheVariants.{CatalogFault, HiveFault, CatalogDamaged, HiveDamaged, Memory}

module _ (p q : List Act) where
  reaches_then : (name : List ℕ) (a b c : Seen) → Makes p a b → ReachesBlob name q b c → ReachesBlob name (p ++ q) a c
  reaches_then name a b c made (first, unmade, is, inl here) =
      (p ++ first, unmade, ap (λ (l : List Act). p ++ l) is ∙ sym (append_assoc p first (Get name ∷ unmade)), inl (makes_then p first a b c made here))
  reaches_then name a b c made (first, unmade, is, inr here) = (
    p ++ first,
    unmade,
    ap (λ (l : List Act). p ++ l) is ∙ sym (append_assoc p first (Get name ∷ unmade)),
    inr (subst (λ (l : List Act). Makes l a c) (sym (append_assoc p first (Get name ∷ []))) (makes_then p (first ++ Get name ∷ []) a b c made here)),
  )

  pub reads_then : (stop : Stop) (a b c : Seen) → Makes p a b → StopsReading q stop b c → StopsReading (p ++ q) stop a c
  reads_then CatalogFault a b c made stops = stops_behind p q blob.Failed a b c made stops
  reads_then HiveFault a b c made some = some_behind p q a b c made some
  reads_then (CatalogDamaged name) a b c made (some, reach) = (
    some_behind p q a b c made some,
    λ m is. reaches_then name a b c made (reach (after_events (all_done p) m) (made.area ∙ ap (option_map (after_events (all_done p))) is)),
  )
  reads_then (HiveDamaged name) a b c made some = some_behind p q a b c made some
  reads_then Memory a b c made (inl stops) = inl (stops_behind p q blob.Memory a b c made stops)
  reads_then Memory a b c made (inr some) = inr (some_behind p q a b c made some)

  reaches_early : (name : List ℕ) (a b : Seen) → ReachesBlob name p a b → ReachesBlob name (p ++ q) a b
  reaches_early name a b (first, unmade, is, here) = (first, unmade ++ q, ap (λ (l : List Act). l ++ q) is ∙ append_assoc first (Get name ∷ unmade) q, here)

  pub reads_early : (stop : Stop) (a b : Seen) → StopsReading p stop a b → StopsReading (p ++ q) stop a b
  reads_early CatalogFault a b stops = stops_early p q blob.Failed a b stops
  reads_early HiveFault a b some = some_early p q a b some
  reads_early (CatalogDamaged name) a b (some, reach) = (some_early p q a b some, λ m is. reaches_early name a b (reach m is))
  reads_early (HiveDamaged name) a b some = some_early p q a b some
  reads_early Memory a b (inl stops) = inl (stops_early p q blob.Memory a b stops)
  reads_early Memory a b (inr some) = inr (some_early p q a b some)

module _ (plan : List Act) (a b : Seen) (made : Makes plan a b) where
  -- all was read, and something else stopped
  pub reads_behind : (P : List ℕ → Type 0) (stop : Stop) → IsOfHive P stop → StopsReading plan stop a b
  reads_behind P CatalogFault cause = absurd cause
  reads_behind P HiveFault cause = some_all plan a b made
  reads_behind P (CatalogDamaged name) cause = absurd cause
  reads_behind P (HiveDamaged name) cause = some_all plan a b made
  reads_behind P Memory cause = inr (some_all plan a b made)

  pub reads_hive : {A : Type 0} (r : Result A Stop) → IfErr r (IsOfHive (λ n. ⊥)) → RunsReads plan a b r
  reads_hive (Ok x) cause = made
  reads_hive (Err stop) cause = reads_behind (λ n. ⊥) stop cause

-- behind a `?`
pub reads_told : {A : Type 0} (plan : List Act) (a b : Seen) (stop : Stop) (r : Result A Stop) → r ≡ Err stop → StopsReading plan stop a b → RunsReads plan a b r
reads_told {A} plan a b stop r told halts = subst (λ (x : Result A Stop). RunsReads plan a b x) (sym told) halts

-- one get, made or not
reaches_one : (name : List ℕ) (a b : Seen) → MakesSome (Get name ∷ []) a b → ReachesBlob name (Get name ∷ []) a b
reaches_one name a b ([], unmade, is, made) = ([], [], refl, inl made)
reaches_one name a b (x ∷ [], unmade, is, made) = let same : x ≡ Get name = cc in ([], [], refl, inr (subst (λ (y : Act). Makes (y ∷ []) a b) same made))
reaches_one name a b (x ∷ y ∷ first, unmade, is, made) = absurd (let no : ⊥ = cc in no)

reads_one : (name : List ℕ) (error : ReadErr) (a b : Seen) → HaltsAt (Get name ∷ []) error a b → ((m : Area) → a.held ≡ Some m → IfDamagedBy error (λ n. n ≡ name))
    → StopsReading (Get name ∷ []) (catalog_stop_of error) a b
reads_one name (reading.Damaged n) a b some is = (some, λ m held. subst (λ (l : List ℕ). ReachesBlob l (Get name ∷ []) a b) (sym (is m held)) (reaches_one name a b some))
reads_one name reading.Fault a b stops is = stops
reads_one name reading.Memory a b halts is = halts

-- the row at the place of one that is kept
at_true : (number place : ℕ) (x : Row) → x.number ≡ number → x.place ≡ place → is_at number place x ≡ true
at_true number place x n p = ap₂ (λ (a b : Bool). a && b) (same_number x.number number n) (same_number x.place place p)

at_is : (number place : ℕ) (x : Row) → is_at number place x ≡ true → (x.number ≡ number) × (x.place ≡ place)
at_is number place x is =
    let parts = both (nat_eq x.number number) (nat_eq x.place place) is in
    let one : nat_eq x.number number ≡ true = parts.0 in
    let two : nat_eq x.place place ≡ true = parts.1 in
    let n : x.number ≡ number = grind (arith, nat_tests) in
    let p : x.place ≡ place = grind (arith, nat_tests) in
    (n, p)

at_later : (number place : ℕ) (x : Row) (rows : List Row) (row : Row) → row.number ≡ number → row.place ≡ place → Contains (x ∷ rows) row
    → is_at number place x ≡ false → Contains rows row
at_later number place x rows row n p (zero, within, same) is =
    let yes : is_at number place x ≡ true = at_true number place x (ap (λ (y : Row). y.number) same ∙ n) (ap (λ (y : Row). y.place) same ∙ p) in
    let both_are : true ≡ false = sym yes ∙ is in
    absurd (let no : ⊥ = cc in no)
at_later number place x rows row n p (suc k, within, same) is = (k, omega (arith, within), same)

abbrev pub StandsAt : ℕ → ℕ → Option Row → Type 0
StandsAt number place found = (other : Row) × (found ≡ Some other) × (other.number ≡ number) × (other.place ≡ place)

pub stands : (number place : ℕ) (rows : List Row) (row : Row) → row.number ≡ number → row.place ≡ place → Contains rows row → StandsAt number place (row_with number place rows)
stands number place [] row n p there = absurd (omega (arith, there.1))
stands number place (x ∷ rows) row n p there =
    elim (is_at number place x) as (λ (b : Bool). is_at number place x ≡ b → StandsAt number place (cond b (Some x) (row_with number place rows))) [
      | true ↦ λ is. (x, refl, (at_is number place x is).0, (at_is number place x is).1)
      | false ↦ λ is. stands number place rows row n p (at_later number place x rows row n p there is)
    ] refl

-- so its leaf is what is got
pub leaf_got : (rows : List Row) (row : Row) → Contains rows row → leaf_gets (row_with row.number row.place rows) ≡ leaf_get row ∷ []
leaf_got rows row there =
    let at = stands row.number row.place rows row refl refl there in
    ap leaf_gets at.1 ∙ ap₂ (λ (n p : ℕ). Get (leaf_name n p) ∷ []) at.2 at.3

-- the leaf of a row that is no delete
module _ {B : Type 0} (o : Opened B) (a b : Seen) (row : Row) (kept : Contains o.kept.rows row) (details : row.gone ≡ false) where
  pub leaf_done : Makes (leaf_gets (row_with row.number row.place o.kept.rows)) a b → Makes (leaf_of row) a b
  leaf_done made = subst (λ (g : Bool). Makes (cond g [] (leaf_get row ∷ [])) a b) (sym details) (subst (λ (l : List Act). Makes l a b) (leaf_got o.kept.rows row kept) made)

  pub leaf_halts : (error : ReadErr) (stop : Stop) → stop ≡ catalog_stop_of error → o.settled ≡ true → b.held ≡ a.held → (Why : Area → Type 0)
      → HaltsAt (leaf_gets (row_with row.number row.place o.kept.rows)) error a b
      → ((m now : Area) → a.held ≡ Some m → b.held ≡ Some now → IfDamagedBy error (λ n. IsUnsettled m o n ⊎ ((n ≡ leaf_name row.number row.place) × Why now)))
      → StopsReading (leaf_of row) stop a b
  leaf_halts error stop told settled same Why halts damaged =
      subst (λ (g : Bool). StopsReading (cond g [] (leaf_get row ∷ [])) stop a b) (sym details)
      (subst (λ (s : Stop). StopsReading (leaf_get row ∷ []) s a b) (sym told)
      (reads_one (leaf_name row.number row.place) error a b (subst (λ (l : List Act). HaltsAt l error a b) (leaf_got o.kept.rows row kept) halts)
      (λ m is. named m error (damaged m m is (same ∙ is)))))
    where
      named : (m : Area) (e : ReadErr) → IfDamagedBy e (λ n. IsUnsettled m o n ⊎ ((n ≡ leaf_name row.number row.place) × Why m)) → IfDamagedBy e (λ n. n ≡ leaf_name row.number row.place)
      named m (reading.Damaged n) (inl here) = let no : ⊥ = cc in absurd no
      named m (reading.Damaged n) (inr there) = there.0
      named m reading.Fault is = tt
      named m reading.Memory is = tt

-- a publish's file
pub staged_halts : {B : Type 0} (o : Opened B) (a b : Seen) (number place : ℕ) (nuspec : Bool) (error : ReadErr) (stop : Stop) → stop ≡ catalog_stop_of error → o.settled ≡ true
    → b.held ≡ a.held → HaltsAt (Get (staged_name number place nuspec) ∷ []) error a b
    → ((m now : Area) → a.held ≡ Some m → b.held ≡ Some now → IfDamagedBy error (λ n. IsUnsettled m o n ⊎ IsAbsent (staged_name number place nuspec) now n))
    → StopsReading (Get (staged_name number place nuspec) ∷ []) stop a b
staged_halts o a b number place nuspec error stop told settled same halts damaged =
    subst (λ (s : Stop). StopsReading (Get (staged_name number place nuspec) ∷ []) s a b) (sym told)
    (reads_one (staged_name number place nuspec) error a b halts (λ m is. named m error (damaged m m is (same ∙ is))))
  where
    named : (m : Area) (e : ReadErr) → IfDamagedBy e (λ n. IsUnsettled m o n ⊎ IsAbsent (staged_name number place nuspec) m n) → IfDamagedBy e (λ n. n ≡ staged_name number place nuspec)
    named m (reading.Damaged n) (inl here) = let no : ⊥ = cc in absurd no
    named m (reading.Damaged n) (inr there) = there.0
    named m reading.Fault is = tt
    named m reading.Memory is = tt

-- a row that is kept stays kept
pub kept_still : {B : Type 0} (o n : Opened B) (rows : List Row) (row : Row) → n.kept ≡ o.kept → AreKept o.kept.rows rows → Contains rows row → Contains n.kept.rows row
kept_still o n rows row same kept there = subst (λ (k : Kept). Contains k.rows row) (sym same) (kept row there)

-- the leaves of rows, one behind the other
leaves_joined : (at : ℕ) (xs ys : List Row) → leaves_behind at (xs ++ ys) ≡ leaves_behind at xs ++ leaves_behind at ys
leaves_joined at xs ys =
    ap (flat_map leaf_of) (filter-append (λ (row : Row). nat_lt at row.number) xs ys)
    ∙ flat_map-append leaf_of (filter (λ (row : Row). nat_lt at row.number) xs) (filter (λ (row : Row). nat_lt at row.number) ys)

leaves_one : (at : ℕ) (row : Row) → at < row.number → leaves_behind at (row ∷ []) ≡ leaf_of row
leaves_one at row high = ap (λ (b : Bool). flat_map leaf_of (cond b (row ∷ []) [])) (lt-ltb at row.number high) ∙ append-nil (leaf_of row)

leaves_none : (at : ℕ) (row : Row) → row.number ≤ at → leaves_behind at (row ∷ []) ≡ []
leaves_none at row low = ap (λ (b : Bool). flat_map leaf_of (cond b (row ∷ []) [])) (le-ltb at row.number low)

-- in a loop over the rows
module _ (rows : List Row) (at i : ℕ) (row : Row) (within : i < length rows) (is : row ≡ get_or rows i row) where
  pub own_row : Contains rows row
  own_row = (i, within, sym is)

  taken_next : take (i + 1) rows ≡ take i rows ++ row ∷ []
  taken_next = take_more rows i row within ∙ ap (λ (r : Row). take i rows ++ r ∷ []) (sym is)

  pub leaves_skipped : (a b : Seen) → row.number ≤ at → Makes (leaves_behind at (take i rows)) a b → Makes (leaves_behind at (take (i + 1) rows)) a b
  leaves_skipped a b low made =
      subst (λ (l : List Act). Makes l a b) (sym (ap (leaves_behind at) taken_next ∙ leaves_joined at (take i rows) (row ∷ [])
      ∙ ap (λ (l : List Act). leaves_behind at (take i rows) ++ l) (leaves_none at row low) ∙ append-nil (leaves_behind at (take i rows)))) made

  leaves_next : at < row.number → leaves_behind at (take (i + 1) rows) ≡ leaves_behind at (take i rows) ++ leaf_of row
  leaves_next high =
      ap (leaves_behind at) taken_next ∙ leaves_joined at (take i rows) (row ∷ []) ∙ ap (λ (l : List Act). leaves_behind at (take i rows) ++ l) (leaves_one at row high)

  pub leaves_added : (a b c : Seen) → at < row.number → Makes (leaves_behind at (take i rows)) a b → Makes (leaf_of row) b c → Makes (leaves_behind at (take (i + 1) rows)) a c
  leaves_added a b c high made more = subst (λ (l : List Act). Makes l a c) (sym (leaves_next high)) (makes_then (leaves_behind at (take i rows)) (leaf_of row) a b c made more)

  pub leaves_stopped : (stop : Stop) (a b c : Seen) → at < row.number → Makes (leaves_behind at (take i rows)) a b → StopsReading (leaf_of row) stop b c → StopsReading (leaves_behind at rows) stop a c
  leaves_stopped stop a b c high made halts =
      let whole : leaves_behind at rows ≡ (leaves_behind at (take i rows) ++ leaf_of row) ++ leaves_behind at (drop (i + 1) rows) =
      ap (leaves_behind at) (sym (take-append-drop (i + 1) rows)) ∙ leaves_joined at (take (i + 1) rows) (drop (i + 1) rows)
      ∙ ap (λ (l : List Act). l ++ leaves_behind at (drop (i + 1) rows)) (leaves_next high) in
      subst (λ (l : List Act). StopsReading l stop a c) (sym whole)
      (reads_early (leaves_behind at (take i rows) ++ leaf_of row) (leaves_behind at (drop (i + 1) rows)) stop a c
      (reads_then (leaves_behind at (take i rows)) (leaf_of row) stop a b c made halts))
