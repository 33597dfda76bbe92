-- A pass of an id whose rows are told, and the passes of ids in a loop.
use Rattle.std.proofs.Common.{◌≡◌, ◌<◌, ◌⊎◌, ℕ, zero, suc, List, [], ◌∷◌, length, map, take, get_or, Bool, true, false, cond, Option, IfSome, IfErr, Err, Result, inl, inr, ⊎_elim, sym, ◌∙◌, ap, ap₂, subst, arith}
use Rattle.std.specs.FinMap.{get}
use Rattle.std.specs.List.{AllByRecursion, Contains, filter}
use Rattle.std.specs.Prelude.{IsErrOf, nat_lt}
use Rattle.blob_store.specs.Area.{Area}
use Rattle.blob_store.specs.Events.{Act, Get}
use Rattle.blob_store.specs.Plans.{Makes}
use Rattle.blob_store.specs.Seen.{Seen}
use Rattle.blob_store.specs.declared.call.Call.{Call as StoreCall}
use Rattle.pkg_meta.specs.Catalog.{Catalog}
use Rattle.pkg_meta.specs.Lawful.{Placed, all_placed}
use Rattle.pkg_meta.specs.declared.state.StateDoc.{StateDoc}
use Rattle.catalog_doc.specs.declared.row.Row.{Row}
use Rattle.catalog_items.specs.ByRows.{rows_above}
use Rattle.catalog_core.specs.Framing.{StaysOpen}
use Rattle.catalog_core.specs.Opened.{IsOpenFor, Opened}
use Rattle.catalog_rows.specs.Kept.{Kept}
use Rattle.catalog_rows.specs.Last.{placed_row}
use Rattle.fold_core.specs.Docs.{MakesDocs}
use Rattle.fold_core.specs.Entries.{Keeps}
use Rattle.fold_core.specs.Folds.{Fold, fold_of}
use Rattle.fold_core.specs.Items.{is_of}
use Rattle.hive_state.specs.State.{state_name}
use Rattle.id_pass.specs.Passes.{ArePassCalls, is_idle}
use Rattle.id_pass.specs.Placing.{all_as_placed}
use Rattle.id_pass.specs.declared.call.Call.{Call}
use Rattle.id_pass.specs.declared.placed.Placed.{Placed as Given}
use Rattle.job_round.specs.Ids.{is_row_of, key_of_id}
use Rattle.job_round.specs.Items.{AreOf, is_behind, items_after, items_behind, placed_after}
use Rattle.job_round.specs.Made.{RunsCalls}
use Rattle.job_round.specs.Plans.{AreTold, IsStateLost, IsTold, Pass, PassesMade, RunsPass, TakesUp}
use Rattle.job_round.specs.Reads.{AreKept, HaveOwnRows, PassesRead, RunsReads, ReadsPass, StopsReading, bodies_of, leaves_behind, own_rows}
use Rattle.job_round.specs.States.{IsNoState, IsStoredState, at_in}
use Rattle.job_round.specs.Stops.{JobHaltsAt, IfDamaged, IsOfHive}
use Rattle.job_round.specs.declared.ids.IdRows.{IdRows}
use Rattle.job_round.specs.declared.stop.Stop.{Stop}
use Rattle.job_round.specs.declared.stop.Stop.TheVariants.{CatalogFault, HiveFault, CatalogDamaged, HiveDamaged, Memory}
use Rattle.job_round.proofs.Passing.{fewer_pass, pass_lost, pass_ran}
use Rattle.job_round.proofs.ReadPasses.{fewer_read, leaves_read, pass_read, pass_unread}
use Rattle.job_round.proofs.Staying.{went_well}

by_place : {X : Type 0} (y : X) (l : List X) (x : X) → Contains (y ∷ l) x → (y ≡ x) ⊎ Contains l x
by_place y l x (zero, within, is) = inl is
by_place y l x (suc k, within, is) = inr (k, omega (arith, within), is)

later : {X : Type 0} (y : X) (l : List X) (x : X) → Contains l x → Contains (y ∷ l) x
later y l x (k, within, is) = (suc k, omega (arith, within), is)

filter_of : (p : Placed → Bool) (xs : List Placed) (x : Placed) → Contains (filter p xs) x → Contains xs x
filter_of p [] x there = there
filter_of p (y ∷ xs) x there =
    elim (p y) as (λ (b : Bool). Contains (cond b (y ∷ filter p xs) (filter p xs)) x → Contains (y ∷ xs) x) [
      | true ↦ λ t. ⊎_elim (λ is. (0, omega arith, is)) (λ rest. later y xs x (filter_of p xs x rest)) (by_place y (filter p xs) x t)
      | false ↦ λ t. later y xs x (filter_of p xs x t)
    ] there

row_in : (p : Row → Bool) (xs : List Row) (x : Row) → Contains (filter p xs) x → Contains xs x
row_in p [] x there = there
row_in p (y ∷ xs) x there =
    elim (p y) as (λ (b : Bool). Contains (cond b (y ∷ filter p xs) (filter p xs)) x → Contains (y ∷ xs) x) [
      | true ↦ λ t. ⊎_elim (λ is. (0, omega arith, is)) (λ rest. later y xs x (row_in p xs x rest)) (by_place y (filter p xs) x t)
      | false ↦ λ t. later y xs x (row_in p xs x t)
    ] there

after_of : (c : ℕ) (cs : Catalog) (key : List ℕ) → AreOf cs (items_after c cs key)
after_of c cs key = λ x there. filter_of (is_behind c) (all_placed cs) x (filter_of (λ (y : Placed). is_of key y.what) (placed_after c cs) x there)

-- a state that is lost
state_lost : (R : List ℕ → Type 0) (key : List ℕ) (target : ℕ) (held : Option Area) (stop : Stop) → IsOfHive (λ name. (name ≡ state_name key) × IfSome held (λ m. IsNoState key target (get m (state_name key)))) stop
    → IfDamaged R (IsStateLost target held) stop
state_lost R key target held CatalogFault cause = absurd cause
state_lost R key target held HiveFault cause = tt
state_lost R key target held (CatalogDamaged name) cause = absurd cause
state_lost R key target held (HiveDamaged name) (is, lost) = (key, is, subst (λ (n : List ℕ). IfSome held (λ m. IsNoState key target (get m n))) (sym is) lost)
state_lost R key target held Memory cause = tt

pub state_damaged : {A : Type 0} (R : List ℕ → Type 0) (key : List ℕ) (target : ℕ) (old new : Option Area) (stop : Stop) (r : Result A Stop) → r ≡ Err stop → new ≡ old
    → IsOfHive (λ name. (name ≡ state_name key) × IfSome old (λ m. IsNoState key target (get m (state_name key)))) stop → IfErr r (IfDamaged R (IsStateLost target new))
state_damaged {A} R key target old new stop r told same cause =
    subst (λ (x : Result A Stop). IfErr x (IfDamaged R (IsStateLost target new))) (sym told) (subst (λ (h : Option Area). IfDamaged R (IsStateLost target h) stop) (sym same) (state_lost R key target old stop cause))

module _ {B : Type 0} (keeps : Keeps) (makes : MakesDocs) (o : Opened B) (s : Seen) (id : IdRows) (key : List ℕ) (named : key ≡ id.key) (c target : ℕ) where
  abbrev Q : Catalog → Type 0
  Q cs = IsTold c id (IsOpenFor o s) cs

  pub told_lost : {A : Type 0} (stop : Stop) (r : Result A Stop) (a b : Seen) → r ≡ Err stop → JobHaltsAt (Get (state_name key) ∷ []) stop a b → RunsPass (fold_of keeps makes o.base) Q c target id.key a b r
  told_lost stop r a b told halts = subst (λ (k : List ℕ). RunsPass (fold_of keeps makes o.base) Q c target k a b r) named (pass_lost (fold_of keeps makes o.base) c target key Q stop r a b told halts)

  pub told_unread : {A : Type 0} (kept : List Row) (stop : Stop) (r : Result A Stop) (a b e : Seen) → r ≡ Err stop → StopsReading [] stop e e
      → ReadsPass (fold_of keeps makes o.base) Q c target kept id.key a b e e r
  told_unread kept stop r a b e told halts = pass_unread (fold_of keeps makes o.base) c target kept id.key Q stop r a b e told halts

  module _ (kept : List Row) (own : id.rows ≡ own_rows c kept id.key) (stored : Option StateDoc) (at : ℕ) (at_is : at ≡ at_in stored) (rows : List Row) (rows_are : rows ≡ id.rows) where
    same_leaves : leaves_behind at rows ≡ leaves_behind (at_in stored) (own_rows c kept key)
    same_leaves = ap₂ leaves_behind at_is (rows_are ∙ own ∙ ap (own_rows c kept) (sym named))

    pub told_leaves : {A : Type 0} (stop : Stop) (r : Result A Stop) (a b s t : Seen) → r ≡ Err stop
        → IfSome a.held (λ m. IsStoredState key target (get m (state_name key)) stored) → StopsReading (leaves_behind at rows) stop s t
        → ReadsPass (fold_of keeps makes o.base) Q c target kept id.key a b s t r
    told_leaves {A} stop r a b s t told found halts =
        subst (λ (k : List ℕ). ReadsPass (fold_of keeps makes o.base) Q c target kept k a b s t r) named
        (leaves_read (fold_of keeps makes o.base) c target kept key Q stored stop r a b s t told found (subst (λ (l : List Act). StopsReading l stop s t) same_leaves halts))

  module _ (stored : Option StateDoc) (given : List Given) (plan : List Call) (mid : Opened B) (t : Seen) (at : ℕ) (rows : List Row) (base : List ℕ) (old : Option StateDoc) (these : List Placed)
      (stays : StaysOpen o mid s t (IsErrOf went_well CatalogFault)) (at_is : at ≡ at_in stored) (rows_are : rows ≡ id.rows)
      (items : (cs : Catalog) (xs : List Placed) → IsOpenFor o s cs → AreOf cs xs → rows ≡ map placed_row xs → all_as_placed given ≡ filter (is_behind at) xs)
      (base_is : base ≡ mid.base) (old_is : old ≡ stored) (these_are : these ≡ all_as_placed given)
      (idle : is_idle old these ≡ true → plan ≡ []) (calls : is_idle old these ≡ false → ArePassCalls keeps makes base key old these target plan) where
    abbrev pass_made : List StoreCall → Pass
    pass_made made = record { key = key; stored = stored; items = all_as_placed given; calls = plan; made = made }

    -- what it takes up
    told_takes : (a : Seen) → IfSome a.held (λ m. IsStoredState key target (get m (state_name key)) stored) → (made : List StoreCall)
        → TakesUp (fold_of keeps makes o.base) Q c target a.held (pass_made made)
    told_takes a found made = record {
      stored = found;
      items = λ cs told.
          let own : rows ≡ map placed_row (items_after c cs key) = rows_are ∙ told.1 ∙ ap (λ (k : List ℕ). map placed_row (items_after c cs k)) (sym named) in
          items cs (items_after c cs key) told.0 (after_of c cs key) own ∙ ap (λ (n : ℕ). items_behind c n cs key) at_is;
      planned = record {
        idle = λ is. idle (ap₂ is_idle old_is these_are ∙ is);
        calls = λ is.
            subst (λ (x : List ℕ). ArePassCalls keeps makes x key stored (all_as_placed given) target plan) (base_is ∙ stays.base)
            (subst (λ (x : Option StateDoc). ArePassCalls keeps makes base key x (all_as_placed given) target plan) old_is
            (subst (λ (x : List Placed). ArePassCalls keeps makes base key old x target plan) these_are (calls (ap₂ is_idle old_is these_are ∙ is))));
      };
    }

    pub told_ran : {A : Type 0} (r : Result A Stop) (a b e : Seen) → IfSome a.held (λ m. IsStoredState key target (get m (state_name key)) stored)
        → Makes (Get (state_name key) ∷ []) a b → RunsCalls (IsOpenFor mid t) plan b e r → RunsPass (fold_of keeps makes o.base) Q c target id.key a e r
    told_ran r a b e found got ran =
        subst (λ (k : List ℕ). RunsPass (fold_of keeps makes o.base) Q c target k a e r) named
        (pass_ran (fold_of keeps makes o.base) c target key (IsOpenFor mid t) Q (λ cs told. (stays.open_for cs told.0).open_for) stored (all_as_placed given) plan r a b e found
        (told_takes a found []).items (λ made. (told_takes a found made).planned) got ran)

    pub told_read : {A : Type 0} (kept : List Row) (own : id.rows ≡ own_rows c kept id.key) (r : Result A Stop) (a b e u : Seen) → IfSome a.held (λ m. IsStoredState key target (get m (state_name key)) stored)
        → Makes (Get (state_name key) ∷ []) a b → RunsCalls (IsOpenFor mid t) plan b e r → Makes (leaves_behind at rows) s t → RunsReads (bodies_of plan) t u r
        → ReadsPass (fold_of keeps makes o.base) Q c target kept id.key a e s u r
    told_read kept own r a b e u found got ran leaves bodies =
        subst (λ (k : List ℕ). ReadsPass (fold_of keeps makes o.base) Q c target kept k a e s u r) named
        (pass_read (fold_of keeps makes o.base) c target kept key (IsOpenFor mid t) Q (λ cs told. (stays.open_for cs told.0).open_for) stored (all_as_placed given) plan r a b e s t u
        (told_takes a found) got ran (subst (λ (l : List Act). Makes l s t) (same_leaves kept own stored at at_is rows rows_are) leaves) bodies)

-- an id's rows are kept
pub own_kept : (c : ℕ) (kept : List Row) (key : List ℕ) (rows : List Row) → rows ≡ own_rows c kept key → AreKept kept rows
own_kept c kept key rows same row there =
    row_in (λ (x : Row). nat_lt c x.number) kept row (row_in (is_row_of key) (rows_above c kept) row (subst (λ (l : List Row). Contains l row) same there))

-- the passes so far
pub record PassesSoFar {B : Type 0} (keeps : Keeps) (makes : MakesDocs) (o n : Opened B) (s t : Seen) (old new : Seen) (ids : List IdRows) (target i : ℕ) : Type 0 where
  pub stays : StaysOpen o n s t (IsErrOf went_well CatalogFault)
  pub made : (c : ℕ) → PassesMade (fold_of keeps makes o.base) (AreTold c ids (IsOpenFor o s)) c target (map key_of_id (take i ids)) old new
  pub read : (c : ℕ) → o.settled ≡ true → HaveOwnRows c o.kept.rows ids
      → PassesRead (fold_of keeps makes o.base) (AreTold c ids (IsOpenFor o s)) c target o.kept.rows (map key_of_id (take i ids)) old new s t

all_at : {X : Type 0} (P : X → Type 0) (xs : List X) (i : ℕ) (d : X) → i < length xs → AllByRecursion P xs → P (get_or xs i d)
all_at P [] i d within all = absurd (omega (arith, within))
all_at P (x ∷ xs) zero d within all = all.0
all_at P (x ∷ xs) (suc i) d within all = all_at P xs i d (omega (arith, within)) all.1

-- the next pass, said of the ids and the catalog at the start
pub next_of : {B A : Type 0} (keeps : Keeps) (makes : MakesDocs) (o mid : Opened B) (s t : Seen) (ids : List IdRows) (i : ℕ) (id : IdRows) (c target : ℕ) (a b : Seen) (r : Result A Stop)
    → i < length ids → id ≡ get_or ids i id → StaysOpen o mid s t (IsErrOf went_well CatalogFault)
    → RunsPass (fold_of keeps makes mid.base) (IsTold c id (IsOpenFor mid t)) c target id.key a b r → RunsPass (fold_of keeps makes o.base) (AreTold c ids (IsOpenFor o s)) c target id.key a b r
next_of keeps makes o mid s t ids i id c target a b r within is stays ran =
    fewer_pass (fold_of keeps makes o.base) c target (IsTold c id (IsOpenFor mid t)) (AreTold c ids (IsOpenFor o s))
    (λ cs told. ((stays.open_for cs told.0).open_for, subst (λ (x : IdRows). x.rows ≡ map placed_row (items_after c cs x.key)) (sym is) (all_at (λ (x : IdRows). x.rows ≡ map placed_row (items_after c cs x.key)) ids i id within told.1)))
    id.key a b r (subst (λ (base : List ℕ). RunsPass (fold_of keeps makes base) (IsTold c id (IsOpenFor mid t)) c target id.key a b r) stays.base ran)

-- an id's rows, said of the catalog at the start
pub own_of : {B : Type 0} (o mid : Opened B) (c : ℕ) (ids : List IdRows) (i : ℕ) (id : IdRows) → i < length ids → id ≡ get_or ids i id → mid.kept ≡ o.kept
    → HaveOwnRows c o.kept.rows ids → id.rows ≡ own_rows c mid.kept.rows id.key
own_of o mid c ids i id within is same own =
    subst (λ (x : IdRows). x.rows ≡ own_rows c o.kept.rows x.key) (sym is) (all_at (λ (x : IdRows). x.rows ≡ own_rows c o.kept.rows x.key) ids i id within own)
    ∙ ap (λ (k : Kept). own_rows c k.rows id.key) (sym same)

-- and what the next pass read
pub next_read_of : {B A : Type 0} (keeps : Keeps) (makes : MakesDocs) (o mid : Opened B) (s t : Seen) (ids : List IdRows) (i : ℕ) (id : IdRows) (c target : ℕ) (a b u : Seen) (r : Result A Stop)
    → i < length ids → id ≡ get_or ids i id → StaysOpen o mid s t (IsErrOf went_well CatalogFault) → mid.kept ≡ o.kept
    → ReadsPass (fold_of keeps makes mid.base) (IsTold c id (IsOpenFor mid t)) c target mid.kept.rows id.key a b t u r
    → ReadsPass (fold_of keeps makes o.base) (AreTold c ids (IsOpenFor o s)) c target o.kept.rows id.key a b t u r
next_read_of keeps makes o mid s t ids i id c target a b u r within is stays same ran =
    fewer_read (fold_of keeps makes o.base) c target o.kept.rows (IsTold c id (IsOpenFor mid t)) (AreTold c ids (IsOpenFor o s))
    (λ cs told. ((stays.open_for cs told.0).open_for, subst (λ (x : IdRows). x.rows ≡ map placed_row (items_after c cs x.key)) (sym is) (all_at (λ (x : IdRows). x.rows ≡ map placed_row (items_after c cs x.key)) ids i id within told.1)))
    id.key a b t u r
    (subst (λ (k : Kept). ReadsPass (fold_of keeps makes o.base) (IsTold c id (IsOpenFor mid t)) c target k.rows id.key a b t u r) same
    (subst (λ (base : List ℕ). ReadsPass (fold_of keeps makes base) (IsTold c id (IsOpenFor mid t)) c target mid.kept.rows id.key a b t u r) stays.base ran))
