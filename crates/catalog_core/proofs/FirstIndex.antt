-- The making of a catalog: its calls, and what they leave.
use Rattle.std.proofs.Common.{◌≡◌, ℕ, List, [], ◌∷◌, Option, None, Some, Ok, Err, Result, inl, inr, ⊎_elim, refl, sym, ◌∙◌, ap, subst, option_map, true, false}
use Rattle.std.specs.Prelude.{IsErrOf}
use Rattle.std.specs.FinMap.{empty, get}
use Rattle.std.specs.Option.{is_some}
use Rattle.std.specs.Str.{IsUtf8}
use Rattle.feed_base.specs.Counts.{CountsFault}
use Rattle.blob_store.specs.Area.{Area, with_blob}
use Rattle.blob_store.specs.Events.{Act, Get, Change, after_events}
use Rattle.blob_store.specs.Moments.{LeavesOnly}
use Rattle.blob_store.specs.Plans.{all_done, Makes, RunsInMemory, StopsAt}
use Rattle.blob_store.specs.Seen.{Seen, IsSure}
use Rattle.blob_store.specs.Steps.{AfterPrefix}
use Rattle.blob_store.specs.declared.error.BlobErr.{BlobErr}
use Rattle.blob_store.specs.declared.error.BlobErr.TheVariants as blob
use Rattle.blob_store.proofs.Following.{stops_behind, stops_early}
use Rattle.blob_store.proofs.Moments.{weaker}
use Rattle.blob_store.proofs.OneCall.{none}
use Rattle.blob_store.proofs.PlanFronts.{plan_leaves}
use Rattle.blob_store.proofs.Told.{made_quietly, stop_counts}
use Rattle.catalog_doc.specs.Commits.{index_put}
use Rattle.catalog_doc.specs.Documents.{index_text}
use Rattle.catalog_doc.specs.Names.{index_name}
use Rattle.catalog_doc.proofs.Spelling.{get_put}
use Rattle.catalog_doc.proofs.Unspelled.{none_spelled}
use Rattle.catalog_laws.proofs.Kept.{none_catalog}
use Rattle.catalog_opening.proofs.Prefixes.{after_gets_alone, after_prefix, plan_holds}
use Rattle.catalog_items.proofs.Getting.{counts_as}
use Rattle.catalog_core.specs.Errors.{init_err_of}
use Rattle.catalog_core.specs.Opened.{IsOpenFor, IsStoreFor, KeepsRows, Opened}
use Rattle.catalog_core.specs.Openings.{init_plan, IsFirstArea, RunsInit, StopsInit}
use Rattle.catalog_core.specs.declared.error.InitErr.{InitErr}
use Rattle.catalog_core.specs.declared.error.InitErr.TheVariants as init

module _ (base : List ℕ) where
  pub unstarted : (found : Option (List ℕ)) (a : Seen) → IsSure a → StopsInit base found init.Memory a a
  unstarted found a sure = inr ([], init_plan base found, refl, none a sure)

  pub runs_told : {A : Type 0} (found : Option (List ℕ)) (a b : Seen) (r : Result A InitErr) (error : InitErr) → r ≡ Err error → StopsInit base found error a b → RunsInit base found a b r
  runs_told found a b r error is stops = subst (λ (x : Result _ InitErr). RunsInit base found a b x) (sym is) stops

  -- a call of the store stopped them
  stops_as : (found : Option (List ℕ)) (error : BlobErr) (a b : Seen) → StopsAt (init_plan base found) error a b → StopsInit base found (init_err_of error) a b
  stops_as found blob.Failed a b stops = stops
  stops_as found blob.Memory a b stops = inl stops

  pub get_stopped : (found : Option (List ℕ)) (error : BlobErr) (a b : Seen) → StopsAt (Get index_name ∷ []) error a b → StopsInit base found (init_err_of error) a b
  get_stopped None error a b stops = stops_as None error a b (stops_early (Get index_name ∷ []) (Change (index_put base []) ∷ []) error a b stops)
  get_stopped (Some bytes) error a b stops = stops_as (Some bytes) error a b stops

  pub put_stopped : (error : BlobErr) (a b c : Seen) → Makes (Get index_name ∷ []) a b → StopsAt (Change (index_put base []) ∷ []) error b c → StopsInit base None (init_err_of error) a c
  put_stopped error a b c made stops = stops_as None error a c (stops_behind (Get index_name ∷ []) (Change (index_put base []) ∷ []) error a b c made stops)

  -- what the calls leave
  first_prefix : (m left : Area) (found : Option (List ℕ)) → get m index_name ≡ found → AfterPrefix (init_plan base found) m left → IsFirstArea base m left
  first_prefix m left None is at = ⊎_elim (λ old. inl old) (λ new. inr (is, new)) (after_prefix (index_put base []) m (Get index_name ∷ []) left tt at)
  first_prefix m left (Some bytes) is at = inl (after_gets_alone (Get index_name ∷ []) m left tt at)

  module _ (a b : Seen) (m : Area) (held : a.held ≡ Some m) where
    by_plan : (found : Option (List ℕ)) → get m index_name ≡ found → {A : Type 0} (r : Result A BlobErr) → RunsInMemory (init_plan base found) a b r
        → ((now : Area) × (b.held ≡ Some now) × IsFirstArea base m now) × LeavesOnly a b (IsFirstArea base m)
    by_plan found is r runs =
        let left = plan_holds (init_plan base found) a b m r runs held in (
          (left.0, left.1, first_prefix m left.0 found is left.2),
          weaker a b (AfterPrefix (init_plan base found) m) (IsFirstArea base m) (plan_leaves (init_plan base found) a b m r runs held) (λ x at. first_prefix m x found is at),
        )

    pub first_left : {A : Type 0} (r : Result A InitErr) → RunsInit base (get m index_name) a b r
        → ((now : Area) × (b.held ≡ Some now) × IsFirstArea base m now) × LeavesOnly a b (IsFirstArea base m)
    first_left (Ok x) runs = by_plan None runs.absent {A = Unit {0}} (Ok tt) runs.made
    first_left (Err init.Fault) stops = by_plan (get m index_name) refl {A = Unit {0}} (Err blob.Failed) stops
    first_left (Err init.Already) stops = by_plan (get m index_name) refl {A = Unit {0}} (Ok tt) stops.1
    first_left (Err init.Memory) stops = by_plan (get m index_name) refl {A = Unit {0}} (Err blob.Memory) stops

-- the area after all of them
pub first_held : (base : List ℕ) (a b : Seen) (m : Area) → a.held ≡ Some m → Makes (init_plan base None) a b → b.held ≡ Some (with_blob index_name (index_text base []) m)
first_held base a b m is made = made.area ∙ ap (option_map (after_events (all_done (init_plan base None)))) is

pub absent : (found : Option (List ℕ)) → is_some found ≡ false → found ≡ None
absent None is = refl
absent (Some bytes) is = absurd (let no : ⊥ = cc in no)

-- the count of faults, where a call of the store failed
to_init : (error : BlobErr) → error ≡ blob.Failed → init_err_of error ≡ init.Fault
to_init blob.Failed is = refl
to_init blob.Memory is = absurd (let no : ⊥ = cc in no)

of_init : (error : BlobErr) → init_err_of error ≡ init.Fault → error ≡ blob.Failed
of_init blob.Failed is = refl
of_init blob.Memory is = absurd (let no : ⊥ = cc in no)

told_as : {A : Type 0} (r : Result A InitErr) (own : InitErr) → r ≡ Err own → IsErrOf r init.Fault → own ≡ init.Fault
told_as r own is failed = let same : own ≡ init.Fault = cc in same

pub stopped_counts : {A : Type 0} (plan : List Act) (error : BlobErr) (a b : Seen) (r : Result A InitErr) → r ≡ Err (init_err_of error) → StopsAt plan error a b → CountsFault a.faults b.faults (IsErrOf r init.Fault)
stopped_counts plan error a b r is stops =
    counts_as a.faults b.faults (error ≡ blob.Failed) (IsErrOf r init.Fault) (stop_counts plan error a b stops)
    (λ failed. is ∙ ap Err (to_init error failed)) (λ failed. of_init error (told_as r (init_err_of error) is failed))

pub behind_made : (plan : List Act) (a b c : Seen) (P : Type 0) → Makes plan a b → CountsFault b.faults c.faults P → CountsFault a.faults c.faults P
behind_made plan a b c P made counts = subst (λ (n : ℕ). CountsFault n c.faults P) (made_quietly plan a b made) counts

-- the catalog of no commits is open
pub first_open : {B : Type 0} (o : Opened B) (s : Seen) → IsUtf8 o.base → o.kept.rows ≡ [] → o.kept.pages ≡ [] → o.settled ≡ true
    → s.held ≡ Some (with_blob index_name (index_text o.base []) empty) → IsOpenFor o s []
first_open o s text rows pages settled held = record {
  lawful = none_catalog;
  keeps = subst (λ (x : _). KeepsRows x o.kept []) (sym settled) (record { rows = sym rows; pages = sym pages });
  store = subst (λ (x : _). IsStoreFor x s o.base []) (sym settled)
      (with_blob index_name (index_text o.base []) empty, held, none_spelled o.base text, get_put index_name (index_text o.base []) empty);
}
