-- The cursor's put behind passes, and the answer where no row stands behind the cursor.
use Rattle.std.proofs.Common.{◌≡◌, ℕ, List, [], ◌∷◌, length, Some, Ok, Err, Result, inl, inr, sym, subst, append-nil}
use Rattle.std.specs.Prelude.{IsErrOf}
use Rattle.blob_store.specs.Area.{Area}
use Rattle.blob_store.specs.Events.{Act}
use Rattle.blob_store.specs.Plans.{Makes}
use Rattle.blob_store.specs.Seen.{Seen}
use Rattle.blob_store.proofs.Following.{makes_then, stops_behind}
use Rattle.pkg_meta.specs.Catalog.{Catalog}
use Rattle.catalog_opening.specs.Errors.{IfDamagedBy}
use Rattle.catalog_opening.specs.declared.error.ReadErr.{ReadErr}
use Rattle.catalog_opening.specs.declared.error.ReadErr.TheVariants as reading
use Rattle.catalog_core.specs.Opened.{IsOpenFor, IsUnsettled, Opened}
use Rattle.cursor_doc.specs.Cursor.{cursor_name}
use Rattle.fold_core.specs.Folds.{Fold}
use Rattle.job_round.specs.Plans.{PassesMade, RunsPasses, passes_plan}
use Rattle.job_round.specs.Rounds.{IsEndStop, RunsLast, RunsTaking, cursor_put}
use Rattle.job_round.specs.Stops.{JobHaltsAt, IsDamage, catalog_stop_of}
use Rattle.job_round.specs.declared.stop.Stop.{Stop}
use Rattle.job_round.specs.declared.stop.Stop.TheVariants.{CatalogFault, HiveFault, CatalogDamaged, HiveDamaged, Memory}
use Rattle.job_round.proofs.Halting.{halts_then}
use Rattle.job_round.proofs.Staying.{stopped}

module _ (f : Fold) (Q : Catalog → Type 0) (c target stamp : ℕ) (keys : List (List ℕ)) (a b e : Seen) where
  pub taking_done : {A : Type 0} (x : A) → PassesMade f Q c target keys a b → Makes (cursor_put target stamp ∷ []) b e → RunsTaking f Q c target stamp keys a e (Ok x)
  taking_done x (passes, same, all, made) put = (passes, same, all, makes_then (passes_plan passes) (cursor_put target stamp ∷ []) a b e made put)

  last_stopped : (stop : Stop) → PassesMade f Q c target keys a b → RunsLast {A = Unit {0}} (cursor_put target stamp) b e (Err stop) → RunsTaking {A = Unit {0}} f Q c target stamp keys a e (Err stop)
  last_stopped stop (passes, same, all, made) (inl halts) =
      inr (inr (passes, same, all, inl (subst (λ (l : List Act). JobHaltsAt l stop a e) (append-nil (passes_plan passes)) (halts_then (passes_plan passes) [] stop a b e made halts))))
  last_stopped stop (passes, same, all, made) (inr (error, told, stops)) =
      inr (inr (passes, same, all, inr (error, told, stops_behind (passes_plan passes) (cursor_put target stamp ∷ []) error a b e made stops)))

  pub taking_stopped : {A : Type 0} (stop : Stop) (r : Result A Stop) → r ≡ Err stop → PassesMade f Q c target keys a b → RunsLast {A = Unit {0}} (cursor_put target stamp) b e (Err stop) → RunsTaking f Q c target stamp keys a e r
  taking_stopped {A} stop r told made last = subst (λ (x : Result A Stop). RunsTaking f Q c target stamp keys a e x) (sym told) (last_stopped stop made last)

  pub taking_cut : {A : Type 0} (stop : Stop) (r : Result A Stop) → r ≡ Err stop → RunsPasses {A = Unit {0}} f Q c target keys a e (Err stop) → RunsTaking f Q c target stamp keys a e r
  taking_cut {A} stop r told halts = subst (λ (x : Result A Stop). RunsTaking f Q c target stamp keys a e x) (sym told) (inr (inl halts))

  pub taking_unbegun : {A : Type 0} (stop : Stop) (r : Result A Stop) → r ≡ Err stop → JobHaltsAt [] stop a e → RunsTaking f Q c target stamp keys a e r
  taking_unbegun {A} stop r told halts = subst (λ (x : Result A Stop). RunsTaking f Q c target stamp keys a e x) (sym told) (inl halts)

pub end_read : {B : Type 0} (o : Opened B) (s : Seen) (cursor : ℕ) (error : ReadErr) → ((m : Area) → s.held ≡ Some m → IfDamagedBy error (IsUnsettled m o)) → IsEndStop o s cursor (catalog_stop_of error)
end_read o s cursor (reading.Damaged name) damaged = damaged
end_read o s cursor reading.Fault damaged = tt
end_read o s cursor reading.Memory damaged = tt

pub end_other : {B : Type 0} (o : Opened B) (s : Seen) (cursor : ℕ) (stop : Stop) → ((cs : Catalog) → IsOpenFor o s cs → length cs ≡ cursor → ⊥) → IsDamage (λ name. name ≡ cursor_name) stop → IsEndStop o s cursor stop
end_other o s cursor CatalogFault other damage = absurd damage
end_other o s cursor HiveFault other damage = absurd damage
end_other o s cursor (CatalogDamaged name) other damage = absurd damage
end_other o s cursor (HiveDamaged name) other damage = (damage, other)
end_other o s cursor Memory other damage = tt

pub damage_quiet : {A : Type 0} (P : List ℕ → Type 0) (stop : Stop) → IsDamage P stop → IsErrOf (stopped A stop) CatalogFault → ⊥
damage_quiet P stop damage failed = let same : stop ≡ CatalogFault = cc in subst (IsDamage P) same damage
