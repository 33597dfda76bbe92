-- What a round tells of its stop.
use Rattle.std.proofs.Common.{◌≡◌, ◌<◌, ℕ, List, [], ◌∷◌, ◌++◌, length, Option, Some, None, IfSome, IfOk, Ok, Err, Result, inl, inr, refl, sym, ◌∙◌, ap, subst, option_map}
use Rattle.std.specs.FinMap.{get}
use Rattle.std.specs.Prelude.{IsErrOf}
use Rattle.feed_base.specs.Counts.{CountsFault}
use Rattle.blob_store.specs.Area.{Area}
use Rattle.blob_store.specs.Events.{Act, Get}
use Rattle.blob_store.specs.Plans.{Makes, MakesSome, StopsAt}
use Rattle.blob_store.specs.Seen.{Seen}
use Rattle.blob_store.specs.declared.error.BlobErr.{BlobErr}
use Rattle.blob_store.specs.declared.error.BlobErr.TheVariants as blob
use Rattle.blob_store.proofs.Told.{made_quietly, stop_counts}
use Rattle.pkg_meta.specs.Catalog.{Catalog}
use Rattle.catalog_items.proofs.Getting.{counts_as, counts_none}
use Rattle.catalog_core.specs.Framing.{StaysOpen}
use Rattle.catalog_core.specs.Opened.{Opened}
use Rattle.catalog_core.proofs.Frames.{stays_iff}
use Rattle.cursor_doc.specs.Cursor.{cursor_name}
use Rattle.fold_core.specs.Folds.{Fold}
use Rattle.fold_core.specs.declared.hive.HiveName.{HiveName}
use Rattle.id_pass.specs.declared.error.RoundErr.{RoundErr}
use Rattle.id_pass.specs.declared.error.RoundErr.TheVariants as told
use Rattle.id_pass.specs.declared.error.RoundOut.{RoundOut}
use Rattle.id_pass.specs.declared.error.RoundOut.TheVariants.{Done, Idle}
use Rattle.job_round.specs.Answers.{IfDamagedText, IfDone, IfIdle, IsDamagedBlob, IsLostInCatalog, IsLostInHive, IsNoNumber, IsStopTold, in_hive, told_number}
use Rattle.job_round.specs.Cursors.{IsCursor, IsNoCursor}
use Rattle.job_round.specs.Rounds.{EndsAt, EndsTo, IsStopOf, RoundHalts, Rounds, RunsRound, cursor_put, round_err_of, round_plan}
use Rattle.job_round.specs.Stops.{JobHaltsAt, IfDamaged, IfHiveDamaged, IsOfHive, hive_stop_of}
use Rattle.job_round.specs.declared.stop.Stop.{Stop}
use Rattle.job_round.specs.declared.stop.Stop.TheVariants.{CatalogFault, HiveFault, CatalogDamaged, HiveDamaged, Memory}
use Rattle.job_round.proofs.Staying.{stopped}

abbrev pub refused : (A : Type 0) → RoundErr → Result A RoundErr
refused A error = Err error

abbrev pub answered : RoundOut → Result RoundOut Stop
answered out = Ok out

abbrev pub settled_as : RoundOut → Result RoundOut RoundErr
settled_as out = Ok out

-- a stop, as it is told
pub ends_of : (hive : HiveName) (stop : Stop) (error : RoundErr) (plan : List Act) (a b : Seen) → IsStopTold hive stop error → JobHaltsAt plan stop a b → EndsAt plan error a b
ends_of hive CatalogFault error plan a b is halts = subst (λ (e : RoundErr). EndsAt plan e a b) (sym is) halts
ends_of hive HiveFault error plan a b is halts = subst (λ (e : RoundErr). EndsAt plan e a b) (sym is) halts
ends_of hive (CatalogDamaged name) error plan a b (inl is) halts = subst (λ (e : RoundErr). EndsAt plan e a b) (sym is) halts
ends_of hive (CatalogDamaged name) error plan a b (inr is) halts = subst (λ (e : RoundErr). EndsAt plan e a b) (sym is) (inr halts)
ends_of hive (HiveDamaged name) error plan a b (inl is) halts = subst (λ (e : RoundErr). EndsAt plan e a b) (sym is) halts
ends_of hive (HiveDamaged name) error plan a b (inr is) halts = subst (λ (e : RoundErr). EndsAt plan e a b) (sym is) (inr halts)
ends_of hive Memory error plan a b is halts = subst (λ (e : RoundErr). EndsAt plan e a b) (sym is) halts

-- what holds where a stop tells a damaged blob of the hive, which only a hive's stop does, holds where that is told
pub damaged_told : (hive : HiveName) (stop : Stop) (error : RoundErr) (P : List ℕ → Type 0) (M : Type 0) → IsStopTold hive stop error → IsOfHive P stop
    → IfHiveDamaged stop M → IfDamagedText error (λ text. M)
damaged_told hive CatalogFault error P M is own got = absurd own
damaged_told hive HiveFault error P M is own got = subst (λ (e : RoundErr). IfDamagedText e (λ text. M)) (sym is) tt
damaged_told hive (CatalogDamaged name) error P M is own got = absurd own
damaged_told hive (HiveDamaged name) error P M (inl is) own got = subst (λ (e : RoundErr). IfDamagedText e (λ text. M)) (sym is) got
damaged_told hive (HiveDamaged name) error P M (inr is) own got = subst (λ (e : RoundErr). IfDamagedText e (λ text. M)) (sym is) tt
damaged_told hive Memory error P M is own got = subst (λ (e : RoundErr). IfDamagedText e (λ text. M)) (sym is) tt

why_of : (hive : HiveName) (stop : Stop) (error : RoundErr) → IsStopTold hive stop error → (e : BlobErr) → IsStopOf stop e → error ≡ round_err_of e
why_of hive stop error is e same = by e (subst (λ (s : Stop). IsStopTold hive s error) same is)
  where
    by : (x : BlobErr) → IsStopTold hive (hive_stop_of x) error → error ≡ round_err_of x
    by blob.Failed here = here
    by blob.Memory here = here

module _ (f : Fold) (Q : Catalog → Type 0) (a b : Seen) (H K : List Act → Type 0) (V W : BlobErr → Type 0) (first : (plan : List Act) → H plan → K plan) (second : (e : BlobErr) → V e → W e) where
  pub halts_map : RoundHalts f Q H V a b → RoundHalts f Q K W a b
  halts_map (inl early) = inl (first (Get cursor_name ∷ []) early)
  halts_map (inr (inl (c, target, stamp, passes, last, rest, task, all, part, halts))) = inr (inl (c, target, stamp, passes, last, rest, task, all, part, first _ halts))
  halts_map (inr (inr (c, target, stamp, passes, task, all, inl halts))) = inr (inr (c, target, stamp, passes, task, all, inl (first _ halts)))
  halts_map (inr (inr (c, target, stamp, passes, task, all, inr (error, why, stops)))) = inr (inr (c, target, stamp, passes, task, all, inr (error, second error why, stops)))

-- what holds of the calls of each halt
module _ (f : Fold) (Q : Catalog → Type 0) (a b : Seen) (H : List Act → Type 0) (V : BlobErr → Type 0) (P : Type 0) (first : (plan : List Act) → H plan → P) (second : (plan : List Act) (e : BlobErr) → V e → StopsAt plan e a b → P) where
  pub halts_fold : RoundHalts f Q H V a b → P
  halts_fold (inl early) = first (Get cursor_name ∷ []) early
  halts_fold (inr (inl (c, target, stamp, passes, last, rest, task, all, part, halts))) = first _ halts
  halts_fold (inr (inr (c, target, stamp, passes, task, all, inl halts))) = first _ halts
  halts_fold (inr (inr (c, target, stamp, passes, task, all, inr (error, why, stops)))) = second _ error why stops

pub rounds_err : (f : Fold) (Q : Catalog → Type 0) (hive : HiveName) (stop : Stop) (error : RoundErr) (a b : Seen) → IsStopTold hive stop error → RunsRound f Q a b (Err stop) → Rounds f Q a b (Err error)
rounds_err f Q hive stop error a b is halts = halts_map f Q a b (λ plan. JobHaltsAt plan stop a b) (λ plan. EndsAt plan error a b) (IsStopOf stop) (λ e. error ≡ round_err_of e)
    (λ plan. ends_of hive stop error plan a b is) (why_of hive stop error is) halts

pub rounds_ok : (f : Fold) (Q : Catalog → Type 0) (out : RoundOut) (a b : Seen) → RunsRound f Q a b (Ok out) → Rounds f Q a b (Ok out)
rounds_ok f Q (Done n) a b runs = runs
rounds_ok f Q (Idle n) a b runs = runs

some_counts : (plan : List Act) (a b : Seen) (P : Type 0) → (P → ⊥) → MakesSome plan a b → CountsFault a.faults b.faults P
some_counts plan a b P quiet (first, unmade, is, made) = subst (λ (n : ℕ). CountsFault a.faults n P) (sym (made_quietly first a b made)) (counts_none a.faults P quiet)

ends_counts : {A : Type 0} (plan : List Act) (error : RoundErr) (a b : Seen) → EndsAt plan error a b → CountsFault a.faults b.faults (IsErrOf (refused A error) told.HiveFault)
ends_counts plan told.CatalogFault a b some = some_counts plan a b _ (λ is. let no : ⊥ = cc in no) some
ends_counts plan told.HiveFault a b stops = counts_as a.faults b.faults _ _ (stop_counts plan blob.Failed a b stops) (λ is. refl) (λ is. refl)
ends_counts plan (told.Damaged name) a b some = some_counts plan a b _ (λ is. let no : ⊥ = cc in no) some
ends_counts plan told.Memory a b (inl stops) = counts_as a.faults b.faults _ _ (stop_counts plan blob.Memory a b stops) (λ is. let no : ⊥ = cc in absurd no) (λ is. let no : ⊥ = cc in absurd no)
ends_counts plan told.Memory a b (inr some) = some_counts plan a b _ (λ is. let no : ⊥ = cc in no) some

why_counts : {A : Type 0} (plan : List Act) (error : RoundErr) (a b : Seen) (e : BlobErr) → error ≡ round_err_of e → StopsAt plan e a b → CountsFault a.faults b.faults (IsErrOf (refused A error) told.HiveFault)
why_counts plan error a b blob.Failed is stops = counts_as a.faults b.faults _ _ (stop_counts plan blob.Failed a b stops) (λ same. ap Err is) (λ same. refl)
why_counts plan error a b blob.Memory is stops = counts_as a.faults b.faults _ _ (stop_counts plan blob.Memory a b stops) (λ same. let no : ⊥ = cc in absurd no) (λ same. let no : ⊥ = cc in absurd no)

quietly : (plan : List Act) (a b : Seen) (P : Type 0) → (P → ⊥) → Makes plan a b → CountsFault a.faults b.faults P
quietly plan a b P quiet made = subst (λ (n : ℕ). CountsFault a.faults n P) (sym (made_quietly plan a b made)) (counts_none a.faults P quiet)

-- the counts, of all answers
pub round_counts : (f : Fold) (Q : Catalog → Type 0) (a b : Seen) (r : Result RoundOut RoundErr) → Rounds f Q a b r → CountsFault a.faults b.faults (IsErrOf r told.HiveFault)
round_counts f Q a b (Ok (Done n)) (c, stamp, passes, task, all, made) = quietly (round_plan passes ++ cursor_put n stamp ∷ []) a b _ (λ is. let no : ⊥ = cc in no) made
round_counts f Q a b (Ok (Idle n)) (none, made) = quietly (Get cursor_name ∷ []) a b _ (λ is. let no : ⊥ = cc in no) made
round_counts f Q a b (Err error) halts = halts_fold f Q a b (λ plan. EndsAt plan error a b) (λ e. error ≡ round_err_of e) (CountsFault a.faults b.faults (IsErrOf (refused RoundOut error) told.HiveFault))
    (λ plan. ends_counts {A = RoundOut} plan error a b) (λ plan e. why_counts {A = RoundOut} plan error a b e) halts

-- the numbers
pub round_target : (f : Fold) (Q : Catalog → Type 0) (a b : Seen) (r : Result RoundOut RoundErr) → Rounds f Q a b r → (cs : Catalog) → Q cs → IfOk r (λ out. told_number out ≡ length cs)
round_target f Q a b (Ok (Done n)) (c, stamp, passes, task, all, made) cs meant = task.ends cs meant
round_target f Q a b (Ok (Idle n)) (none, made) cs meant = none.last cs meant
round_target f Q a b (Err error) halts cs meant = tt

got_same : (h k : Option Area) → k ≡ option_map (λ (m : Area). m) h → k ≡ h
got_same None k is = is
got_same (Some m) k is = is

pub round_idle : (f : Fold) (Q : Catalog → Type 0) (a b : Seen) (r : Result RoundOut RoundErr) → Rounds f Q a b r → IfOk r (λ out. IfIdle out (λ n. (b.held ≡ a.held) × IfSome a.held (λ m. IsCursor (get m cursor_name) n)))
round_idle f Q a b (Ok (Done n)) runs = tt
round_idle f Q a b (Ok (Idle n)) (none, made) = (got_same a.held b.held made.area, none.cursor)
round_idle f Q a b (Err error) halts = tt

pub round_done : (f : Fold) (Q : Catalog → Type 0) (a b : Seen) (r : Result RoundOut RoundErr) → Rounds f Q a b r → (cs : Catalog) → Q cs
    → IfOk r (λ out. IfDone out (λ n. IfSome a.held (λ m. (c : ℕ) × IsCursor (get m cursor_name) c × (c < n))))
round_done f Q a b (Ok (Done n)) (c, stamp, passes, task, all, made) cs meant = by a.held task.cursor
  where
    by : (h : Option Area) → IfSome h (λ m. IsCursor (get m cursor_name) c) → IfSome h (λ m. (k : ℕ) × IsCursor (get m cursor_name) k × (k < n))
    by None found = tt
    by (Some m) found = (c, found, subst (λ (k : ℕ). c < k) (sym (task.ends cs meant)) (task.behind cs meant))
round_done f Q a b (Ok (Idle n)) runs cs meant = tt
round_done f Q a b (Err error) halts cs meant = tt

-- why a blob is told as damaged
pub damaged_text : {B : Type 0} (o n : Opened B) (s t : Seen) (held : Option Area) (hive : HiveName) (stop : Stop) (error : RoundErr) → IsStopTold hive stop error
    → IfDamaged (IsLostInCatalog o n s t) (IsLostInHive o s held) stop → IfDamagedText error (IsDamagedBlob o n s t held)
damaged_text o n s t held hive CatalogFault error is lost = subst (λ (e : RoundErr). IfDamagedText e (IsDamagedBlob o n s t held)) (sym is) tt
damaged_text o n s t held hive HiveFault error is lost = subst (λ (e : RoundErr). IfDamagedText e (IsDamagedBlob o n s t held)) (sym is) tt
damaged_text o n s t held hive (CatalogDamaged name) error (inl is) lost = subst (λ (e : RoundErr). IfDamagedText e (IsDamagedBlob o n s t held)) (sym is) (inl (name, refl, lost))
damaged_text o n s t held hive (CatalogDamaged name) error (inr is) lost = subst (λ (e : RoundErr). IfDamagedText e (IsDamagedBlob o n s t held)) (sym is) tt
damaged_text o n s t held hive (HiveDamaged name) error (inl is) lost = subst (λ (e : RoundErr). IfDamagedText e (IsDamagedBlob o n s t held)) (sym is) (inr (hive, name, refl, lost))
damaged_text o n s t held hive (HiveDamaged name) error (inr is) lost = subst (λ (e : RoundErr). IfDamagedText e (IsDamagedBlob o n s t held)) (sym is) tt
damaged_text o n s t held hive Memory error is lost = subst (λ (e : RoundErr). IfDamagedText e (IsDamagedBlob o n s t held)) (sym is) tt

catalog_fault : (hive : HiveName) (stop : Stop) (error : RoundErr) → IsStopTold hive stop error → error ≡ told.CatalogFault → stop ≡ CatalogFault
catalog_fault hive CatalogFault error is same = refl
catalog_fault hive HiveFault error is same = cc
catalog_fault hive (CatalogDamaged name) error (inl is) same = cc
catalog_fault hive (CatalogDamaged name) error (inr is) same = cc
catalog_fault hive (HiveDamaged name) error (inl is) same = cc
catalog_fault hive (HiveDamaged name) error (inr is) same = cc
catalog_fault hive Memory error is same = cc

to_fault : (hive : HiveName) (stop : Stop) (error : RoundErr) → IsStopTold hive stop error → stop ≡ CatalogFault → error ≡ told.CatalogFault
to_fault hive stop error is same = subst (λ (s : Stop). IsStopTold hive s error) same is

pub stays_err : {B : Type 0} (o n : Opened B) (s t : Seen) (hive : HiveName) (stop : Stop) (error : RoundErr) → IsStopTold hive stop error → StaysOpen o n s t (IsErrOf (stopped RoundOut stop) CatalogFault)
    → StaysOpen o n s t (IsErrOf (refused RoundOut error) told.CatalogFault)
stays_err o n s t hive stop error is stays = stays_iff o n s t _ _ stays
    (λ failed. let same : stop ≡ CatalogFault = cc in ap Err (to_fault hive stop error is same))
    (λ failed. let same : error ≡ told.CatalogFault = cc in ap Err (catalog_fault hive stop error is same))

pub stays_ok : {B : Type 0} (o n : Opened B) (s t : Seen) (out : RoundOut) → StaysOpen o n s t (IsErrOf (answered out) CatalogFault) → StaysOpen o n s t (IsErrOf (settled_as out) told.CatalogFault)
stays_ok o n s t out stays = stays_iff o n s t _ _ stays (λ failed. let no : ⊥ = cc in absurd no) (λ failed. let no : ⊥ = cc in absurd no)

-- the cursor's number
pub number_counts : {A : Type 0} (plan : List Act) (a b : Seen) (r : Result A RoundErr) → EndsTo plan a b r → CountsFault a.faults b.faults (IsErrOf r told.HiveFault)
number_counts plan a b (Ok x) made = quietly plan a b _ (λ is. let no : ⊥ = cc in no) made
number_counts {A} plan a b (Err error) ends = ends_counts {A = A} plan error a b ends

pub no_number : (hive : HiveName) (held : Option Area) (stop : Stop) (error : RoundErr) → IsStopTold hive stop error → IsOfHive (λ name. (name ≡ cursor_name) × IfSome held (λ m. IsNoCursor (get m cursor_name))) stop → IsNoNumber hive held error
no_number hive held CatalogFault error is cause = absurd cause
no_number hive held HiveFault error is cause = subst (IsNoNumber hive held) (sym is) tt
no_number hive held (CatalogDamaged name) error is cause = absurd cause
no_number hive held (HiveDamaged name) error (inl is) (named, lost) = subst (IsNoNumber hive held) (sym (is ∙ ap (λ (n : List ℕ). told.Damaged (in_hive hive n)) named)) (refl, lost)
no_number hive held (HiveDamaged name) error (inr is) cause = subst (IsNoNumber hive held) (sym is) tt
no_number hive held Memory error is cause = subst (IsNoNumber hive held) (sym is) tt
