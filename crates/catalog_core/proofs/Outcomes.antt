-- What a commit answers, by what its plan and its puts answer.
use Rattle.std.proofs.Common.{◌≡◌, ◌≤◌, ◌⊎◌, ℕ, map, List, [], Some, None, Ok, Err, Result, IfOk, inl, inr, ⊎_elim, refl, sym, ◌∙◌, ap, subst, Bool, true, OnOk}
use Rattle.std.specs.Prelude.{IsErrOf}
use Rattle.feed_base.specs.Counts.{CountsFault}
use Rattle.blob_store.specs.Area.{Area}
use Rattle.blob_store.specs.Events.{Act, Change as change_act}
use Rattle.blob_store.specs.Plans.{Makes}
use Rattle.blob_store.specs.declared.call.Call.{Call}
use Rattle.blob_store.specs.declared.error.BlobErr.TheVariants as blob
use Rattle.blob_store.proofs.Following.{makes_then, stops_behind, stops_early}
use Rattle.blob_store.proofs.InMemory.{some_behind, some_early}
use Rattle.blob_store.proofs.Told.{made_quietly}
use Rattle.catalog_doc.specs.CatDocs.{all_rows}
use Rattle.catalog_opening.specs.Errors.{IfDamagedBy}
use Rattle.catalog_opening.specs.Plans.{HaltsAt, RunsReading}
use Rattle.catalog_opening.specs.declared.error.ReadErr.{ReadErr}
use Rattle.catalog_opening.specs.declared.error.ReadErr.TheVariants as read
use Rattle.catalog_opening.proofs.Halting.{halt_counts}
use Rattle.blob_store.specs.Moments.{LeavesOnly}
use Rattle.blob_store.specs.Seen.{Seen}
use Rattle.blob_store.proofs.Moments.{weaker}
use Rattle.pkg_meta.specs.Catalog.{Catalog}
use Rattle.catalog_doc.specs.Catalogs.{IsCatalog}
use Rattle.catalog_doc.specs.Commits.{commit_puts, made}
use Rattle.catalog_doc.specs.Spelled.{SpellsCatalog}
use Rattle.catalog_doc.specs.Verdict.{answer_for, refusal, verdict}
use Rattle.catalog_doc.specs.declared.change.Change.{Change}
use Rattle.catalog_doc.specs.declared.change.Committed.{Committed}
use Rattle.catalog_doc.specs.declared.error.CommitErr.{CommitErr}
use Rattle.catalog_doc.specs.declared.error.CommitErr.TheVariants as commit
use Rattle.catalog_laws.specs.Values.{AreChangeValues}
use Rattle.catalog_laws.proofs.Kept.{stays_catalog}
use Rattle.commit_plan.specs.declared.plan.CommitPlan.{CommitPlan}
use Rattle.commit_plan.specs.Lookups.{commit_err_for, HaltsLooking, refused_gets, IfDamagedCommit, IfDamagedRefusal, IsKnown, IsRefusalFor, listing_gets}
use Rattle.catalog_rows.specs.Kept.{Kept}
use Rattle.commit_plan.specs.Planned.{IsPlanOf}
use Rattle.catalog_core.specs.Committing.{commit_acts, Commits, MayBeCommitted, PutsCommit, RunsCommit, RunsPuts, with_made, WithOrWithout, SettlesIf}
use Rattle.catalog_items.specs.Framing.{OnlyGets}
use Rattle.catalog_items.proofs.Getting.{counts_as, counts_none, leaves_then}
use Rattle.catalog_core.specs.Opened.{IsReady, Opened}
use Rattle.catalog_core.proofs.Frames.{known_store, ready_keeps, still_open}

-- no reason to refuse, so the verdict takes the changes
pub taken : (cs : Catalog) (changes : List Change) (now : ℕ) → refusal cs changes ≡ None → MayBeCommitted cs changes now
taken cs changes now none = ap (answer_for (made cs changes now)) none

pub lawful_with : (cs : Catalog) (changes : List Change) (now : ℕ) → IsCatalog cs → AreChangeValues changes → now ≤ 3_155_378_975_999_999_999 → MayBeCommitted cs changes now
    → IsCatalog (with_made cs changes now)
lawful_with cs changes now whole values moment is = stays_catalog cs changes now (made cs changes now) (record { whole = whole; values = values; moment = moment; taken = is })

pub whole_with : (cs : Catalog) (changes : List Change) (now : ℕ) → IsCatalog cs → AreChangeValues changes → now ≤ 3_155_378_975_999_999_999 → refusal cs changes ≡ None → IsCatalog (with_made cs changes now)
whole_with cs changes now whole values moment none =
    stays_catalog cs changes now (made cs changes now) (record { whole = whole; values = values; moment = moment; taken = taken cs changes now none })

refused : (cs : Catalog) (changes : List Change) (now : ℕ) (error : CommitErr) → refusal cs changes ≡ Some error → verdict cs changes now ≡ Err error
refused cs changes now error is = ap (answer_for (made cs changes now)) is

-- refused, or stopped before the first put
pub stopped_before : (cs : Catalog) (changes : List Change) (now : ℕ) (P : Catalog → Type 0) (error : CommitErr) → IsRefusalFor (refusal cs changes) error → P cs → Commits cs changes now (Err error) P
stopped_before cs changes now P commit.Fault reason stays = inl stays
stopped_before cs changes now P (commit.Damaged name) reason stays = reason
stopped_before cs changes now P commit.Memory reason stays = inl stays
stopped_before cs changes now P commit.Empty reason stays = (refused cs changes now commit.Empty reason, stays)
stopped_before cs changes now P (commit.TooMany n) reason stays = (refused cs changes now (commit.TooMany n) reason, stays)
stopped_before cs changes now P (commit.Twice n) reason stays = (refused cs changes now (commit.Twice n) reason, stays)
stopped_before cs changes now P (commit.Exists p n) reason stays = (refused cs changes now (commit.Exists p n) reason, stays)
stopped_before cs changes now P (commit.Absent p n) reason stays = (refused cs changes now (commit.Absent p n) reason, stays)
stopped_before cs changes now P (commit.Already p n) reason stays = (refused cs changes now (commit.Already p n) reason, stays)
stopped_before cs changes now P (commit.IdFull p) reason stays = (refused cs changes now (commit.IdFull p) reason, stays)
stopped_before cs changes now P (commit.Full n) reason stays = (refused cs changes now (commit.Full n) reason, stays)
stopped_before cs changes now P commit.ClockEnd reason stays = (refused cs changes now commit.ClockEnd reason, stays)

with_or_without : (cs : Catalog) (changes : List Change) (now : ℕ) (P : Catalog → Type 0) → MayBeCommitted cs changes now → P cs ⊎ P (with_made cs changes now) → WithOrWithout cs changes now P
with_or_without cs changes now P is left = ⊎_elim (λ old. inl old) (λ new. inr (is, new)) left

-- put, or stopped within the puts
pub after_puts : (cs : Catalog) (changes : List Change) (now : ℕ) (P : Catalog → Type 0) (base : List ℕ) (plan : CommitPlan) (puts : List Act) (a b : Seen) (r : Result Committed CommitErr)
    → MayBeCommitted cs changes now → IsPlanOf base cs (made cs changes now) plan → IfOk r (λ done. (done.number ≡ plan.number) × (done.stamp ≡ plan.stamp)) → RunsPuts puts a b r
    → PutsCommit cs (made cs changes now) r P → Commits cs changes now r P
after_puts cs changes now P base plan puts a b (Ok done) is of told runs left = (is, (told.0 ∙ of.number, told.1 ∙ of.stamp), left)
after_puts cs changes now P base plan puts a b (Err commit.Fault) is of told runs left = with_or_without cs changes now P is left
after_puts cs changes now P base plan puts a b (Err commit.Memory) is of told runs left = with_or_without cs changes now P is left
after_puts cs changes now P base plan puts a b (Err (commit.Damaged name)) is of told runs left = absurd runs
after_puts cs changes now P base plan puts a b (Err commit.Empty) is of told runs left = absurd runs
after_puts cs changes now P base plan puts a b (Err (commit.TooMany n)) is of told runs left = absurd runs
after_puts cs changes now P base plan puts a b (Err (commit.Twice n)) is of told runs left = absurd runs
after_puts cs changes now P base plan puts a b (Err (commit.Exists p n)) is of told runs left = absurd runs
after_puts cs changes now P base plan puts a b (Err (commit.Absent p n)) is of told runs left = absurd runs
after_puts cs changes now P base plan puts a b (Err (commit.Already p n)) is of told runs left = absurd runs
after_puts cs changes now P base plan puts a b (Err (commit.IdFull p)) is of told runs left = absurd runs
after_puts cs changes now P base plan puts a b (Err (commit.Full n)) is of told runs left = absurd runs
after_puts cs changes now P base plan puts a b (Err commit.ClockEnd) is of told runs left = absurd runs

-- the calls of a commit that was refused, or stopped within its gets
pub runs_refused : (base : List ℕ) (cs : Catalog) (changes : List Change) (now : ℕ) (a b : Seen) (error : CommitErr) → HaltsLooking (all_rows cs) changes error a b → IsRefusalFor (refusal cs changes) error
    → RunsCommit [] base cs changes now a b (Err error)
runs_refused base cs changes now a b commit.Fault halts reason = inl halts
runs_refused base cs changes now a b (commit.Damaged name) halts reason = absurd reason
runs_refused base cs changes now a b commit.Memory halts reason = inl halts
runs_refused base cs changes now a b commit.Empty halts reason = halts
runs_refused base cs changes now a b (commit.TooMany n) halts reason = halts
runs_refused base cs changes now a b (commit.Twice n) halts reason = halts
runs_refused base cs changes now a b (commit.Exists p n) halts reason = halts
runs_refused base cs changes now a b (commit.Absent p n) halts reason = halts
runs_refused base cs changes now a b (commit.Already p n) halts reason = halts
runs_refused base cs changes now a b (commit.IdFull p) halts reason = halts
runs_refused base cs changes now a b (commit.Full n) halts reason = halts
runs_refused base cs changes now a b commit.ClockEnd halts reason = halts

-- the same behind other calls
module _ (first : List Act) (base : List ℕ) (cs : Catalog) (changes : List Change) (now : ℕ) (a b c : Seen) where
  pub runs_behind : (r : Result Committed CommitErr) → Makes first a b → RunsCommit [] base cs changes now b c r → RunsCommit first base cs changes now a c r
  runs_behind (Ok done) made runs = makes_then first (commit_acts base cs changes now) a b c made runs
  runs_behind (Err commit.Fault) made (inl stops) = inl (stops_behind first (listing_gets (all_rows cs) changes) blob.Failed a b c made stops)
  runs_behind (Err commit.Fault) made (inr (is, stops)) = inr (is, stops_behind first (commit_acts base cs changes now) blob.Failed a b c made stops)
  runs_behind (Err commit.Memory) made (inl (inl stops)) = inl (inl (stops_behind first (listing_gets (all_rows cs) changes) blob.Memory a b c made stops))
  runs_behind (Err commit.Memory) made (inl (inr some)) = inl (inr (some_behind first (listing_gets (all_rows cs) changes) a b c made some))
  runs_behind (Err commit.Memory) made (inr (is, inl stops)) = inr (is, inl (stops_behind first (commit_acts base cs changes now) blob.Memory a b c made stops))
  runs_behind (Err commit.Memory) made (inr (is, inr some)) = inr (is, inr (some_behind first (commit_acts base cs changes now) a b c made some))
  runs_behind (Err (commit.Damaged name)) made runs = absurd runs
  runs_behind (Err commit.Empty) made runs = makes_then first (refused_gets (all_rows cs) changes commit.Empty) a b c made runs
  runs_behind (Err (commit.TooMany n)) made runs = makes_then first (refused_gets (all_rows cs) changes (commit.TooMany n)) a b c made runs
  runs_behind (Err (commit.Twice n)) made runs = makes_then first (refused_gets (all_rows cs) changes (commit.Twice n)) a b c made runs
  runs_behind (Err (commit.Exists p n)) made runs = makes_then first (refused_gets (all_rows cs) changes (commit.Exists p n)) a b c made runs
  runs_behind (Err (commit.Absent p n)) made runs = makes_then first (refused_gets (all_rows cs) changes (commit.Absent p n)) a b c made runs
  runs_behind (Err (commit.Already p n)) made runs = makes_then first (refused_gets (all_rows cs) changes (commit.Already p n)) a b c made runs
  runs_behind (Err (commit.IdFull p)) made runs = makes_then first (refused_gets (all_rows cs) changes (commit.IdFull p)) a b c made runs
  runs_behind (Err (commit.Full n)) made runs = makes_then first (refused_gets (all_rows cs) changes (commit.Full n)) a b c made runs
  runs_behind (Err commit.ClockEnd) made runs = makes_then first (refused_gets (all_rows cs) changes commit.ClockEnd) a b c made runs

-- stopped while settling
pub runs_unsettled : (first : List Act) (base : List ℕ) (cs : Catalog) (changes : List Change) (now : ℕ) (a b : Seen) (error : ReadErr) → HaltsAt first error a b → IfDamagedBy error (λ name. ⊥)
    → RunsCommit first base cs changes now a b (Err (commit_err_for error))
runs_unsettled first base cs changes now a b (read.Damaged name) halts whole = absurd whole
runs_unsettled first base cs changes now a b read.Fault halts whole = inl (stops_early first (listing_gets (all_rows cs) changes) blob.Failed a b halts)
runs_unsettled first base cs changes now a b read.Memory (inl stops) whole = inl (inl (stops_early first (listing_gets (all_rows cs) changes) blob.Memory a b stops))
runs_unsettled first base cs changes now a b read.Memory (inr some) whole = inl (inr (some_early first (listing_gets (all_rows cs) changes) a b some))

-- and of one that was put, or stopped within its puts
pub runs_put : (base : List ℕ) (cs : Catalog) (changes : List Change) (now : ℕ) (a b c : Seen) (r : Result Committed CommitErr) → MayBeCommitted cs changes now
    → Makes (listing_gets (all_rows cs) changes) a b → RunsPuts (map change_act (commit_puts base cs (made cs changes now))) b c r → RunsCommit [] base cs changes now a c r
runs_put base cs changes now a b c (Ok done) is first second = makes_then (listing_gets (all_rows cs) changes) (map change_act (commit_puts base cs (made cs changes now))) a b c first second
runs_put base cs changes now a b c (Err commit.Fault) is first second =
    inr (is, stops_behind (listing_gets (all_rows cs) changes) (map change_act (commit_puts base cs (made cs changes now))) blob.Failed a b c first second)
runs_put base cs changes now a b c (Err commit.Memory) is first (inl stops) =
    inr (is, inl (stops_behind (listing_gets (all_rows cs) changes) (map change_act (commit_puts base cs (made cs changes now))) blob.Memory a b c first stops))
runs_put base cs changes now a b c (Err commit.Memory) is first (inr some) =
    inr (is, inr (some_behind (listing_gets (all_rows cs) changes) (map change_act (commit_puts base cs (made cs changes now))) a b c first some))
runs_put base cs changes now a b c (Err (commit.Damaged name)) is first second = absurd second
runs_put base cs changes now a b c (Err commit.Empty) is first second = absurd second
runs_put base cs changes now a b c (Err (commit.TooMany n)) is first second = absurd second
runs_put base cs changes now a b c (Err (commit.Twice n)) is first second = absurd second
runs_put base cs changes now a b c (Err (commit.Exists p n)) is first second = absurd second
runs_put base cs changes now a b c (Err (commit.Absent p n)) is first second = absurd second
runs_put base cs changes now a b c (Err (commit.Already p n)) is first second = absurd second
runs_put base cs changes now a b c (Err (commit.IdFull p)) is first second = absurd second
runs_put base cs changes now a b c (Err (commit.Full n)) is first second = absurd second
runs_put base cs changes now a b c (Err commit.ClockEnd) is first second = absurd second

-- what is counted where a plan was made as a read tells
halt_or_made : (calls : List Call) (a b : Seen) {A : Type 0} (r : Result A ReadErr) → RunsReading (map change_act calls) a b r → CountsFault a.faults b.faults (IsErrOf r read.Fault)
halt_or_made calls a b (Ok x) made = subst (λ (n : ℕ). CountsFault a.faults n (IsErrOf (Ok x) read.Fault)) (sym (made_quietly (map change_act calls) a b made)) (counts_none a.faults _ (λ is. let no : ⊥ = cc in no))
halt_or_made calls a b (Err error) halts = counts_as a.faults b.faults _ _ (halt_counts (map change_act calls) error a b halts) (λ is. ap Err is) (λ is. let same : error ≡ read.Fault = cc in same)

-- what puts count
pub puts_count : (calls : List Call) (a b : Seen) (r : Result Committed CommitErr) → RunsPuts (map change_act calls) a b r → CountsFault a.faults b.faults (IsErrOf r commit.Fault)
puts_count calls a b (Ok done) runs = counts_as _ _ _ _ (halt_or_made calls a b {A = Unit {0}} (Ok tt) runs) (λ failed. let no : ⊥ = cc in absurd no) (λ failed. let no : ⊥ = cc in absurd no)
puts_count calls a b (Err commit.Fault) runs = counts_as _ _ _ _ (halt_or_made calls a b {A = Unit {0}} (Err read.Fault) runs) (λ failed. refl) (λ failed. refl)
puts_count calls a b (Err commit.Memory) runs = counts_as _ _ _ _ (halt_or_made calls a b {A = Unit {0}} (Err read.Memory) runs) (λ failed. let no : ⊥ = cc in absurd no) (λ failed. let no : ⊥ = cc in absurd no)
puts_count calls a b (Err (commit.Damaged name)) runs = absurd runs
puts_count calls a b (Err commit.Empty) runs = absurd runs
puts_count calls a b (Err (commit.TooMany n)) runs = absurd runs
puts_count calls a b (Err (commit.Twice n)) runs = absurd runs
puts_count calls a b (Err (commit.Exists p n)) runs = absurd runs
puts_count calls a b (Err (commit.Absent p n)) runs = absurd runs
puts_count calls a b (Err (commit.Already p n)) runs = absurd runs
puts_count calls a b (Err (commit.IdFull p)) runs = absurd runs
puts_count calls a b (Err (commit.Full n)) runs = absurd runs
puts_count calls a b (Err commit.ClockEnd) runs = absurd runs

-- at a crash within the gets, or within the puts behind them
pub moments_before : (cs : Catalog) (changes : List Change) (now : ℕ) (base : List ℕ) (a b : Seen) (m : Area) (P : Type 0) → OnlyGets a b P → a.held ≡ Some m → SpellsCatalog m base cs
    → LeavesOnly a b (λ left. WithOrWithout cs changes now (SpellsCatalog left base))
moments_before cs changes now base a b m P gets is spells = weaker a b (λ left. left ≡ m) (λ left. WithOrWithout cs changes now (SpellsCatalog left base)) (gets.moments m is)
    (λ left here. inl (subst (λ (x : Area). SpellsCatalog x base cs) (sym here) spells))

pub moments_after : (cs : Catalog) (changes : List Change) (now : ℕ) (base : List ℕ) (a b c : Seen) → MayBeCommitted cs changes now
    → LeavesOnly a b (λ left. WithOrWithout cs changes now (SpellsCatalog left base))
    → LeavesOnly b c (λ left. SpellsCatalog left base cs ⊎ SpellsCatalog left base (with_made cs changes now))
    → LeavesOnly a c (λ left. WithOrWithout cs changes now (SpellsCatalog left base))
moments_after cs changes now base a b c is first second =
    leaves_then a b c (λ left. WithOrWithout cs changes now (SpellsCatalog left base)) first
    (weaker b c (λ left. SpellsCatalog left base cs ⊎ SpellsCatalog left base (with_made cs changes now)) (λ left. WithOrWithout cs changes now (SpellsCatalog left base)) second
    (λ left either. with_or_without cs changes now (SpellsCatalog left base) is either))

-- what is known of a settled catalog
pub ready_known : {B : Type 0} (o : Opened B) (a : Seen) (cs : Catalog) → IsReady o a cs → IsKnown o.kept a o.base cs
ready_known o a cs ready = record { lawful = ready.open_for.lawful; keeps = ready_keeps o a cs ready; store = known_store o a cs ready.open_for }

-- it stays settled through gets
pub ready_after : {B : Type 0} (o n : Opened B) (a b : Seen) (cs : Catalog) (P : Type 0) → OnlyGets a b P → n.kept ≡ o.kept → n.base ≡ o.base → n.settled ≡ o.settled → IsReady o a cs → IsReady n b cs
ready_after o n a b cs P gets kept base settled ready = record { settled = settled ∙ ready.settled; open_for = still_open o n a b cs kept base settled gets.area ready.open_for }

-- what is known, at an equal base address
pub known_at : (kept : Kept) (s : Seen) (base other : List ℕ) (cs : Catalog) → other ≡ base → IsKnown kept s base cs → IsKnown kept s other cs
known_at kept s base other cs is known = subst (λ (x : List ℕ). IsKnown kept s x cs) (sym is) known

-- behind a `?`
pub err_counts : {A C : Type 0} (before now : ℕ) (error : CommitErr) (r : Result C CommitErr) → r ≡ Err error → CountsFault before now (IsErrOf {T = A} (Err error) commit.Fault)
    → CountsFault before now (IsErrOf r commit.Fault)
err_counts before now error r is count = counts_as before now _ _ count
    (λ failed. let same : error ≡ commit.Fault = cc in is ∙ ap Err same)
    (λ failed. let same : error ≡ commit.Fault = cc in ap Err same)

pub err_runs : (base : List ℕ) (cs : Catalog) (changes : List Change) (now : ℕ) (a b : Seen) (error : CommitErr) (r : Result Committed CommitErr) → r ≡ Err error → RunsCommit [] base cs changes now a b (Err error)
    → RunsCommit [] base cs changes now a b r
err_runs base cs changes now a b error r is runs = subst (λ (x : Result Committed CommitErr). RunsCommit [] base cs changes now a b x) (sym is) runs

pub err_commits : (cs : Catalog) (changes : List Change) (now : ℕ) (P : Catalog → Type 0) (error : CommitErr) (r : Result Committed CommitErr) → r ≡ Err error → Commits cs changes now (Err error) P
    → Commits cs changes now r P
err_commits cs changes now P error r is commits = subst (λ (x : Result Committed CommitErr). Commits cs changes now x P) (sym is) commits

pub err_damage : {C : Type 0} (P Q : List ℕ → Type 0) (error : CommitErr) (r : Result C CommitErr) → r ≡ Err error → ((name : List ℕ) → P name → Q name) → IfDamagedRefusal error P → IfDamagedCommit r Q
err_damage {C} P Q error r is to told = subst (λ (x : Result C CommitErr). IfDamagedCommit x Q) (sym is) (by_error error told)
  where
    by_error : (e : CommitErr) → IfDamagedRefusal e P → IfDamagedRefusal e Q
    by_error (commit.Damaged name) here = to name here
    by_error commit.Empty here = tt
    by_error (commit.TooMany n) here = tt
    by_error (commit.Twice n) here = tt
    by_error (commit.Exists p n) here = tt
    by_error (commit.Absent p n) here = tt
    by_error (commit.Already p n) here = tt
    by_error (commit.IdFull p) here = tt
    by_error (commit.Full n) here = tt
    by_error commit.ClockEnd here = tt
    by_error commit.Fault here = tt
    by_error commit.Memory here = tt

-- what is told of a damaged blob, told otherwise
pub read_damage : (P Q : List ℕ → Type 0) (error : ReadErr) → ((name : List ℕ) → P name → Q name) → IfDamagedBy error P → IfDamagedBy error Q
read_damage P Q (read.Damaged name) to here = to name here
read_damage P Q read.Fault to here = tt
read_damage P Q read.Memory to here = tt

pub more_damage : {C : Type 0} (P Q : List ℕ → Type 0) (r : Result C CommitErr) → ((name : List ℕ) → P name → Q name) → IfDamagedCommit r P → IfDamagedCommit r Q
more_damage P Q (Ok x) to told = tt
more_damage {C} P Q (Err error) to told = err_damage {C = C} P Q error (Err error) refl to told

-- put, or stopped within the puts
pub puts_settle : (settled : Bool) (puts : List Act) (a b : Seen) (r : Result Committed CommitErr) → RunsPuts puts a b r → OnOk r (settled ≡ true) → SettlesIf settled r
puts_settle settled puts a b (Ok done) runs is = is
puts_settle settled puts a b (Err commit.Fault) runs is = tt
puts_settle settled puts a b (Err commit.Memory) runs is = tt
puts_settle settled puts a b (Err (commit.Damaged name)) runs is = tt
puts_settle settled puts a b (Err commit.Empty) runs is = absurd runs
puts_settle settled puts a b (Err (commit.TooMany n)) runs is = absurd runs
puts_settle settled puts a b (Err (commit.Twice n)) runs is = absurd runs
puts_settle settled puts a b (Err (commit.Exists p n)) runs is = absurd runs
puts_settle settled puts a b (Err (commit.Absent p n)) runs is = absurd runs
puts_settle settled puts a b (Err (commit.Already p n)) runs is = absurd runs
puts_settle settled puts a b (Err (commit.IdFull p)) runs is = absurd runs
puts_settle settled puts a b (Err (commit.Full n)) runs is = absurd runs
puts_settle settled puts a b (Err commit.ClockEnd) runs is = absurd runs

-- refused, and settled as before
pub stays_settled_at : (settled : Bool) (error : CommitErr) (r : Result Committed CommitErr) → r ≡ Err error → settled ≡ true → SettlesIf settled r
stays_settled_at settled error r told is = subst (SettlesIf settled) (sym told) (by_error error)
  where
    by_error : (e : CommitErr) → SettlesIf settled (Err e)
    by_error commit.Fault = tt
    by_error (commit.Damaged name) = tt
    by_error commit.Memory = tt
    by_error commit.Empty = is
    by_error (commit.TooMany n) = is
    by_error (commit.Twice n) = is
    by_error (commit.Exists p n) = is
    by_error (commit.Absent p n) = is
    by_error (commit.Already p n) = is
    by_error (commit.IdFull p) = is
    by_error (commit.Full n) = is
    by_error commit.ClockEnd = is

-- stopped while settling
pub unsettled_at : (settled : Bool) (error : ReadErr) → SettlesIf settled (Err (commit_err_for error))
unsettled_at settled (read.Damaged name) = tt
unsettled_at settled read.Fault = tt
unsettled_at settled read.Memory = tt
