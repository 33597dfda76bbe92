-- What a commit answered, and what it left.
use Rattle.std.proofs.Common.{◌≡◌, ◌⊎◌, ℕ, List, [], Option, None, Some, true, Ok, Err, Result, inl, inr, refl, ◌∙◌, subst, arith}
use Rattle.blob_store.specs.Area.{Area}
use Rattle.blob_store.specs.Events.{Act}
use Rattle.blob_store.specs.Moments.{LeavesOnly}
use Rattle.blob_store.specs.Plans.{Makes}
use Rattle.blob_store.specs.Seen.{Seen}
use Rattle.blob_store.proofs.Moments.{weaker}
use Rattle.pkg_meta.specs.Catalog.{Catalog}
use Rattle.catalog_doc.specs.Catalogs.{IsCatalog}
use Rattle.catalog_doc.specs.Spelled.{SpellsCatalog}
use Rattle.catalog_doc.specs.Verdict.{verdict}
use Rattle.catalog_doc.specs.declared.change.Change.{Change}
use Rattle.catalog_doc.specs.declared.change.Committed.{Committed}
use Rattle.catalog_doc.specs.declared.error.CommitErr.{CommitErr}
use Rattle.catalog_doc.specs.declared.row.Row.{Row}
use Rattle.catalog_doc.specs.declared.error.CommitErr.TheVariants.{Empty, TooMany, Twice, Exists, Absent, Already, IdFull, Full, ClockEnd, Fault, Damaged, Memory}
use Rattle.catalog_opening.specs.Openings.{IsStoreOf}
use Rattle.catalog_rows.specs.Reasons.{misshapen}
use Rattle.catalog_core.specs.Committing.{Commits, IsSettledBy, MayBeCommitted, RunsCommit, RunsOnto, with_made, WithOrWithout}
use Rattle.catalog_core.specs.Opened.{IsOpenFor, IsUnsettled, Opened}
use Rattle.commit_plan.specs.Lookups.{IfDamagedCommit, IsLastDamaged}
use Rattle.catalog_items.proofs.Getting.{leaves_then}
use Rattle.catalog_core.proofs.Frames.{known_store}
use Rattle.catalog_core.proofs.Outcomes.{runs_behind}
use Rattle.feed_app.specs.Calls.{ForOpenings}
use Rattle.admin_wire.specs.declared.line.Line.TheVariants as line
use Rattle.admin_wire.specs.declared.area.AreaName.TheVariants as area
use Rattle.feed_app.specs.Answers.{answer_status}
use Rattle.feed_app.specs.Causes.{commit_answer}
use Rattle.feed_app.specs.Damages.{NamesLeaf}
use Rattle.feed_app.specs.Publishes.{commit_reply, CommitsAt}
use Rattle.feed_app.specs.Spelled.{HasCatalog, IsOpenOver, StaysSpelled}
use Rattle.feed_app.specs.declared.answer.Answer.TheVariants.{Reply}
use Rattle.feed_app.proofs.Holding.{told_after}

pub fault_by : (e : CommitErr) → commit_answer e ≡ Reply (line.Fault area.Catalog) → e ≡ Fault
fault_by Fault is = refl
fault_by _ is = cc is

abbrev told : CommitErr → Result Committed CommitErr
told e = Err e

-- what a commit says of a catalog, of a weaker fact
with_as : (cs : Catalog) (changes : List Change) (now : ℕ) (P Q : Catalog → Type 0) → ((ds : Catalog) → P ds → Q ds) → WithOrWithout cs changes now P
    → WithOrWithout cs changes now Q
with_as cs changes now P Q to (inl p) = inl (to cs p)
with_as cs changes now P Q to (inr (taken, p)) = inr (taken, to (with_made cs changes now) p)

pub commits_as : (cs : Catalog) (changes : List Change) (now : ℕ) (r : Result Committed CommitErr) (P Q : Catalog → Type 0) → ((ds : Catalog) → P ds → Q ds)
    → Commits cs changes now r P → Commits cs changes now r Q
commits_as cs changes now (Ok done) P Q to (taken, tells, p) = (taken, tells, to (with_made cs changes now) p)
commits_as cs changes now (Err Fault) P Q to p = with_as cs changes now P Q to p
commits_as cs changes now (Err (Damaged name)) P Q to p = p
commits_as cs changes now (Err Memory) P Q to p = with_as cs changes now P Q to p
commits_as cs changes now (Err Empty) P Q to (refused, p) = (refused, to cs p)
commits_as cs changes now (Err (TooMany count)) P Q to (refused, p) = (refused, to cs p)
commits_as cs changes now (Err (Twice place)) P Q to (refused, p) = (refused, to cs p)
commits_as cs changes now (Err (Exists place number)) P Q to (refused, p) = (refused, to cs p)
commits_as cs changes now (Err (Absent place number)) P Q to (refused, p) = (refused, to cs p)
commits_as cs changes now (Err (Already place number)) P Q to (refused, p) = (refused, to cs p)
commits_as cs changes now (Err (IdFull place)) P Q to (refused, p) = (refused, to cs p)
commits_as cs changes now (Err (Full items)) P Q to (refused, p) = (refused, to cs p)
commits_as cs changes now (Err ClockEnd) P Q to (refused, p) = (refused, to cs p)

-- whatever was answered, the catalog is there with the commit or without it
pub with_or_without : (cs : Catalog) (changes : List Change) (now : ℕ) (r : Result Committed CommitErr) (P : Catalog → Type 0) → Commits cs changes now r P
    → WithOrWithout cs changes now P
with_or_without cs changes now (Ok done) P (taken, tells, p) = inr (taken, p)
with_or_without cs changes now (Err Fault) P p = p
with_or_without cs changes now (Err (Damaged name)) P p = absurd p
with_or_without cs changes now (Err Memory) P p = p
with_or_without cs changes now (Err Empty) P (refused, p) = inl p
with_or_without cs changes now (Err (TooMany count)) P (refused, p) = inl p
with_or_without cs changes now (Err (Twice place)) P (refused, p) = inl p
with_or_without cs changes now (Err (Exists place number)) P (refused, p) = inl p
with_or_without cs changes now (Err (Absent place number)) P (refused, p) = inl p
with_or_without cs changes now (Err (Already place number)) P (refused, p) = inl p
with_or_without cs changes now (Err (IdFull place)) P (refused, p) = inl p
with_or_without cs changes now (Err (Full items)) P (refused, p) = inl p
with_or_without cs changes now (Err ClockEnd) P (refused, p) = inl p

-- a settled catalog is settled by no calls
no_settling : {B : Type 0} (o : Opened B) (cs : Catalog) (why : Option CommitErr) (first : List Act) → o.settled ≡ true → IsSettledBy o cs why first
    → first ≡ []
no_settling o cs None first settled (inl (is, none)) = none
no_settling o cs None first settled (inr (unsettled, before, more, made, kept, acts)) = cc (settled, unsettled)
no_settling o cs (Some error) first settled none = none

-- the calls of a commit of an open catalog, behind those of its opening
calls_behind : {B : Type 0} (s now after : Seen) (o : Opened B) (changes : List Change) (moment : ℕ) (r : Result Committed CommitErr)
    → IsOpenOver s o now → o.settled ≡ true → ForOpenings s (λ base cs plan. Makes plan s now)
    → ((cs : Catalog) → IsOpenFor o now cs → RunsOnto o cs changes moment now after r)
    → ForOpenings s (λ base cs plan. RunsCommit plan base cs changes moment s after r)
calls_behind s now after o changes moment r over settled opens runs m base cs plan lawful there spells is =
    let at = over base cs (record { lawful = lawful; store = (m, there, spells) }) in
    let ran = runs cs at.1 in
    let own = subst (λ (first : List Act). RunsCommit first o.base cs changes moment now after r)
    (no_settling o cs (misshapen changes) ran.0 settled ran.1) ran.2 in
    runs_behind plan base cs changes moment s now after r (opens m base cs plan lawful there spells is)
    (subst (λ (b : List ℕ). RunsCommit [] b cs changes moment now after r) at.0 own)

-- a settled catalog's commit that tells a damaged blob tells a leaf
pub commit_leaf : {B : Type 0} (o : Opened B) (m later : Area) (base : List ℕ) (rows : List Row) (name : List ℕ) → o.settled ≡ true
    → IsUnsettled m o name ⊎ IsLastDamaged later base rows name → NamesLeaf name
commit_leaf o m later base rows name settled (inl unsettled) = let no : ⊥ = cc (settled, unsettled.0) in absurd no
commit_leaf o m later base rows name settled (inr (id, version, row, last, (is, none))) = (row.number, row.place, is)

-- a commit of an open catalog, behind its opening
pub commits_behind : {B : Type 0} (s now after : Seen) (o n : Opened B) (changes : List Change) (moment : ℕ) (r : Result Committed CommitErr)
    → StaysSpelled s now → IsOpenOver s o now → n.base ≡ o.base
    → ((cs : Catalog) → IsOpenFor o now cs → Commits cs changes moment r (IsOpenFor n after))
    → ((cs : Catalog) → IsOpenFor o now cs → LeavesOnly now after (λ left. WithOrWithout cs changes moment (SpellsCatalog left o.base)))
    → o.settled ≡ true → ForOpenings s (λ base cs plan. Makes plan s now)
    → ((cs : Catalog) → IsOpenFor o now cs → RunsOnto o cs changes moment now after r)
    → ((cs : Catalog) → IsCatalog cs → MayBeCommitted cs changes moment → IsCatalog (with_made cs changes moment))
    → ((m later : Area) → now.held ≡ Some m → after.held ≡ Some later → IfDamagedCommit r NamesLeaf)
    → CommitsAt changes moment s after r
commits_behind s now after o n changes moment r first over same commits moments settled opens runs lawful damaged = record {
  damaged = λ m later told left. let opened = told_after s.held now.held m first.mended told in damaged opened.0 later opened.1 left;
  calls = calls_behind s now after o changes moment r over settled opens runs;
  commits = λ base cs has.
      let at = over base cs has in
      commits_as cs changes moment r (IsOpenFor n after) (HasCatalog after base)
      (λ ds is. record { lawful = is.lawful; store = subst (λ (x : List ℕ). IsStoreOf after x ds) (same ∙ at.0) (known_store n after ds is) })
      (commits cs at.1);
  moments = λ base cs has.
      let at = over base cs has in
      leaves_then s now after (λ left. WithOrWithout cs changes moment (SpellsCatalog left base))
      (weaker s now (λ left. SpellsCatalog left base cs) (λ left. WithOrWithout cs changes moment (SpellsCatalog left base)) (first.spelled base cs has).1
      (λ left here. inl here))
      (subst (λ (x : List ℕ). LeavesOnly now after (λ left. WithOrWithout cs changes moment (SpellsCatalog left x))) at.0 (moments cs at.1));
  lawful = λ base cs has. lawful cs has.lawful;
}

-- a commit that wasn't refused
pub reply_done : (r : Result Committed CommitErr) → answer_status (commit_reply r) ≡ 0 → (done : Committed) × (r ≡ Ok done)
reply_done (Ok done) is = (done, refl)
reply_done (Err Fault) is = absurd (omega (arith, is))
reply_done (Err (Damaged name)) is = absurd (omega (arith, is))
reply_done _ is = absurd (omega (arith, is))

module _ (cs : Catalog) (changes : List Change) (now : ℕ) (P : Catalog → Type 0) where
  both : (e : CommitErr) → MayBeCommitted cs changes now → verdict cs changes now ≡ Err e → ⊥
  both e taken refused = cc (taken, refused)

  -- changes that are taken aren't refused
  pub not_refused : (r : Result Committed CommitErr) → MayBeCommitted cs changes now → answer_status (commit_reply r) ≡ 3 → Commits cs changes now r P → ⊥
  not_refused (Ok done) taken is commits = omega (arith, is)
  not_refused (Err Fault) taken is commits = omega (arith, is)
  not_refused (Err (Damaged name)) taken is commits = commits
  not_refused (Err Memory) taken is commits = omega (arith, is)
  not_refused (Err Empty) taken is commits = both Empty taken commits.0
  not_refused (Err (TooMany count)) taken is commits = both (TooMany count) taken commits.0
  not_refused (Err (Twice place)) taken is commits = both (Twice place) taken commits.0
  not_refused (Err (Exists place number)) taken is commits = both (Exists place number) taken commits.0
  not_refused (Err (Absent place number)) taken is commits = both (Absent place number) taken commits.0
  not_refused (Err (Already place number)) taken is commits = both (Already place number) taken commits.0
  not_refused (Err (IdFull place)) taken is commits = both (IdFull place) taken commits.0
  not_refused (Err (Full items)) taken is commits = both (Full items) taken commits.0
  not_refused (Err ClockEnd) taken is commits = both ClockEnd taken commits.0

  pub not_damaged : (r : Result Committed CommitErr) → answer_status (commit_reply r) ≡ 6 → Commits cs changes now r P → ⊥
  not_damaged (Err (Damaged name)) is commits = commits
  not_damaged _ is commits = omega (arith, is)
