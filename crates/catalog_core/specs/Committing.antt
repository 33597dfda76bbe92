-- What a commit answers, what it calls, and what it leaves.
use Rattle.std.specs.Prelude.{◌≡◌, ◌⊎◌, ℕ, List, [], ◌∷◌, ◌++◌, map, Bool, true, Option, None, Some, Result, ⊤}
use Rattle.std.specs.declared.result.Result.TheVariants.{Ok, Err}
use Rattle.blob_store.specs.Events.{Act, Change as change_act}
use Rattle.blob_store.specs.Plans.{Makes, MakesSome, StopsAt}
use Rattle.blob_store.specs.Seen.{Seen}
use Rattle.blob_store.specs.declared.error.BlobErr.TheVariants as blob
use Rattle.pkg_meta.specs.Catalog.{Catalog}
use Rattle.pkg_meta.specs.declared.commit.Stored.{Stored}
use Rattle.catalog_doc.specs.CatDocs.{all_rows}
use Rattle.catalog_doc.specs.Commits.{commit_puts, made}
use Rattle.catalog_doc.specs.Verdict.{verdict}
use Rattle.catalog_doc.specs.declared.change.Change.{Change}
use Rattle.catalog_doc.specs.declared.change.Committed.{Committed}
use Rattle.catalog_doc.specs.declared.error.CommitErr.{CommitErr}
use Rattle.catalog_doc.specs.declared.error.CommitErr.TheVariants.{Fault, Damaged, Memory}
use Rattle.catalog_rows.specs.Reasons.{misshapen}
use Rattle.commit_plan.specs.Lookups.{listing_gets, refused_gets}
use Rattle.catalog_core.specs.Framing.{IsSettlingPlan}
use Rattle.catalog_core.specs.Opened.{Opened}

-- the catalog with the commit that these changes make
abbrev pub with_made : Catalog → List Change → ℕ → Catalog
with_made cs changes now = cs ++ made cs changes now ∷ []

-- the changes may be committed
abbrev pub MayBeCommitted : Catalog → List Change → ℕ → Type 0
MayBeCommitted cs changes now = verdict cs changes now ≡ Ok (made cs changes now)

-- the number and the stamp that were told are those of the commit
abbrev pub TellsCommit : Catalog → List Change → ℕ → Committed → Type 0
TellsCommit cs changes now done = (done.number ≡ (made cs changes now).commit.number) × (done.stamp ≡ (made cs changes now).commit.stamp)

-- P of the catalog with the commit, or of the one without
abbrev pub WithOrWithout : Catalog → List Change → ℕ → (Catalog → Type 0) → Type 0
WithOrWithout cs changes now P = P cs ⊎ (MayBeCommitted cs changes now × P (with_made cs changes now))

-- The answer of a commit onto a catalog, and the catalog afterwards, of which P says that it is open: committed, or
-- stopped, with the commit or without it; or refused by the verdict, without it. Nothing is told as damaged.
abbrev pub Commits : Catalog → List Change → ℕ → Result Committed CommitErr → (Catalog → Type 0) → Type 0
Commits cs changes now (Ok done) P = MayBeCommitted cs changes now × TellsCommit cs changes now done × P (with_made cs changes now)
Commits cs changes now (Err Fault) P = WithOrWithout cs changes now P
Commits cs changes now (Err (Damaged name)) P = ⊥
Commits cs changes now (Err Memory) P = WithOrWithout cs changes now P
Commits cs changes now (Err error) P = (verdict cs changes now ≡ Err error) × P cs

-- what the puts of a commit left: the catalog with the commit, or, where one wasn't done or memory ran out, either
abbrev pub PutsCommit : {A E : Type 0} → Catalog → Stored → Result A E → (Catalog → Type 0) → Type 0
PutsCommit cs c (Ok a) P = P (cs ++ c ∷ [])
PutsCommit cs c (Err error) P = P cs ⊎ P (cs ++ c ∷ [])

-- puts were made as the result tells: all of them, or up to a call that failed, or up to where memory ran out
abbrev pub RunsPuts : {A : Type 0} → List Act → Seen → Seen → Result A CommitErr → Type 0
RunsPuts puts old new (Ok a) = Makes puts old new
RunsPuts puts old new (Err Fault) = StopsAt puts blob.Failed old new
RunsPuts puts old new (Err Memory) = StopsAt puts blob.Memory old new ⊎ MakesSome puts old new
RunsPuts puts old new (Err error) = ⊥

-- the gets of the leaves that changes need, and behind them the puts of the commit that they make
abbrev pub commit_acts : List ℕ → Catalog → List Change → ℕ → List Act
commit_acts base cs changes now = listing_gets (all_rows cs) changes ++ map change_act (commit_puts base cs (made cs changes now))

-- P of the gets alone, or, where the verdict takes the changes, of the gets and the puts behind them
abbrev pub GetsOrAll : List ℕ → Catalog → List Change → ℕ → (List Act → Type 0) → Type 0
GetsOrAll base cs changes now P = P (listing_gets (all_rows cs) changes) ⊎ (MayBeCommitted cs changes now × P (commit_acts base cs changes now))

-- The calls of a commit, behind these, as its result tells: committed, all of them were made, in order. After a fault or
-- want of memory they were made up to there, and of the puts none where the verdict refuses the changes. Refused by the
-- verdict, nothing was put.
abbrev pub RunsCommit : List Act → List ℕ → Catalog → List Change → ℕ → Seen → Seen → Result Committed CommitErr → Type 0
RunsCommit first base cs changes now old new (Ok done) = Makes (first ++ commit_acts base cs changes now) old new
RunsCommit first base cs changes now old new (Err Fault) = GetsOrAll base cs changes now (λ acts. StopsAt (first ++ acts) blob.Failed old new)
RunsCommit first base cs changes now old new (Err (Damaged name)) = ⊥
RunsCommit first base cs changes now old new (Err Memory) =
    GetsOrAll base cs changes now (λ acts. StopsAt (first ++ acts) blob.Memory old new ⊎ MakesSome (first ++ acts) old new)
RunsCommit first base cs changes now old new (Err error) = Makes (first ++ refused_gets (all_rows cs) changes error) old new

-- those before a commit's own: where no catalog takes the changes, for this reason, none; else those that settle it
abbrev pub IsSettledBy : {B : Type 0} → Opened B → Catalog → Option CommitErr → List Act → Type 0
IsSettledBy o cs None first = IsSettlingPlan o cs first
IsSettledBy o cs (Some error) first = first ≡ []

-- the calls of a commit onto an open catalog were made as its result tells
abbrev pub RunsOnto : {B : Type 0} → Opened B → Catalog → List Change → ℕ → Seen → Seen → Result Committed CommitErr → Type 0
RunsOnto o cs changes now old new result =
    (first : List Act) × IsSettledBy o cs (misshapen changes) first × RunsCommit first o.base cs changes now old new result

-- committed, or refused by the verdict, the catalog is settled afterwards
abbrev pub SettlesIf : Bool → Result Committed CommitErr → Type 0
SettlesIf settled (Ok done) = settled ≡ true
SettlesIf settled (Err Fault) = ⊤
SettlesIf settled (Err (Damaged name)) = ⊤
SettlesIf settled (Err Memory) = ⊤
SettlesIf settled (Err error) = settled ≡ true

-- the same, unless no catalog takes the changes, for this reason: then it is settled or not as before
abbrev pub SettlesUnless : Option CommitErr → Bool → Bool → Result Committed CommitErr → Type 0
SettlesUnless None old new result = SettlesIf new result
SettlesUnless (Some reason) old new result = new ≡ old
