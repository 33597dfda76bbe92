-- The command `publish`. Where the source tells its bytes and the store its area, the conditions of an answer hold those
-- of the steps before it: input, body, opening, clock, commit.
use Rattle.std.specs.Prelude.{◌≡◌, ◌⊎◌, ◌≤◌, ◌<◌, ℕ, List, length, Option, Some, IfSome, Result, ⊤}
use Rattle.std.specs.declared.result.Result.TheVariants.{Ok, Err}
use Rattle.admin_wire.specs.Bodies.{ArePublishes, IsRefusedPublish}
use Rattle.admin_wire.specs.declared.error.BodyErr.{BodyErr}
use Rattle.admin_wire.specs.declared.error.BodyErr.TheVariants as body
use Rattle.admin_wire.specs.declared.line.Line.TheVariants as line
use Rattle.admin_wire.specs.declared.line.Refusal.TheVariants as refusal
use Rattle.feed_base.specs.Clock.{Tells}
use Rattle.blob_store.specs.Area.{Area}
use Rattle.blob_store.specs.Moments.{LeavesOnly}
use Rattle.blob_store.specs.Seen.{Seen}
use Rattle.pkg_meta.specs.Catalog.{Catalog}
use Rattle.catalog_doc.specs.Catalogs.{IsCatalog}
use Rattle.catalog_doc.specs.Spelled.{SpellsCatalog}
use Rattle.catalog_doc.specs.declared.change.Change.{Change}
use Rattle.catalog_doc.specs.declared.change.Committed.{Committed}
use Rattle.catalog_doc.specs.declared.error.CommitErr.{CommitErr}
use Rattle.catalog_core.specs.Committing.{Commits, MayBeCommitted, RunsCommit, WithOrWithout, with_made}
use Rattle.feed_app.specs.Calls.{ForOpenings}
use Rattle.commit_plan.specs.Lookups.{IfDamagedCommit}
use Rattle.feed_app.specs.Causes.{commit_answer}
use Rattle.feed_app.specs.Damages.{NamesLeaf}
use Rattle.feed_app.specs.Frame.{Meaning, Changes, most_input, nothing}
use Rattle.feed_app.specs.Openings.{MayOpen, NotOpened}
use Rattle.feed_app.specs.Outside.{Members, Sight, Shows, held}
use Rattle.feed_app.specs.Spelled.{ForSpelled, HasCatalog, HoldsCatalog, StaysSpelled}
use Rattle.feed_app.specs.declared.answer.Answer.{Answer}
use Rattle.feed_app.specs.declared.answer.Answer.TheVariants.{Reply}

-- the input isn't too long, and is refused as a body of publishes for this reason
abbrev pub IsRefusedBody : Option (List ℕ) → BodyErr → Type 0
IsRefusedBody rest e = IfSome rest (λ body. (length body ≤ most_input) × IsRefusedPublish body e)

-- the input was not taken: why, of the bytes that the source had
abbrev pub NotTaken : Answer → Option (List ℕ) → Type 0
NotTaken (Reply line.FaultInput) rest = ⊤
NotTaken (Reply line.TooLong) rest = IfSome rest (λ body. most_input < length body)
NotTaken (Reply (line.Refused (refusal.Body at))) rest = IsRefusedBody rest (body.Shape at)
NotTaken (Reply (line.Refused (refusal.Meta place why))) rest = IsRefusedBody rest (body.Meta place why)
NotTaken (Reply line.Memory) rest = ⊤
NotTaken _ rest = ⊥

-- the input isn't too long, and is a body of these publishes
abbrev pub Brings : Option (List ℕ) → List Change → Type 0
Brings rest changes = IfSome rest (λ body. (length body ≤ most_input) × ArePublishes body changes)

-- what is told of a commit
abbrev pub commit_reply : Result Committed CommitErr → Answer
commit_reply (Ok done) = Reply (line.Committed done.number done.stamp)
commit_reply (Err error) = commit_answer error

-- The commit of these changes ended so, of every catalog that was spelled. A crash at each moment leaves an area that spells
-- the catalog with the commit or without it. The calls are those of the opening, and the commit's behind them, as the result tells.
pub record CommitsAt (changes : List Change) (now : ℕ) (old new : Seen) (result : Result Committed CommitErr) : Type 0 where
  pub commits : ForSpelled old (λ base cs. Commits cs changes now result (HasCatalog new base))
  pub moments : ForSpelled old (λ base cs. LeavesOnly old new (λ left. WithOrWithout cs changes now (SpellsCatalog left base)))
  pub calls : ForOpenings old (λ base cs plan. RunsCommit plan base cs changes now old new result)
  -- of every area: a blob that is told as damaged is a leaf
  pub damaged : (m later : Area) → old.held ≡ Some m → new.held ≡ Some later → IfDamagedCommit result NamesLeaf
  -- with the commit that the verdict takes it is a lawful one
  pub lawful : ForSpelled old (λ base cs. MayBeCommitted cs changes now → IsCatalog (with_made cs changes now))

-- the catalog that was spelled is spelled with one commit behind the others, which the verdict took
abbrev pub HasCommit : Seen → Seen → Type 0
HasCommit old new = ForSpelled old (λ base cs. (changes : List Change) × (now : ℕ) × MayBeCommitted cs changes now
    × HasCatalog new base (with_made cs changes now))

-- one catalog that was spelled is spelled so, or as it was, and so it is where a crash at any moment stops the call
abbrev pub IsCommitOrNot : Seen → Seen → List ℕ → Catalog → Type 0
IsCommitOrNot old new base cs = (changes : List Change) × (now : ℕ) × WithOrWithout cs changes now (HasCatalog new base)
    × LeavesOnly old new (λ left. WithOrWithout cs changes now (SpellsCatalog left base))

-- each is
abbrev pub HasCommitOrNot : Seen → Seen → Type 0
HasCommitOrNot old new = ForSpelled old (IsCommitOrNot old new)

-- The clock wasn't asked, and what the area spelled it spells: no catalog was opened. Or the clock was asked once, and the
-- changes were committed at that moment onto the catalog that was there.
abbrev pub Ends : Option (List ℕ) → Answer → List Change → Seen → Seen → Option (List ℕ) → Option (List ℕ) → Type 0
Ends given answer changes old new told later =
    (NotOpened given answer old new × StaysSpelled old new × (later ≡ told))
    ⊎ (MayOpen given old × (now : ℕ) × (result : Result Committed CommitErr) × Tells now told later × (answer ≡ commit_reply result)
    × CommitsAt changes now old new result)

-- What `publish` answers, and what it leaves: the input was not taken, and neither the catalog's area nor the clock was
-- asked; or it is a body of publishes, and what became of them.
abbrev pub Publishes : {B : Type 0} → Members B → Sight B → Answer → Sight B → Type 0
Publishes m before answer after =
    (NotTaken answer before.input.told × (after.stores.catalog ≡ before.stores.catalog) × (after.clock ≡ before.clock))
    ⊎ ((changes : List Change) × Brings before.input.told changes
    × Ends before.given answer changes (m.seen before.stores.catalog) (m.seen after.stores.catalog) before.clock after.clock)

-- the area spells a catalog, and the publishes that the body asks for may follow each such catalog at every moment
abbrev pub CanTake : Area → List ℕ → Type 0
CanTake area body = HoldsCatalog area × ((base : List ℕ) (cs : Catalog) (changes : List Change) (now : ℕ) → IsCatalog cs → SpellsCatalog area base cs
    → ArePublishes body changes → MayBeCommitted cs changes now)

-- a body of publishes that isn't too long, which the catalog can take
abbrev pub IsTakeable : Area → List ℕ → Type 0
IsTakeable area body = (length body ≤ most_input) × ((changes : List Change) × ArePublishes body changes) × CanTake area body

-- it reads the input, asks the clock and changes the catalog's area
abbrev pub publish_meaning : {B : Type 0} → Members B → Meaning B
publish_meaning m = record {
  reach = record nothing { catalog = Changes; input = Changes; clock = Changes };
  ready = λ before. MayOpen before.given (m.seen before.stores.catalog)
      × Shows before.input.told (λ body. Shows (held m before.stores.catalog) (λ area. IsTakeable area body));
  acts = Publishes m;
}
