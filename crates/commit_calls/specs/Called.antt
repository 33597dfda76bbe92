-- What is told of a commit, of a settling and of an opening by their clauses.
use Rattle.std.specs.Prelude.{◌≡◌, ◌≤◌, ℕ, List, Some, Result, true}
use Rattle.blob_store.specs.Area.{Area}
use Rattle.blob_store.specs.Events.{Act}
use Rattle.blob_store.specs.Seen.{Seen}
use Rattle.pkg_meta.specs.Catalog.{Catalog}
use Rattle.catalog_doc.specs.declared.change.Change.{Change}
use Rattle.catalog_doc.specs.declared.change.Committed.{Committed}
use Rattle.catalog_doc.specs.declared.error.CommitErr.{CommitErr}
use Rattle.catalog_laws.specs.Values.{AreChangeValues}
use Rattle.catalog_opening.specs.Openings.{IsOpeningPlan, RunsOpening}
use Rattle.catalog_opening.specs.declared.error.OpenErr.{OpenErr}
use Rattle.catalog_opening.specs.declared.error.ReadErr.{ReadErr}
use Rattle.catalog_core.specs.Committing.{Commits, RunsOnto}
use Rattle.catalog_core.specs.Framing.{RunsSettling}
use Rattle.catalog_core.specs.Opened.{IsOpenFor, Opened}
use Rattle.feed_laws.specs.Worlds.{World}

-- `commit` was called with changes of the code's types, on a catalog that is open for this one, in an area that is told; it answered so,
-- and its calls are those of its clause `runs`
pub record Committing {B : Type 0} (o n : Opened B) (cs : Catalog) (changes : List Change) (now : ℕ) (m : Area) (before after : Seen)
    (result : Result Committed CommitErr) : Type 0 where
  pub open_for : IsOpenFor o before cs
  pub held : before.held ≡ Some m
  pub values : AreChangeValues changes
  pub moment : now ≤ 3_155_378_975_999_999_999
  pub answers : Commits cs changes now result (IsOpenFor n after)
  pub runs : RunsOnto o cs changes now before after result

-- a call that settles the catalog first was made on one that is open for this one, in an area that is told, up to where it had settled it
pub record Settling {A B : Type 0} (o : Opened B) (cs : Catalog) (m : Area) (before after : Seen) (result : Result A ReadErr) : Type 0 where
  pub open_for : IsOpenFor o before cs
  pub held : before.held ≡ Some m
  pub runs : RunsSettling o cs before after result

-- an area that is told was opened, and the calls are those of the plan for this catalog
pub record Opening {A : Type 0} (base : List ℕ) (cs : Catalog) (plan : List Act) (m : Area) (before after : Seen) (result : Result A OpenErr) : Type 0 where
  pub held : before.held ≡ Some m
  pub planned : IsOpeningPlan m base cs plan
  pub runs : RunsOpening plan before after result

-- the feed is up, below the base address of the open catalog
pub record IsFeedOf {B : Type 0} (o : Opened B) (w : World) : Type 0 where
  pub up : w.up ≡ true
  pub base : o.base ≡ w.base
