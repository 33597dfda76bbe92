-- Histories: commands one after the other on one feed, each of which ended, or was stopped by a crash.
use Rattle.std.specs.Prelude.{◌≡◌, ◌⊎◌, ◌<◌, ◌≤◌, ℕ, List, [], ◌∷◌, Option, Some, None, ⊤}
use Rattle.feed_base.specs.Counts.{most}
use Rattle.blob_store.specs.Area.{Area}
use Rattle.blob_store.specs.Seen.{Seen}
use Rattle.pkg_meta.specs.Catalog.{Catalog}
use Rattle.catalog_doc.specs.declared.change.Change.{Change}
use Rattle.catalog_core.specs.Committing.{MayBeCommitted, with_made}
use Rattle.admin_wire.specs.declared.area.AreaName.{AreaName}
use Rattle.feed_app.specs.Commands.{Command, Init, Names, Publish, command_of}
use Rattle.feed_app.specs.Does.{reach_of}
use Rattle.feed_app.specs.Frame.{Touch, Nothing, Asks, Opens, Changes, touch_of}
use Rattle.feed_app.specs.Names.{AreAsked}
use Rattle.feed_app.specs.Outside.{Bounds, Members, Outside, area_of, input_of}
use Rattle.feed_app.specs.Publishes.{Brings}
use Rattle.feed_app.specs.Runs.{RunsCommand}
use Rattle.app_laws.specs.Feeds.{Areas, Hold}

-- what became of a command: it ended with this status, or a crash stopped it
pub data Fate : Type 0 where
  Ended : ℕ → Fate
  Crashed : Fate

-- a command of a history: its words, the bytes that its input told, and what became of it
pub record Step : Type 0 where
  pub words : List (List ℕ)
  pub input : Option (List ℕ)
  pub fate : Fate

-- what a crash leaves of a store at some moment of a call
abbrev pub IsLeftByCrash : Seen → Seen → Area → Type 0
IsLeftByCrash old new left = (t : ℕ) × (old.calls ≤ t) × (t ≤ new.calls) × (new.calls < most) × new.left t left

-- the same of a store that the call may put to; one that it asks at the most holds what it held
abbrev pub IsLeftBy : {B : Type 0} → Members B → Touch → B → B → Area → Type 0
IsLeftBy m Nothing old new left = (m.seen old).held ≡ Some left
IsLeftBy m Asks old new left = (m.seen old).held ≡ Some left
IsLeftBy m Opens old new left = IsLeftByCrash (m.seen old) (m.seen new) left
IsLeftBy m Changes old new left = IsLeftByCrash (m.seen old) (m.seen new) left

-- it is the command that makes a catalog: of its crashes nothing is said here
abbrev pub MakesCatalog : Option Command → Type 0
MakesCatalog (Some (Init base)) = ⊤
MakesCatalog _ = ⊥

-- the step's command was called over these areas, with that input
pub record IsCalled {B I O C : Type 0} (b : Bounds B I O C) (step : Step) (old : Areas) (before : Outside B I O C) : Type 0 where
  pub stores : Hold b.blobs before.stores old
  pub input : (input_of b.source before.input).told ≡ step.input

-- The step leads from these areas to those: its call ended with the stores telling them, or a crash at some moment of the call left them.
abbrev pub StepLeads : {B I O C : Type 0} → Bounds B I O C → Step → Fate → Areas → Areas → Type 0
StepLeads {B} {I} {O} {C} b step (Ended status) old new = (before after : Outside B I O C) × IsCalled b step old before
    × RunsCommand b step.words before status after × Hold b.blobs after.stores new
StepLeads {B} {I} {O} {C} b step Crashed old new = (before after : Outside B I O C) × (status : ℕ) × IsCalled b step old before
    × RunsCommand b step.words before status after × (MakesCatalog (command_of step.words) → ⊥)
    × ((name : AreaName) → IsLeftBy b.blobs (touch_of (reach_of b.blobs (command_of step.words)) name)
    (area_of before.stores name) (area_of after.stores name) (new name))

-- the steps lead there, one after the other
abbrev pub Lead : {B I O C : Type 0} → Bounds B I O C → List Step → Areas → Areas → Type 0
Lead b [] old new = (name : AreaName) → new name ≡ old name
Lead b (step ∷ steps) old new = (mid : Areas) × StepLeads b step step.fate old mid × Lead b steps mid new

-- a command with this input asks for these changes
abbrev pub AsksChanges : Command → Option (List ℕ) → List Change → Type 0
AsksChanges Publish input changes = Brings input changes
AsksChanges (Names kind pairs) input changes = AreAsked kind pairs changes
AsksChanges _ input changes = ⊥

-- the catalog with one commit, which the verdict took, of changes that the command asks for
abbrev pub IsWithCommit : Command → Option (List ℕ) → Catalog → Catalog → Type 0
IsWithCommit command input cs ds = (changes : List Change) × (now : ℕ) × AsksChanges command input changes × MayBeCommitted cs changes now
    × (ds ≡ with_made cs changes now)

-- What a command that commits made of a catalog, where it ended with this status: told, it is with the commit; refused, without; else either.
pub record IsEndedWith (command : Command) (input : Option (List ℕ)) (cs ds : Catalog) (status : ℕ) : Type 0 where
  pub either : (ds ≡ cs) ⊎ IsWithCommit command input cs ds
  pub told : status ≡ 0 → IsWithCommit command input cs ds
  pub refused : status ≡ 3 → ds ≡ cs

-- where a crash stopped it, either
abbrev pub BecomesByCommit : Command → Option (List ℕ) → Fate → Catalog → Catalog → Type 0
BecomesByCommit command input (Ended status) cs ds = IsEndedWith command input cs ds status
BecomesByCommit command input Crashed cs ds = (ds ≡ cs) ⊎ IsWithCommit command input cs ds

-- what becomes of a catalog, by the command that was asked for: only those that commit change it
abbrev pub Becomes : Option Command → Option (List ℕ) → Fate → Catalog → Catalog → Type 0
Becomes (Some Publish) input fate cs ds = BecomesByCommit Publish input fate cs ds
Becomes (Some (Names kind pairs)) input fate cs ds = BecomesByCommit (Names kind pairs) input fate cs ds
Becomes _ input fate cs ds = ds ≡ cs

-- over these steps
abbrev pub BecomesOver : List Step → Catalog → Catalog → Type 0
BecomesOver [] cs ds = ds ≡ cs
BecomesOver (step ∷ steps) cs ds = (mid : Catalog) × Becomes (command_of step.words) step.input step.fate cs mid × BecomesOver steps mid ds
