-- What a hive makes of a catalog, and when that is what is held of an id.
use Rattle.std.specs.Prelude.{◌≡◌, ◌<◌, ◌≤◌, ℕ, List, take, false, Contains, Option, Some, None, IsSome}
use Rattle.pkg_meta.specs.Catalog.{Catalog}
use Rattle.pkg_meta.specs.declared.state.StateDoc.{StateDoc}
use Rattle.fold_core.specs.Docs.{MakesDocs, id_doc, owner}
use Rattle.fold_core.specs.Entries.{Keeps}
use Rattle.fold_core.specs.Items.{commits_of, touched_at}

-- a hive below a base address: which details it keeps, and which documents it makes
pub record Fold : Type 0 where
  pub keeps : Keeps
  pub makes : MakesDocs
  pub base : List ℕ

abbrev pub fold_of : Keeps → MakesDocs → List ℕ → Fold
fold_of keeps makes base = record { keeps = keeps; makes = makes; base = base }

-- what stands under each name, or nothing
abbrev pub Look : Type 0 → Type 0
Look X = List ℕ → Option X

-- the number of the last of a catalog's first k commits that has an item of the id, 0 where none has
abbrev pub touched_by : Catalog → List ℕ → ℕ → ℕ
touched_by cs key k = touched_at (commits_of cs) key k

-- the bytes that an id's document of a name has after the first k commits, or nothing
abbrev pub made_at : Fold → Catalog → List ℕ → ℕ → List ℕ → Option (List ℕ)
made_at f cs key k name = id_doc f.keeps f.makes f.base (take k cs) key name

-- under the id's document names stands what the first k commits make of it, and nothing else
abbrev pub HoldsAt : Fold → Catalog → List ℕ → ℕ → Look (List ℕ) → Type 0
HoldsAt f cs key k held = (name : List ℕ) → owner name ≡ Some key → held name ≡ made_at f cs key k name

-- these are the names of the documents that the first k commits make of the id
pub record NamesAt (f : Fold) (cs : Catalog) (key : List ℕ) (k : ℕ) (names : List (List ℕ)) : Type 0 where
  pub made : (name : List ℕ) → IsSome (made_at f cs key k name) → Contains names name
  pub only : (name : List ℕ) → Contains names name → IsSome (made_at f cs key k name)

-- the state of an id that has been taken up to commit k: it isn't dirty, no item of the id lies behind its `at`, and it has the names
pub record IsTakenUp (f : Fold) (cs : Catalog) (key : List ℕ) (k : ℕ) (s : StateDoc) : Type 0 where
  pub begun : 0 < touched_by cs key k
  pub clean : s.dirty ≡ false
  pub reached : s.at ≤ k
  pub recent : touched_by cs key k ≤ s.at
  pub names : NamesAt f cs key k s.names

-- an id without an item has no state
abbrev pub IsCleanState : Fold → Catalog → List ℕ → ℕ → Option StateDoc → Type 0
IsCleanState f cs key k None = touched_by cs key k ≡ 0
IsCleanState f cs key k (Some s) = IsTakenUp f cs key k s

-- nothing is left to do for the id up to commit k
pub record Clean (f : Fold) (cs : Catalog) (key : List ℕ) (k : ℕ) (stored : Option StateDoc) (held : Look (List ℕ)) : Type 0 where
  pub holds : HoldsAt f cs key k held
  pub state : IsCleanState f cs key k stored

-- nothing is left to do for any id, so the hive is exactly what the first k commits make
abbrev pub Settled : Fold → Catalog → ℕ → Look StateDoc → Look (List ℕ) → Type 0
Settled f cs k states held = (key : List ℕ) → Clean f cs key k (states key) held
