-- When a hive's states and documents fit the catalog and the cursor, id by id.
use Rattle.std.specs.Prelude.{◌≡◌, ◌<◌, ◌≤◌, ℕ, List, length, take, true, false, Contains, Option, Some, None, IsSome, ⊤}
use Rattle.pkg_meta.specs.Catalog.{Catalog}
use Rattle.pkg_meta.specs.declared.state.StateDoc.{StateDoc}
use Rattle.fold_core.specs.Docs.{id_index_name, owner}
use Rattle.fold_core.specs.Entries.{entries_of}
use Rattle.fold_core.specs.Folds.{Fold, HoldsAt, Look, NamesAt, made_at, touched_by}
use Rattle.fold_core.specs.Items.{commits_of, items_of, touched_stamp}

-- what the state tells of the commits up to its `at` is as computed from all of them
pub record IsScratch (f : Fold) (cs : Catalog) (key : List ℕ) (s : StateDoc) : Type 0 where
  pub touched : s.touched ≡ touched_by cs key s.at
  pub stamp : s.touched_stamp ≡ touched_stamp (commits_of (take s.at cs)) key
  pub entries : s.entries ≡ entries_of f.keeps (items_of (commits_of (take s.at cs)) key)

-- A stored state covers what is held of its id: its id has an item up to `at`, and its names are document names of the id, among them
-- those that are held and those that the commits up to `at` make.
pub record IsCovered (f : Fold) (cs : Catalog) (key : List ℕ) (s : StateDoc) (held : Look (List ℕ)) : Type 0 where
  pub begun : 0 < touched_by cs key s.at
  pub reached : s.at ≤ length cs
  pub scratch : IsScratch f cs key s
  pub owned : (name : List ℕ) → Contains s.names name → owner name ≡ Some key
  pub held_names : (name : List ℕ) → owner name ≡ Some key → IsSome (held name) → Contains s.names name
  pub made : (name : List ℕ) → IsSome (made_at f cs key s.at name) → Contains s.names name

-- A stored state fits the cursor c: no item up to c lies behind its `at`; where it isn't dirty its documents are exactly those of `at`;
-- past c it stands only at an item past c; and a dirty one stands past c.
pub record IsAtCursor (f : Fold) (cs : Catalog) (c : ℕ) (key : List ℕ) (s : StateDoc) (held : Look (List ℕ)) : Type 0 where
  pub recent : touched_by cs key c ≤ s.at
  pub exact : s.dirty ≡ false → HoldsAt f cs key s.at held × NamesAt f cs key s.at s.names
  pub ahead : c < s.at → c < touched_by cs key s.at
  pub dirty : s.dirty ≡ true → c < s.at

-- an id without a state has no item up to the cursor, and no document
abbrev pub HasState : Fold → Catalog → ℕ → List ℕ → Option StateDoc → Look (List ℕ) → Type 0
HasState f cs c key None held = (touched_by cs key c ≡ 0) × ((name : List ℕ) → owner name ≡ Some key → held name ≡ None)
HasState f cs c key (Some s) held = IsCovered f cs key s held × IsAtCursor f cs c key s held

-- each document of the id, also one that isn't there, is that of a prefix that reaches the cursor
abbrev pub Fresh : Fold → Catalog → ℕ → List ℕ → Look (List ℕ) → Type 0
Fresh f cs c key held = (name : List ℕ) → owner name ≡ Some key
    → (j : ℕ) × (c ≤ j) × (j ≤ length cs) × (held name ≡ made_at f cs key j name)

-- the index of a prefix that reaches the cursor, and all that this prefix makes is held
pub record IsLinkedAt (f : Fold) (cs : Catalog) (c j : ℕ) (key : List ℕ) (held : Look (List ℕ)) : Type 0 where
  pub past : c ≤ j
  pub within : j ≤ length cs
  pub index : held (id_index_name key) ≡ made_at f cs key j (id_index_name key)
  pub all : (name : List ℕ) → IsSome (made_at f cs key j name) → IsSome (held name)

-- where the id's index is held, it is that of such a prefix
abbrev pub Linked : Fold → Catalog → ℕ → List ℕ → Look (List ℕ) → Type 0
Linked f cs c key held = owner (id_index_name key) ≡ Some key → IsSome (held (id_index_name key)) → (j : ℕ) × IsLinkedAt f cs c j key held

-- what holds of an id of a hive at every moment
pub record IsSoundId (f : Fold) (cs : Catalog) (c : ℕ) (key : List ℕ) (stored : Option StateDoc) (held : Look (List ℕ)) : Type 0 where
  pub state : HasState f cs c key stored held
  pub fresh : Fresh f cs c key held
  pub linked : Linked f cs c key held

-- a hive is sound: the cursor is that of a prefix, and so is each id
pub record IsSoundHive (f : Fold) (cs : Catalog) (c : ℕ) (states : Look StateDoc) (held : Look (List ℕ)) : Type 0 where
  pub cursor : c ≤ length cs
  pub ids : (key : List ℕ) → IsSoundId f cs c key (states key) held

-- a stored state stands at most at commit k
abbrev pub IsAtMost : ℕ → Option StateDoc → Type 0
IsAtMost k None = ⊤
IsAtMost k (Some s) = s.at ≤ k
