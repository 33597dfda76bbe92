-- When a call on a hive's area is allowed, by the id's stored state and what is held.
use Rattle.std.specs.Prelude.{◌≡◌, ◌≢◌, ◌⊎◌, ℕ, List, [], true, false, Contains, Option, Some, None, IsSome}
use Rattle.pkg_meta.specs.Catalog.{Catalog}
use Rattle.pkg_meta.specs.declared.state.StateDoc.{StateDoc}
use Rattle.fold_core.specs.Docs.{id_index_name}
use Rattle.fold_core.specs.Folds.{Fold, HoldsAt, Look, NamesAt, made_at}
use Rattle.fold_core.specs.Sound.{IsScratch}

-- the names of a stored state, none where there is none
abbrev pub names_in : Option StateDoc → List (List ℕ)
names_in None = []
names_in (Some s) = s.names

-- new is old, with this, or nothing, under the name
pub record IsChanged (name : List ℕ) (found : Option (List ℕ)) (old new : Look (List ℕ)) : Type 0 where
  pub here : new name ≡ found
  pub other : (q : List ℕ) → q ≢ name → new q ≡ old q

-- a state that is put as dirty: from scratch at its `at`, with the stored state's names and those of the documents of `at`
pub record IsDirtyPut (f : Fold) (cs : Catalog) (key : List ℕ) (stored : Option StateDoc) (s : StateDoc) : Type 0 where
  pub scratch : IsScratch f cs key s
  pub dirty : s.dirty ≡ true
  pub kept : (name : List ℕ) → Contains (names_in stored) name → Contains s.names name
  pub made : (name : List ℕ) → IsSome (made_at f cs key s.at name) → Contains s.names name
  pub only : (name : List ℕ) → Contains s.names name → Contains (names_in stored) name ⊎ IsSome (made_at f cs key s.at name)

-- a state that is put as clean: from scratch at its `at`, whose documents are exactly those held, with their names
pub record IsCleanPut (f : Fold) (cs : Catalog) (key : List ℕ) (held : Look (List ℕ)) (s : StateDoc) : Type 0 where
  pub scratch : IsScratch f cs key s
  pub clean : s.dirty ≡ false
  pub names : NamesAt f cs key s.at s.names
  pub holds : HoldsAt f cs key s.at held

-- each document that the first k commits make of the id is held
abbrev pub HoldsAll : Fold → Catalog → List ℕ → ℕ → Look (List ℕ) → Type 0
HoldsAll f cs key k held = (name : List ℕ) → IsSome (made_at f cs key k name) → held name ≡ made_at f cs key k name

-- each but the one of this name
abbrev pub HoldsButFor : Fold → Catalog → List ℕ → ℕ → List ℕ → Look (List ℕ) → Type 0
HoldsButFor f cs key k but held = (name : List ℕ) → name ≢ but → IsSome (made_at f cs key k name) → held name ≡ made_at f cs key k name

-- a document that is put, beside the stored state s: that of `at`, the index after all others
pub record IsDocPut (f : Fold) (cs : Catalog) (key : List ℕ) (s : StateDoc) (name bytes : List ℕ) (held : Look (List ℕ)) : Type 0 where
  pub dirty : s.dirty ≡ true
  pub named : Contains s.names name
  pub made : made_at f cs key s.at name ≡ Some bytes
  pub index : name ≡ id_index_name key → HoldsButFor f cs key s.at name held

-- `at` has an index, and all its documents are held; or it has none, and this is the index or none is held
abbrev pub IsIndexDone : Fold → Catalog → List ℕ → ℕ → List ℕ → Look (List ℕ) → Type 0
IsIndexDone f cs key k name held =
    (IsSome (made_at f cs key k (id_index_name key)) × HoldsAll f cs key k held)
    ⊎ ((made_at f cs key k (id_index_name key) ≡ None) × ((name ≡ id_index_name key) ⊎ (held (id_index_name key) ≡ None)))

-- a document that is deleted, beside the stored state s: one that `at` doesn't have, once the index is done
pub record IsDocDelete (f : Fold) (cs : Catalog) (key : List ℕ) (s : StateDoc) (name : List ℕ) (held : Look (List ℕ)) : Type 0 where
  pub dirty : s.dirty ≡ true
  pub named : Contains s.names name
  pub unmade : made_at f cs key s.at name ≡ None
  pub index : IsIndexDone f cs key s.at name held
