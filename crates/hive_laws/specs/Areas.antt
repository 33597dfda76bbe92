-- A hive's area: the cursor's document, a document for each state, and the documents of ids.
use Rattle.std.specs.Prelude.{◌≡◌, ◌⊎◌, ℕ, zero, suc, List, Option, Some, None, IfSome, IsSome, option_map}
use Rattle.std.specs.FinMap.{get}
use Rattle.blob_store.specs.Area.{Area}
use Rattle.pkg_meta.specs.Catalog.{Catalog}
use Rattle.pkg_meta.specs.declared.state.StateDoc.{StateDoc}
use Rattle.cursor_doc.specs.Cursor.{cursor_name, cursor_text}
use Rattle.hive_state.specs.Reading.{IsStateValue}
use Rattle.hive_state.specs.State.{state_name, state_text}
use Rattle.fold_core.specs.Docs.{owner}
use Rattle.fold_core.specs.Folds.{Fold, Look, Settled}
use Rattle.fold_core.specs.Items.{commits_of, stamp_at}
use Rattle.fold_core.specs.Sound.{IsSoundHive}

-- the document of a cursor that stands at commit c, with that commit's stamp; none at 0
abbrev pub cursor_at : Catalog → ℕ → Option (List ℕ)
cursor_at cs zero = None
cursor_at cs (suc n) = Some (cursor_text (suc n) (stamp_at (commits_of cs) (suc n)))

-- the name of the cursor, of a state, or of a document of an id
abbrev pub IsHiveName : List ℕ → Type 0
IsHiveName name = (name ≡ cursor_name) ⊎ (((key : List ℕ) × (name ≡ state_name key)) ⊎ ((key : List ℕ) × (owner name ≡ Some key)))

-- the area holds this cursor and these states, of the values that the code's types have, and beside them documents of ids alone
pub record IsHiveArea (cs : Catalog) (c : ℕ) (states : Look StateDoc) (m : Area) : Type 0 where
  pub cursor : get m cursor_name ≡ cursor_at cs c
  pub held : (key : List ℕ) → get m (state_name key) ≡ option_map state_text (states key)
  pub values : (key : List ℕ) → IfSome (states key) IsStateValue
  pub known : (name : List ℕ) → IsSome (get m name) → IsHiveName name

-- it does, and the hive is sound
pub record IsSoundArea (f : Fold) (cs : Catalog) (c : ℕ) (states : Look StateDoc) (m : Area) : Type 0 where
  pub area : IsHiveArea cs c states m
  pub sound : IsSoundHive f cs c states (get m)

-- and it is exactly what the first k commits make, where the cursor stands at k
pub record IsSettledArea (f : Fold) (cs : Catalog) (k : ℕ) (states : Look StateDoc) (m : Area) : Type 0 where
  pub area : IsHiveArea cs k states m
  pub sound : IsSoundHive f cs k states (get m)
  pub settled : Settled f cs k states (get m)

-- the area is that of a sound hive whose cursor stands at commit c
abbrev pub SoundArea : Fold → Catalog → ℕ → Area → Type 0
SoundArea f cs c m = (states : Look StateDoc) × IsSoundArea f cs c states m

-- the area is exactly that of the first k commits
abbrev pub SettledArea : Fold → Catalog → ℕ → Area → Type 0
SettledArea f cs k m = (states : Look StateDoc) × IsSettledArea f cs k states m
