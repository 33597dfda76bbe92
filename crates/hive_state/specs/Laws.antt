-- What holds of all states' names and documents.
use Rattle.std.specs.Prelude.{◌≡◌, ◌≢◌, ℕ, List, None}
use Rattle.pkg_meta.specs.declared.state.StateDoc.{StateDoc}
use Rattle.cursor_doc.specs.Cursor.{cursor_name}
use Rattle.fold_core.specs.Docs.{owner}
use Rattle.hive_state.specs.Reading.{IsStateValue}
use Rattle.hive_state.specs.State.{state_name, state_text}

-- a state's text tells the state
abbrev pub StatesDiffer : Type 0
StatesDiffer = (s other : StateDoc) → IsStateValue s → IsStateValue other → state_text s ≡ state_text other → s ≡ other

-- the name of a state tells the id's key
abbrev pub NamesDiffer : Type 0
NamesDiffer = (key other : List ℕ) → state_name key ≡ state_name other → key ≡ other

-- no document of an id has it
abbrev pub OwnedByNone : Type 0
OwnedByNone = (key : List ℕ) → owner (state_name key) ≡ None

-- nor has the cursor
abbrev pub TellsNoCursor : Type 0
TellsNoCursor = (key : List ℕ) → state_name key ≢ cursor_name
