-- The stored state of an id.
use Rattle.std.specs.Prelude.{◌≡◌, ◌&&◌, ℕ, List, nat_le, Bool, true, false, Option, Some, None}
use Rattle.std.specs.List.{list_all}
use Rattle.std.specs.Option.{option_map_or}
use Rattle.std.specs.Str.{bytes_eq}
use Rattle.pkg_meta.specs.declared.state.StateDoc.{StateDoc}
use Rattle.fold_core.specs.Docs.{owner}
use Rattle.hive_state.specs.Reading.{IsStateValue}
use Rattle.hive_state.specs.State.{state_text}

-- whether the name is that of a document of the id with this key
abbrev pub is_owned : List ℕ → List ℕ → Bool
is_owned key name = option_map_or (bytes_eq key) (owner name) false

-- whether an id may have this state at the target: it doesn't stand beyond that, and its names are the id's
abbrev pub fits_id : List ℕ → ℕ → StateDoc → Bool
fits_id key target s = nat_le s.at target && list_all (is_owned key) s.names

-- what is found is this state, and of no other that the code's types have; or nothing where there is none
abbrev pub IsStoredState : (key : List ℕ) (target : ℕ) → Option (List ℕ) → Option StateDoc → Type 0
IsStoredState key target found None = found ≡ None
IsStoredState key target found (Some s) = (found ≡ Some (state_text s))
    × ((other : StateDoc) → IsStateValue other → found ≡ Some (state_text other) → other ≡ s) × (fits_id key target s ≡ true)

-- what is found is no state that the id may have
abbrev pub IsNoState : (key : List ℕ) (target : ℕ) → Option (List ℕ) → Type 0
IsNoState key target None = ⊥
IsNoState key target (Some bytes) = (s : StateDoc) → IsStateValue s → fits_id key target s ≡ true → bytes ≡ state_text s → ⊥

-- these bytes are of this state, or of none that the id may have
abbrev pub IsReadAsState : (key : List ℕ) (target : ℕ) → List ℕ → Option StateDoc → Type 0
IsReadAsState key target bytes None = IsNoState key target (Some bytes)
IsReadAsState key target bytes (Some s) = IsStoredState key target (Some bytes) (Some s)

-- the last commit that a state has taken up, 0 where there is none
abbrev pub at_in : Option StateDoc → ℕ
at_in None = 0
at_in (Some s) = s.at
