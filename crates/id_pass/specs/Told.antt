-- The states that are made of what was taken in.
use Rattle.std.specs.Prelude.{◌≡◌, ◌⊎◌, ◌↔◌, ℕ, List, true, false, All, Contains, IsUtf8}
use Rattle.pkg_meta.specs.declared.state.StateDoc.{StateDoc}
use Rattle.id_pass.specs.declared.taking.Taken.{Taken}

-- a state that tells just this
pub record IsStateOf (taken : Taken) (target : ℕ) (s : StateDoc) : Type 0 where
  pub at : s.at ≡ target
  pub touched : s.touched ≡ taken.touched
  pub stamp : s.touched_stamp ≡ taken.touched_stamp
  pub entries : s.entries ≡ taken.entries

-- a dirty one with these names together, and a clean one with the new names
pub record AreStatesOf (taken : Taken) (target : ℕ) (old new : List (List ℕ)) (dirty clean : StateDoc) : Type 0 where
  pub dirty_of : IsStateOf taken target dirty
  pub marked : dirty.dirty ≡ true
  pub all_names : (name : List ℕ) → Contains dirty.names name ↔ (Contains old name ⊎ Contains new name)
  pub clean_of : IsStateOf taken target clean
  pub unmarked : clean.dirty ≡ false
  pub new_names : clean.names ≡ new
  pub texts : All IsUtf8 clean.names
