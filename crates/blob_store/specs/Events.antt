-- Store calls as events: each with what became of it.
use Rattle.std.specs.Prelude.{◌≡◌, ◌⊎◌, ℕ, zero, suc, List, [], ◌∷◌, ◌++◌}
use Rattle.feed_base.specs.Counts.{raised}
use Rattle.blob_store.specs.Area.{Area}
use Rattle.blob_store.specs.Runs.{after_call, name_of}
use Rattle.blob_store.specs.declared.call.Call.{Call}

-- a call of a store
pub data Act : Type 0 where
  Get : List ℕ → Act
  Change : Call → Act

-- What became of a call. A get that failed may be told by either of the two.
pub data Fate : Type 0 where
  Done : Fate
  FailedOld : Fate
  FailedNew : Fate
  NoMemory : Fate

-- a call that was made, and what became of it
pub record Event : Type 0 where
  pub act : Act
  pub fate : Fate

-- the area with a call's effect
abbrev pub with_effect : Act → Area → Area
with_effect (Get name) m = m
with_effect (Change call) m = after_call call m

-- the area after a call of that fate
abbrev pub after_act : Act → Fate → Area → Area
after_act act Done m = with_effect act m
after_act act FailedOld m = m
after_act act FailedNew m = with_effect act m
after_act act NoMemory m = m

abbrev pub after_event : Event → Area → Area
after_event event m = after_act event.act event.fate m

abbrev pub after_events : List Event → Area → Area
after_events [] m = m
after_events (event ∷ events) m = after_events events (after_event event m)

-- the count of faults after a call of that fate
abbrev pub faults_after_one : Fate → ℕ → ℕ
faults_after_one Done faults = faults
faults_after_one FailedOld faults = raised faults
faults_after_one FailedNew faults = raised faults
faults_after_one NoMemory faults = faults

-- the count of faults after these events
abbrev pub faults_after_all : List Event → ℕ → ℕ
faults_after_all [] faults = faults
faults_after_all (event ∷ events) faults = faults_after_all events (faults_after_one event.fate faults)

-- the name that a call is on
abbrev pub name_asked : Act → List ℕ
name_asked (Get name) = name
name_asked (Change call) = name_of call

-- what a call adds to the names that the store tells
abbrev pub told_name : Act → Fate → List (List ℕ)
told_name act Done = name_asked act ∷ []
told_name act FailedOld = name_asked act ∷ []
told_name act FailedNew = name_asked act ∷ []
told_name act NoMemory = []

-- the names of these events in order, without those that found no memory
abbrev pub names_asked : List Event → List (List ℕ)
names_asked [] = []
names_asked (event ∷ events) = told_name event.act event.fate ++ names_asked events

-- What a crash within a call of that fate leaves, where m was the area before it. Out of memory, it is m.
abbrev pub MayLeaveWithin : Act → Fate → Area → Area → Type 0
MayLeaveWithin act Done m left = (left ≡ m) ⊎ (left ≡ with_effect act m)
MayLeaveWithin act FailedOld m left = (left ≡ m) ⊎ (left ≡ with_effect act m)
MayLeaveWithin act FailedNew m left = (left ≡ m) ⊎ (left ≡ with_effect act m)
MayLeaveWithin act NoMemory m left = left ≡ m

-- what a crash leaves k calls after the start of these events, where m was the area at the start
abbrev pub MayLeave : List Event → Area → ℕ → Area → Type 0
MayLeave [] m k left = left ≡ m
MayLeave (event ∷ events) m zero left = MayLeaveWithin event.act event.fate m left
MayLeave (event ∷ events) m (suc k) left = MayLeave events (after_event event m) k left
