-- Events, and the store before and after them.
use Rattle.std.specs.Prelude.{◌≡◌, ◌<◌, ◌≤◌, ◌+◌, min, ℕ, List, length, ◌++◌, Some, option_map}
use Rattle.feed_base.specs.Counts.{most}
use Rattle.blob_store.specs.Seen.{Seen}
use Rattle.blob_store.specs.Area.{Area}
use Rattle.blob_store.specs.Events.{Event, names_asked, after_events, faults_after_all, MayLeave}

-- The events are the calls of the store between old and new, in order: its counts, its area, and what a crash at each moment leaves.
pub record Tracked (events : List Event) (old new : Seen) : Type 0 where
  pub later : old.calls ≤ new.calls
  pub counted : min new.calls most ≡ min (old.calls + length events) most
  pub faults_grow : old.faults ≤ new.faults
  pub faults : new.faults ≡ faults_after_all events old.faults
  pub area : new.held ≡ option_map (after_events events) old.held
  -- also where the area isn't told
  pub names : new.asked ≡ option_map (λ names. names ++ names_asked events) old.asked
  pub moments : (m : Area) → old.held ≡ Some m → new.calls < most → (k : ℕ) (crashed : Area) → k ≤ length events → new.left (old.calls + k) crashed → MayLeave events m k crashed
  -- for events that began earlier
  pub before : new.calls < most → (t : ℕ) (crashed : Area) → t < old.calls → new.left t crashed → old.left t crashed
