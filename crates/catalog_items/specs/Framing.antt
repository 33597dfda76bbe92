-- What calls that only get leave of a store.
use Rattle.std.specs.Prelude.{◌≡◌, Some}
use Rattle.feed_base.specs.Counts.{CountsFault}
use Rattle.blob_store.specs.Area.{Area}
use Rattle.blob_store.specs.Moments.{LeavesOnly}
use Rattle.blob_store.specs.Seen.{Seen}

-- Nothing but gets: the area stays, also at a crash, and the count of faults rises exactly where a get failed.
pub record OnlyGets (old new : Seen) (failed : Type 0) : Type 0 where
  pub counts : CountsFault old.faults new.faults failed
  pub area : new.held ≡ old.held
  pub moments : (m : Area) → old.held ≡ Some m → LeavesOnly old new (λ left. left ≡ m)
