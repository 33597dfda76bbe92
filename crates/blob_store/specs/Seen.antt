-- What is told of a store at a moment.
use Rattle.std.specs.Prelude.{◌≡◌, ◌<◌, ℕ, List, Option, Some}
use Rattle.feed_base.specs.Counts.{most}
use Rattle.blob_store.specs.Area.{Area}

pub record Seen : Type 1 where
  -- the count of calls, which is the moment
  pub calls : ℕ
  -- the count of those that failed
  pub faults : ℕ
  -- the area, where the store tells it
  pub held : Option Area
  -- the names that the calls were on, in order, where the store tells them
  pub asked : Option (List (List ℕ))
  -- what a crash at a moment leaves: after so many calls, or within the next one
  pub left : ℕ → Area → Type 0

-- a crash at this moment leaves what is held, and nothing else
abbrev pub IsSure : Seen → Type 0
IsSure s = (h m : Area) → s.calls < most → s.held ≡ Some h → s.left s.calls m → m ≡ h
