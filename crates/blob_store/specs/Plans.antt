-- Plans: lists of calls that are made in order, up to the first that isn't done.
use Rattle.std.specs.Prelude.{◌≡◌, ◌⊎◌, List, [], ◌∷◌, ◌++◌, map, Result}
use Rattle.std.specs.declared.result.Result.TheVariants.{Ok, Err}
use Rattle.blob_store.specs.Seen.{Seen}
use Rattle.blob_store.specs.declared.error.BlobErr.{BlobErr}
use Rattle.blob_store.specs.declared.error.BlobErr.TheVariants.{Failed, Memory}
use Rattle.blob_store.specs.Events.{Act, Event, Fate, Done, FailedOld, FailedNew, NoMemory}
use Rattle.blob_store.specs.Tracked.{Tracked}

abbrev pub done : Act → Event
done act = record { act = act; fate = Done }

-- all done
abbrev pub all_done : List Act → List Event
all_done plan = map done plan

-- how a call of that fate is told
abbrev pub IsToldAs : Fate → BlobErr → Type 0
IsToldAs Done error = ⊥
IsToldAs FailedOld error = error ≡ Failed
IsToldAs FailedNew error = error ≡ Failed
IsToldAs NoMemory error = error ≡ Memory

-- The first calls of the plan were done, the one behind them wasn't, and no further one was made.
pub record EndsEarly (plan : List Act) (error : BlobErr) (events : List Event) : Type 0 where
  pub first : List Act
  pub last : Act
  pub unmade : List Act
  pub fate : Fate
  pub planned : plan ≡ first ++ last ∷ unmade
  pub made : events ≡ all_done first ++ (record { act = last; fate = fate }) ∷ []
  pub told : IsToldAs fate error

-- the whole plan was done, and nothing else
abbrev pub Makes : List Act → Seen → Seen → Type 0
Makes plan old new = Tracked (all_done plan) old new

-- the plan was stopped by a call that gave this error, and nothing else was done
abbrev pub StopsAt : List Act → BlobErr → Seen → Seen → Type 0
StopsAt plan error old new = (events : List Event) × EndsEarly plan error events × Tracked events old new

-- memory ran out between two calls: the first calls of the plan were done, and nothing else
abbrev pub MakesSome : List Act → Seen → Seen → Type 0
MakesSome plan old new = (first : List Act) × (unmade : List Act) × (plan ≡ first ++ unmade) × Makes first old new

-- The plan was made as this result tells.
abbrev pub Runs : {A : Type 0} → List Act → Seen → Seen → Result A BlobErr → Type 0
Runs plan old new (Ok a) = Makes plan old new
Runs plan old new (Err error) = StopsAt plan error old new

-- The same, where memory may also run out between two calls.
abbrev pub RunsInMemory : {A : Type 0} → List Act → Seen → Seen → Result A BlobErr → Type 0
RunsInMemory plan old new (Ok a) = Makes plan old new
RunsInMemory plan old new (Err Failed) = StopsAt plan Failed old new
RunsInMemory plan old new (Err Memory) = StopsAt plan Memory old new ⊎ MakesSome plan old new
