-- Plans of a loop: one for each step, over the area that stands when the step begins.
use Rattle.std.specs.Prelude.{◌≡◌, ◌⊎◌, ℕ, List, [], ◌∷◌, ◌++◌, flat_map, Result}
use Rattle.std.specs.declared.result.Result.TheVariants.{Ok, Err}
use Rattle.blob_store.specs.Seen.{Seen}
use Rattle.blob_store.specs.Area.{Area}
use Rattle.blob_store.specs.declared.error.BlobErr.{BlobErr}
use Rattle.blob_store.specs.declared.error.BlobErr.TheVariants.{Failed, Memory}
use Rattle.blob_store.specs.Events.{Act, Get, Change, after_events}
use Rattle.blob_store.specs.Plans.{all_done, Makes, StopsAt, MakesSome}

-- the area after a whole plan
abbrev pub after_plan : List Act → Area → Area
after_plan plan m = after_events (all_done plan) m

-- the plans of the items one behind the other, each over the area that stands when its step begins
abbrev pub steps : {X : Type 0} → (X → Area → List Act) → List X → Area → List Act
steps step [] m = []
steps step (x ∷ xs) m = step x m ++ steps step xs (after_plan (step x m) m)

-- the same, each over the area at the start
abbrev pub together : {X : Type 0} → (X → Area → List Act) → List X → Area → List Act
together step xs m = flat_map (λ x. step x m) xs

-- an item has R to each of these
abbrev pub ToEach : {X : Type 0} → (X → X → Type 0) → X → List X → Type 0
ToEach R x [] = Unit {0}
ToEach R x (y ∷ ys) = R x y × ToEach R x ys

-- each item has R to those behind it
abbrev pub InPairs : {X : Type 0} → (X → X → Type 0) → List X → Type 0
InPairs R [] = Unit {0}
InPairs R (x ∷ xs) = ToEach R x xs × InPairs R xs

-- the area after a prefix of a plan
abbrev pub AfterPrefix : List Act → Area → Area → Type 0
AfterPrefix plan m left = (first : List Act) × (rest : List Act) × (plan ≡ first ++ rest) × (left ≡ after_plan first m)

-- the names that a plan gets, in order
abbrev pub reads : List Act → List (List ℕ)
reads [] = []
reads (Get name ∷ plan) = name ∷ reads plan
reads (Change call ∷ plan) = reads plan

-- A plan and a last call behind it were made as this result tells. Own memory may run out before the last call.
abbrev pub RunsThenLast : {A : Type 0} → List Act → Act → Seen → Seen → Result A BlobErr → Type 0
RunsThenLast plan last old new (Ok a) = Makes (plan ++ last ∷ []) old new
RunsThenLast plan last old new (Err Failed) = StopsAt (plan ++ last ∷ []) Failed old new
RunsThenLast plan last old new (Err Memory) = StopsAt (plan ++ last ∷ []) Memory old new ⊎ MakesSome plan old new
