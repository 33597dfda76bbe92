-- What a reader answers of bytes that come in by and by.
use Rattle.std.specs.Prelude.{◌≡◌, ◌⊎◌, ◌<◌, ◌≤◌, ℕ, ◌+◌, List, [], ◌++◌, length, take, drop, slice_range, Option, Some, Result, IfSome, option_map}
use Rattle.std.specs.declared.result.Result.TheVariants.{Ok, Err}
use Rattle.http_wire.specs.Ask.{Ask, Whole, Refused, Blank, More}
use Rattle.http_wire.specs.declared.request.Request.{Request}
use Rattle.http_wire.specs.declared.request.WireErr.{WireErr}
use Rattle.http_wire.specs.declared.request.WireErr.TheVariants.{Closed, Bad, ReadFault, Memory}
use Rattle.http_wire.specs.declared.wire.WireIn.{WireIn}

-- the bytes that were read and not yet answered
abbrev pub carried : WireIn → List ℕ
carried w = slice_range w.bytes.items w.start w.end

-- All bytes that are not answered yet: those at hand, then those that are left, where the link tells them.
abbrev pub unread : List ℕ → Option (List ℕ) → Option (List ℕ)
unread front left = option_map (λ bytes. front ++ bytes) left

-- the same of a buffer and what its link has left
abbrev pub pending : WireIn → Option (List ℕ) → Option (List ℕ)
pending wire left = unread (carried wire) left

-- what is left is an end of what was left
abbrev pub IsEndOf : Option (List ℕ) → Option (List ℕ) → Type 0
IsEndOf old new = IfSome old (λ bytes. (k : ℕ) × (k ≤ length bytes) × (new ≡ Some (drop k bytes)))

-- n bytes came in behind the first `at`
pub record ComesIn (at n : ℕ) (old new : List ℕ) (before after : Option (List ℕ)) : Type 0 where
  pub within : at + n ≤ length new
  pub front : take at new ≡ take at old
  pub told : unread (take (at + n) new) after ≡ unread (take at old) before
  pub ended : n ≡ 0 → IfSome before (λ left. left ≡ [])

abbrev pub ReadsAt : {E : Type 0} → ℕ → List ℕ → List ℕ → Option (List ℕ) → Option (List ℕ) → Result ℕ E → Type 0
ReadsAt at old new before after (Ok n) = ComesIn at n old new before after
ReadsAt at old new before after (Err e) = (take at new ≡ take at old) × (after ≡ before)

-- n bytes more are at hand
abbrev pub Grows : List ℕ → List ℕ → ℕ → Type 0
Grows old new n = (piece : List ℕ) × (new ≡ old ++ piece) × (length piece ≡ n)

-- The bytes are all that there is: what is less than a request is refused, and nothing but empty lines is none.
abbrev pub Says : List ℕ → WireErr → Type 0
Says bytes Closed = Ask bytes Blank
Says bytes (Bad status) = Ask bytes (Refused status) ⊎ ((status ≡ 400) × Ask bytes More)
Says bytes ReadFault = Unit {0}
Says bytes Memory = Unit {0}

-- the request is the first of the bytes, and those behind it are still to be answered
abbrev pub GivesRequest : Option (List ℕ) → Option (List ℕ) → Result Request WireErr → Type 0
GivesRequest before after (Ok request) = IfSome before (λ bytes. (behind : List ℕ) × (after ≡ Some behind) × Ask bytes (Whole request behind))
GivesRequest before after (Err e) = IfSome before (λ bytes. Says bytes e)

-- why no body of n bytes was read: the bytes are all that there is
abbrev pub IsBodyErr : List ℕ → ℕ → WireErr → Type 0
IsBodyErr bytes n (Bad status) = (status ≡ 400) × (length bytes < n)
IsBodyErr bytes n Memory = Unit {0}
IsBodyErr bytes n ReadFault = Unit {0}
IsBodyErr bytes n Closed = ⊥
