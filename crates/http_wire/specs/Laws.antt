-- Laws of what stands at the front of bytes, and of talks.
use Rattle.std.specs.Prelude.{◌≡◌, ℕ, true, false, List, [], ◌∷◌, ◌++◌, Option, Some}
use Rattle.std.specs.declared.result.Result.TheVariants.{Ok, Err}
use Rattle.http_wire.specs.Ask.{Ask, Front, Refused, Whole}
use Rattle.http_wire.specs.Reading.{GivesRequest}
use Rattle.http_wire.specs.Talk.{AfterLast, AtEnd, AtRefusal, Ending, LeadsTo, Talk}
use Rattle.http_wire.specs.declared.request.Request.{Request}
use Rattle.http_wire.specs.declared.request.WireErr.TheVariants.{Bad, Closed}

-- one thing stands at the front of bytes
abbrev pub HasOneFront : Type 0
HasOneFront = (bytes : List ℕ) (a b : Front) → Ask bytes a → Ask bytes b → a ≡ b

-- a request stands, whatever bytes follow
abbrev pub RequestStands : Type 0
RequestStands =
    (bytes more behind : List ℕ) (request : Request)
    → Ask bytes (Whole request behind) → Ask (bytes ++ more) (Whole request (behind ++ more))

-- and so does a refusal
abbrev pub RefusalStands : Type 0
RefusalStands =
    (bytes more : List ℕ) (status : ℕ) → Ask bytes (Refused status) → Ask (bytes ++ more) (Refused status)

-- an input is one talk, which ends in one way
abbrev pub IsOneTalk : Type 0
IsOneTalk =
    (input : List ℕ) (a b : List Request) (x y : Ending) → Talk input a x → Talk input b y → (a ≡ b) × (x ≡ y)

-- the request that a reader gives of an input is the first of its talk, and those behind it follow
abbrev pub GoesOn : Type 0
GoesOn =
    (input behind : List ℕ) (request : Request) (requests : List Request) (ending : Ending)
    → GivesRequest (Some input) (Some behind) (Ok request) → request.last ≡ false
    → Talk behind requests ending → Talk input (request ∷ requests) ending

-- none follows the last request of a link
abbrev pub EndsAtLast : Type 0
EndsAtLast =
    (input : List ℕ) (after : Option (List ℕ)) (request : Request)
    → GivesRequest (Some input) after (Ok request) → request.last ≡ true → Talk input (request ∷ []) AfterLast

-- none follows where a reader finds the input's end
abbrev pub EndsAtClosed : Type 0
EndsAtClosed =
    (input : List ℕ) (after : Option (List ℕ)) → GivesRequest (Some input) after (Err Closed) → Talk input [] AtEnd

-- nor where it refuses
abbrev pub EndsAtBad : Type 0
EndsAtBad =
    (input : List ℕ) (after : Option (List ℕ)) (status : ℕ)
    → GivesRequest (Some input) after (Err (Bad status)) → Talk input [] (AtRefusal status)

-- no request leads to the input itself
abbrev pub StartsHere : Type 0
StartsHere = (input : List ℕ) → LeadsTo input [] input

-- the next request that a reader gives leads on, where it isn't the last
abbrev pub LeadsOn : Type 0
LeadsOn =
    (input rest behind : List ℕ) (requests : List Request) (request : Request)
    → LeadsTo input requests rest → GivesRequest (Some rest) (Some behind) (Ok request) → request.last ≡ false
    → LeadsTo input (requests ++ request ∷ []) behind

-- requests that lead to a rest are the first of the input's talk, and those of the rest follow
abbrev pub TalksOn : Type 0
TalksOn =
    (input rest : List ℕ) (requests others : List Request) (ending : Ending)
    → LeadsTo input requests rest → Talk rest others ending → Talk input (requests ++ others) ending
