-- Laws of the requests that are answered.
use Rattle.std.specs.Prelude.{◌≡◌, ℕ, List, ◌∷◌, ◌++◌, Some}
use Rattle.http_wire.specs.Talk.{Ending, LeadsTo, Talk}
use Rattle.http_wire.specs.declared.request.Request.{Request}
use Rattle.feed_host.specs.Serving.{IsNextRequest}

-- requests that lead to a rest are the first ones of the input's talk, and the others are those of the rest
abbrev pub IsFirstOfTalk : Type 0
IsFirstOfTalk =
    (input rest : List ℕ) (requests all : List Request) (ending : Ending)
    → LeadsTo input requests rest → Talk input all ending → (others : List Request) × (all ≡ requests ++ others) × Talk rest others ending

-- and so is the request that stands at the front of that rest
abbrev pub IsNextOfTalk : Type 0
IsNextOfTalk =
    (input : List ℕ) (requests all : List Request) (next : Request) (ending : Ending)
    → IsNextRequest (Some input) requests next → Talk input all ending → (others : List Request) × (all ≡ requests ++ next ∷ others)
