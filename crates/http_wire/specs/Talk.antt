-- The requests that follow one another in an input.
use Rattle.std.specs.Prelude.{◌≡◌, ◌⊎◌, ℕ, true, false, List, [], ◌∷◌}
use Rattle.http_wire.specs.Ask.{Ask, Whole, Refused, Blank, More}
use Rattle.http_wire.specs.declared.request.Request.{Request}

-- why no request follows
pub data Ending : Type 0 where
  AtEnd : Ending  -- the input ends at a request's start
  AfterLast : Ending  -- the request before was the last of its link
  AtRefusal : (status : ℕ) → Ending  -- what follows is refused

-- no request stands at the front of an input that ends here: what is less than a request is refused
abbrev pub EndsWith : List ℕ → Ending → Type 0
EndsWith input AtEnd = Ask input Blank
EndsWith input AfterLast = ⊥
EndsWith input (AtRefusal status) = Ask input (Refused status) ⊎ ((status ≡ 400) × Ask input More)

-- these requests follow one another from the input's first byte on, each but the last no last one, and then this ends it
abbrev pub Talk : List ℕ → List Request → Ending → Type 0
Talk input [] ending = EndsWith input ending
Talk input (request ∷ requests) ending =
    (behind : List ℕ) × Ask input (Whole request behind)
    × (((request.last ≡ true) × (requests ≡ []) × (ending ≡ AfterLast))
    ⊎ ((request.last ≡ false) × Talk behind requests ending))

-- these requests follow one another from the input's first byte on, none of them the last of its link, and these bytes are behind them
abbrev pub LeadsTo : List ℕ → List Request → List ℕ → Type 0
LeadsTo input [] rest = input ≡ rest
LeadsTo input (request ∷ requests) rest =
    (behind : List ℕ) × Ask input (Whole request behind) × (request.last ≡ false) × LeadsTo behind requests rest
