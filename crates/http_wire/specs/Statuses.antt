-- The statuses of refusals.
use Rattle.std.specs.Prelude.{◌≡◌, ◌⊎◌, ℕ, List}
use Rattle.http_wire.specs.Ask.{Ask, Refused}
use Rattle.http_wire.specs.declared.request.WireErr.{WireErr}
use Rattle.http_wire.specs.declared.request.WireErr.TheVariants.{Closed, Bad, ReadFault, Memory}

-- a status with which what came is refused
abbrev pub IsRefusalStatus : ℕ → Type 0
IsRefusalStatus status = (status ≡ 400) ⊎ ((status ≡ 413) ⊎ ((status ≡ 415) ⊎ ((status ≡ 431) ⊎ (status ≡ 501))))

-- where it is a refusal, it has such a status
abbrev pub HasRefusalStatus : WireErr → Type 0
HasRefusalStatus Closed = Unit {0}
HasRefusalStatus (Bad status) = IsRefusalStatus status
HasRefusalStatus ReadFault = Unit {0}
HasRefusalStatus Memory = Unit {0}

-- no refusal has another status
abbrev pub RefusalsHaveStatuses : Type 0
RefusalsHaveStatuses = (bytes : List ℕ) (status : ℕ) → Ask bytes (Refused status) → IsRefusalStatus status
