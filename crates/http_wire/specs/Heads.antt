-- What is read of a head.
use Rattle.std.specs.Prelude.{◌≡◌, ◌⊎◌, ℕ, List, Ok, Err}
use Rattle.httparse.specs.Grammar.{RequestHead}
use Rattle.http_wire.specs.Ask.{IsHead, IsNoHead, body_len}
use Rattle.http_wire.specs.Fields.{fields_of, is_last}
use Rattle.http_wire.specs.declared.head.Head.{Head}
use Rattle.http_wire.specs.declared.request.WireErr.{WireErr}
use Rattle.http_wire.specs.declared.request.WireErr.TheVariants.{Closed, Bad, ReadFault, Memory}

-- the bytes are the head of which this was read
abbrev pub IsHeadOf : List ℕ → Head → Type 0
IsHeadOf bytes head =
    (h : RequestHead) × IsHead bytes h
    × (h.method ≡ head.method) × (h.target ≡ head.target) × (is_last h.minor (fields_of h) ≡ head.last)
    × (body_len h ≡ Ok head.length)

-- why no head was read of the bytes
abbrev pub RefusesHead : List ℕ → WireErr → Type 0
RefusesHead bytes (Bad status) = ((h : RequestHead) × IsHead bytes h × (body_len h ≡ Err status)) ⊎ (IsNoHead bytes × (status ≡ 400))
RefusesHead bytes Memory = Unit {0}
RefusesHead bytes Closed = ⊥
RefusesHead bytes ReadFault = ⊥
