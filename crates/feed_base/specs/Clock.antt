-- The answers of a clock.
use Rattle.std.specs.Prelude.{◌≡◌, ◌<◌, ◌-◌, min, ℕ, List, [], ◌∷◌, ◌++◌, length, slice_index, Option, Some, None}
use Prim.Native.Nat.{zero, suc}
use Rattle.feed_base.specs.Counts.{most}

-- the last moment, in ticks of 100 nanoseconds since the year 1: the end of the year 9999
abbrev pub last_tick : ℕ
last_tick = 3155378975999999999

-- One answer more, where the clock tells its answers, and they are fewer than a count can say.
abbrev pub Tells : ℕ → Option (List ℕ) → Option (List ℕ) → Type 0
Tells answer None new = new ≡ None
Tells answer (Some told) new = length told < most → new ≡ Some (told ++ answer ∷ [])

-- the i-th answer, from 0, of a clock that goes through a list and stays at its last number
abbrev pub answer_at : List ℕ → ℕ → ℕ
answer_at list i = slice_index list (min i (length list - 1))

-- its first n answers
unfoldable pub answers_of : List ℕ → ℕ → List ℕ
answers_of list zero = []
answers_of list (suc n) = answers_of list n ++ answer_at list n ∷ []
