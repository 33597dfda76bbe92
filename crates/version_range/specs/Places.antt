-- Which byte of a text: places are counted from 0.
use Rattle.std.specs.Prelude.{◌≡◌, ◌<◌, ◌+◌, ℕ, List, Bool, IsTrue, Some, None, length, drop, slice_index}
use Rattle.std.specs.List.{position_from}

-- the byte at this place passes the test
abbrev pub PassesAt : (ℕ → Bool) → List ℕ → ℕ → Type 0
PassesAt test text at = (at < length text) × IsTrue (test (slice_index text at))

-- no byte passes
abbrev pub HasNone : (ℕ → Bool) → List ℕ → Type 0
HasNone test text = position_from test 0 text ≡ None

-- the first byte that passes stands at this place
abbrev pub IsFirst : (ℕ → Bool) → List ℕ → ℕ → Type 0
IsFirst test text at = position_from test 0 text ≡ Some at

-- the first byte that passes behind the one place stands at the other
abbrev pub IsNextPlace : (ℕ → Bool) → List ℕ → ℕ → ℕ → Type 0
IsNextPlace test text before at = position_from test (before + 1) (drop (before + 1) text) ≡ Some at

-- the second byte that passes stands at this place
abbrev pub IsSecond : (ℕ → Bool) → List ℕ → ℕ → Type 0
IsSecond test text at = (first : ℕ) × IsFirst test text first × IsNextPlace test text first at

-- the last byte that passes stands at this place
abbrev pub IsLast : (ℕ → Bool) → List ℕ → ℕ → Type 0
IsLast test text at = PassesAt test text at × (position_from test (at + 1) (drop (at + 1) text) ≡ None)
