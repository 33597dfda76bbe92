-- Counts in 64 bits, which never fall.
use Rattle.std.specs.Prelude.{◌≡◌, ◌≤◌, ◌+◌, min, ℕ}

-- where a count stays once it is there
abbrev pub most : ℕ
most = 18446744073709551615

-- one more, where there is one
abbrev pub raised : ℕ → ℕ
raised count = min (count + 1) most

-- a count rose, or stands at its greatest number
abbrev pub HasRisen : ℕ → ℕ → Type 0
HasRisen before now = raised before ≤ now

-- A count of faults over calls of which the last alone may have failed: it never falls, is one more where
-- one failed, and is as it was where none did.
pub record CountsFault (before now : ℕ) (failed : Type 0) : Type 0 where
  pub later : before ≤ now
  pub risen : failed → now ≡ raised before
  pub kept : (failed → ⊥) → now ≡ before
