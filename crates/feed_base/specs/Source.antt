-- What a source has left.
use Rattle.std.specs.Prelude.{◌≡◌, ◌<◌, ◌≤◌, ℕ, List, length, take, drop, Option, Some, Result, IfSome, option_map}
use Rattle.std.specs.declared.result.Result.TheVariants.{Ok, Err}

-- the first n bytes of the buffer are the next ones, and there is one where one was left
pub record Gives (buffer : List ℕ) (n : ℕ) (bytes : List ℕ) : Type 0 where
  pub within : n ≤ length bytes
  pub next : take n buffer ≡ take n bytes
  pub goes : 0 < length bytes → 0 < n

-- a read takes the first of what was left, as many as it gives, and nothing where it fails
abbrev pub Reads : {E : Type 0} → Option (List ℕ) → Option (List ℕ) → List ℕ → Result ℕ E → Type 0
Reads old new buffer (Ok n) = (new ≡ option_map (drop n) old) × IfSome old (Gives buffer n)
Reads old new buffer (Err e) = new ≡ old

-- some of what was left is taken, from its first byte on, and no more than this
abbrev pub TakesUpTo : ℕ → Option (List ℕ) → Option (List ℕ) → Type 0
TakesUpTo limit old new = IfSome old (λ bytes. (k : ℕ) × (k ≤ limit) × (k ≤ length bytes) × (new ≡ Some (drop k bytes)))
