-- How far bytes were looked at, whatever bytes follow them.
use Rattle.std.specs.Prelude.{◌≡◌, ◌≤◌, ℕ, ◌+◌, ◌-◌, List, ◌++◌, length, drop, Some, None}
use Rattle.http_wire.specs.Lines.{blank, shift, head_len, head_span}
use Rattle.http_wire.specs.declared.scan.Look.{Look}
use Rattle.http_wire.specs.declared.scan.Look.TheVariants.{End, On}

-- no head that begins at `from` ends at a line before `at`
pub record Passed (bytes : List ℕ) (from at : ℕ) : Type 0 where
  pub low : from ≤ at
  pub high : at ≤ length bytes
  pub on : (more : List ℕ) → head_len (drop from bytes ++ more) ≡ shift (at - from) (head_len (drop at bytes ++ more))

-- the empty lines up to `skipped` and the lines up to `looked` need no second look
pub record IsScanned (bytes : List ℕ) (skipped looked : ℕ) : Type 0 where
  pub lines : (more : List ℕ) → blank (bytes ++ more) ≡ skipped + blank (drop skipped bytes ++ more)
  pub passed : Passed bytes skipped looked

-- the head's place, whatever bytes follow
pub record IsSpan (bytes : List ℕ) (span : ℕ × ℕ) : Type 0 where
  pub low : span.0 ≤ span.1
  pub high : span.1 ≤ length bytes
  pub stands : (more : List ℕ) → head_span (bytes ++ more) ≡ Some span

pub record HeadEnds (bytes : List ℕ) (from end : ℕ) : Type 0 where
  pub low : from ≤ end
  pub high : end ≤ length bytes
  pub here : head_len (drop from bytes) ≡ Some (end - from)

abbrev pub Looks : List ℕ → ℕ → Look → Type 0
Looks bytes from (End end) = HeadEnds bytes from end
Looks bytes from (On at) = Passed bytes from at × (head_len (drop at bytes) ≡ None)
