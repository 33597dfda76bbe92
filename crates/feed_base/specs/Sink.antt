-- What a sink has taken.
use Rattle.std.specs.Prelude.{◌≡◌, ◌≤◌, ℕ, List, ◌++◌, length, take, Option, Result, option_map}
use Rattle.std.specs.declared.result.Result.TheVariants.{Ok, Err}

-- the whole piece went out, or, where it failed, a prefix of it
abbrev pub Writes : {E : Type 0} → List ℕ → Option (List ℕ) → Option (List ℕ) → Result Unit E → Type 0
Writes piece old new (Ok u) = new ≡ option_map (λ out. out ++ piece) old
Writes piece old new (Err e) = (k : ℕ) × (k ≤ length piece) × (new ≡ option_map (λ out. out ++ take k piece) old)
