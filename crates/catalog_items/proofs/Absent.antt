-- Blobs that aren't held.
use Rattle.std.proofs.Common.{ℕ, List, Ok, Err, Result}
use Rattle.catalog_opening.specs.Errors.{IfDamagedError, IfDamagedRead}
use Rattle.catalog_opening.specs.declared.error.ReadErr.{ReadErr}
use Rattle.catalog_opening.specs.declared.error.ReadErr.TheVariants.{Damaged, Fault, Memory}

-- the name that an error tells, told by a read
pub read_tells : (A : Type 0) (P Q : List ℕ → Type 0) (error : ReadErr) → ((name : List ℕ) → P name → Q name) → IfDamagedError error P → IfDamagedRead {A = A} (Err error) Q
read_tells A P Q (Damaged name) to here = to name here
read_tells A P Q Fault to here = tt
read_tells A P Q Memory to here = tt

-- the same of a read's result
pub read_weaker : {A : Type 0} (P Q : List ℕ → Type 0) (r : Result A ReadErr) → ((name : List ℕ) → P name → Q name) → IfDamagedRead r P → IfDamagedRead r Q
read_weaker P Q (Ok x) to here = tt
read_weaker P Q (Err (Damaged name)) to here = to name here
read_weaker P Q (Err Fault) to here = tt
read_weaker P Q (Err Memory) to here = tt
