-- What calls that read a catalog answer.
use Rattle.std.specs.Prelude.{◌≡◌, List, ℕ, Result, None, ⊤}
use Rattle.std.specs.FinMap.{get}
use Rattle.std.specs.declared.result.Result.TheVariants.{Ok, Err}
use Rattle.blob_store.specs.Area.{Area}
use Rattle.catalog_opening.specs.declared.error.ReadErr.{ReadErr}
use Rattle.catalog_opening.specs.declared.error.ReadErr.TheVariants.{Damaged, Fault, Memory}

-- this was read, unless the store failed or memory ran out
abbrev pub IsRead : {A : Type 0} → A → Result A ReadErr → Type 0
IsRead x (Ok y) = y ≡ x
IsRead x (Err (Damaged name)) = ⊥
IsRead x (Err Fault) = ⊤
IsRead x (Err Memory) = ⊤

-- something that has P was read, unless the store failed or memory ran out
abbrev pub IsReadWith : {A : Type 0} → (A → Type 0) → Result A ReadErr → Type 0
IsReadWith P (Ok y) = P y
IsReadWith P (Err (Damaged name)) = ⊥
IsReadWith P (Err Fault) = ⊤
IsReadWith P (Err Memory) = ⊤

-- a blob of this name isn't held
abbrev pub IsAbsent : List ℕ → Area → List ℕ → Type 0
IsAbsent name m damaged = (damaged ≡ name) × (get m name ≡ None)
