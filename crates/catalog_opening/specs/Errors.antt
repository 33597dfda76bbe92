-- What an opening tells for what a store or a read told.
use Rattle.std.specs.Prelude.{ℕ, List, Result, ⊤}
use Rattle.std.specs.declared.result.Result.TheVariants.{Ok, Err}
use Rattle.blob_store.specs.declared.error.BlobErr.{BlobErr}
use Rattle.blob_store.specs.declared.error.BlobErr.TheVariants as blob
use Rattle.catalog_opening.specs.declared.error.OpenErr.{OpenErr}
use Rattle.catalog_opening.specs.declared.error.OpenErr.TheVariants as opening
use Rattle.catalog_opening.specs.declared.error.ReadErr.{ReadErr}
use Rattle.catalog_opening.specs.declared.error.ReadErr.TheVariants.{Damaged, Fault, Memory}

-- of a call of the store
abbrev pub read_err_of : BlobErr → ReadErr
read_err_of blob.Failed = Fault
read_err_of blob.Memory = Memory

-- of a read
abbrev pub open_err_of : ReadErr → OpenErr
open_err_of (Damaged name) = opening.Damaged name
open_err_of Fault = opening.Fault
open_err_of Memory = opening.Memory

-- what holds of the name of a damaged blob, where an error tells one
abbrev pub IfDamagedBy : ReadErr → (List ℕ → Type 0) → Type 0
IfDamagedBy (Damaged name) P = P name
IfDamagedBy Fault P = ⊤
IfDamagedBy Memory P = ⊤

-- the same of an error that tells no fault
abbrev pub IfDamagedError : ReadErr → (List ℕ → Type 0) → Type 0
IfDamagedError (Damaged name) P = P name
IfDamagedError Fault P = ⊥
IfDamagedError Memory P = ⊤

-- the same of a read
abbrev pub IfDamagedRead : {A : Type 0} → Result A ReadErr → (List ℕ → Type 0) → Type 0
IfDamagedRead (Ok a) P = ⊤
IfDamagedRead (Err error) P = IfDamagedBy error P

-- the same of an opening's error
abbrev pub IfDamagedIn : OpenErr → (List ℕ → Type 0) → Type 0
IfDamagedIn opening.Fault P = ⊤
IfDamagedIn opening.Missing P = ⊤
IfDamagedIn (opening.Damaged name) P = P name
IfDamagedIn (opening.BaseDiffers stored given) P = ⊤
IfDamagedIn opening.Memory P = ⊤

-- at its result
abbrev pub IfDamagedOpening : {A : Type 0} → Result A OpenErr → (List ℕ → Type 0) → Type 0
IfDamagedOpening (Ok a) P = ⊤
IfDamagedOpening (Err error) P = IfDamagedIn error P
