-- Why a job stops, and what it then made of its plan.
use Rattle.std.specs.Prelude.{◌≡◌, ◌⊎◌, ℕ, List, [], ◌∷◌, Result, ⊤}
use Rattle.std.specs.declared.result.Result.TheVariants.{Ok, Err}
use Rattle.blob_store.specs.Events.{Act}
use Rattle.blob_store.specs.Plans.{Makes, MakesSome, StopsAt}
use Rattle.blob_store.specs.Seen.{Seen}
use Rattle.blob_store.specs.declared.error.BlobErr.{BlobErr}
use Rattle.blob_store.specs.declared.error.BlobErr.TheVariants as blob
use Rattle.catalog_opening.specs.declared.error.ReadErr.{ReadErr}
use Rattle.catalog_opening.specs.declared.error.ReadErr.TheVariants as reading
use Rattle.job_round.specs.declared.stop.Stop.{Stop}
use Rattle.job_round.specs.declared.stop.Stop.TheVariants.{CatalogFault, HiveFault, CatalogDamaged, HiveDamaged, Memory}

-- where the catalog gave no answer
abbrev pub catalog_stop_of : ReadErr → Stop
catalog_stop_of (reading.Damaged name) = CatalogDamaged name
catalog_stop_of reading.Fault = CatalogFault
catalog_stop_of reading.Memory = Memory

-- where the hive's store gave no answer
abbrev pub hive_stop_of : BlobErr → Stop
hive_stop_of blob.Failed = HiveFault
hive_stop_of blob.Memory = Memory

-- what holds of the damaged blob's name, by the area that it is of
abbrev pub IfDamaged : (in_catalog in_hive : List ℕ → Type 0) → Stop → Type 0
IfDamaged in_catalog in_hive CatalogFault = ⊤
IfDamaged in_catalog in_hive HiveFault = ⊤
IfDamaged in_catalog in_hive (CatalogDamaged name) = in_catalog name
IfDamaged in_catalog in_hive (HiveDamaged name) = in_hive name
IfDamaged in_catalog in_hive Memory = ⊤

-- what holds where it is a blob of the hive
abbrev pub IfHiveDamaged : Stop → Type 0 → Type 0
IfHiveDamaged CatalogFault P = ⊤
IfHiveDamaged HiveFault P = ⊤
IfHiveDamaged (CatalogDamaged name) P = ⊤
IfHiveDamaged (HiveDamaged name) P = P
IfHiveDamaged Memory P = ⊤

-- a stop that only the hive's store, or want of memory, brings about
abbrev pub IsOfHive : (List ℕ → Type 0) → Stop → Type 0
IsOfHive in_hive CatalogFault = ⊥
IsOfHive in_hive HiveFault = ⊤
IsOfHive in_hive (CatalogDamaged name) = ⊥
IsOfHive in_hive (HiveDamaged name) = in_hive name
IsOfHive in_hive Memory = ⊤

-- one that only the catalog, or want of memory, brings about
abbrev pub IsStopOfCatalog : (List ℕ → Type 0) → Stop → Type 0
IsStopOfCatalog in_catalog CatalogFault = ⊤
IsStopOfCatalog in_catalog HiveFault = ⊥
IsStopOfCatalog in_catalog (CatalogDamaged name) = in_catalog name
IsStopOfCatalog in_catalog (HiveDamaged name) = ⊥
IsStopOfCatalog in_catalog Memory = ⊤

-- What a job that stopped made of a plan: what precedes the call that failed, or some of the plan.
abbrev pub JobHaltsAt : List Act → Stop → Seen → Seen → Type 0
JobHaltsAt plan CatalogFault old new = MakesSome plan old new
JobHaltsAt plan HiveFault old new = StopsAt plan blob.Failed old new
JobHaltsAt plan (CatalogDamaged name) old new = MakesSome plan old new
JobHaltsAt plan (HiveDamaged name) old new = MakesSome plan old new
JobHaltsAt plan Memory old new = StopsAt plan blob.Memory old new ⊎ MakesSome plan old new

-- The plan was made as the result tells.
abbrev pub RunsTo : {A : Type 0} → List Act → Seen → Seen → Result A Stop → Type 0
RunsTo plan old new (Ok a) = Makes plan old new
RunsTo plan old new (Err stop) = JobHaltsAt plan stop old new

-- One call was made, or it failed.
abbrev pub RunsOne : {A : Type 0} → Act → Seen → Seen → Result A Stop → Type 0
RunsOne act old new (Ok a) = Makes (act ∷ []) old new
RunsOne act old new (Err stop) = (error : BlobErr) × (stop ≡ hive_stop_of error) × StopsAt (act ∷ []) error old new

-- a damaged blob of the hive, or no memory for its name
abbrev pub IsDamage : (List ℕ → Type 0) → Stop → Type 0
IsDamage in_hive CatalogFault = ⊥
IsDamage in_hive HiveFault = ⊥
IsDamage in_hive (CatalogDamaged name) = ⊥
IsDamage in_hive (HiveDamaged name) = in_hive name
IsDamage in_hive Memory = ⊤

-- a stop that no call of the hive's store brought about
abbrev pub IsElse : Stop → Type 0
IsElse CatalogFault = ⊤
IsElse HiveFault = ⊥
IsElse (CatalogDamaged name) = ⊤
IsElse (HiveDamaged name) = ⊤
IsElse Memory = ⊤
