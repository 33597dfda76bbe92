-- What a call of the catalog answers for what a store or a read answered.
use Rattle.blob_store.specs.declared.error.BlobErr.{BlobErr}
use Rattle.blob_store.specs.declared.error.BlobErr.TheVariants as blob
use Rattle.catalog_core.specs.declared.error.InitErr.{InitErr}
use Rattle.catalog_core.specs.declared.error.InitErr.TheVariants as init

-- of `init`
abbrev pub init_err_of : BlobErr → InitErr
init_err_of blob.Failed = init.Fault
init_err_of blob.Memory = init.Memory
