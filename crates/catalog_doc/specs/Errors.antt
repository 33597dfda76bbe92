-- What a commit answers for what a store answered.
use Rattle.blob_store.specs.declared.error.BlobErr.{BlobErr}
use Rattle.blob_store.specs.declared.error.BlobErr.TheVariants.{Failed, Memory}
use Rattle.catalog_doc.specs.declared.error.CommitErr.{CommitErr}
use Rattle.catalog_doc.specs.declared.error.CommitErr.TheVariants as commit

abbrev pub commit_err_of : BlobErr → CommitErr
commit_err_of Failed = commit.Fault
commit_err_of Memory = commit.Memory
