-- The counts of a store in a folder.
use Rattle.std.specs.Prelude.{◌≡◌, ◌+◌, min, ℕ, List, Result}
use Rattle.std.specs.declared.result.Result.TheVariants.{Ok, Err}
use Rattle.feed_base.specs.Counts.{most}
use Rattle.blob_store.specs.Area.{Area}
use Rattle.blob_store.specs.Moments.{Elapses}
use Rattle.blob_store.specs.declared.error.BlobErr.{BlobErr}
use Rattle.blob_store.specs.declared.error.BlobErr.TheVariants.{Failed, Memory}
use Rattle.blob_dir.specs.declared.access.Access.{Access}
use Rattle.blob_dir.specs.declared.dir_blobs.DirBlobs.{DirBlobs}

-- no call was made, this is its folder's path, and this is what it may do there
abbrev pub IsNewFolderStore : {R : Type 0} → List ℕ → Access → DirBlobs R → Type 0
IsNewFolderStore path access s = (s.folder.path ≡ path) × (s.folder.access ≡ access) × (s.calls ≡ 0) × (s.faults ≡ 0)

-- one more, while there is a greater number
abbrev pub next : ℕ → ℕ
next count = min (count + 1) most

-- the faults after an answer: one more where it is Failed, else as many
abbrev pub faults_after : {T : Type 0} → Result T BlobErr → ℕ → ℕ
faults_after (Ok answer) faults = faults
faults_after (Err Memory) faults = faults
faults_after (Err Failed) faults = next faults

-- a call more was made, with this answer
abbrev pub HasCalledFolder : {T R : Type 0} → Result T BlobErr → DirBlobs R → DirBlobs R → Type 0
HasCalledFolder answer old new = (new.folder ≡ old.folder) × (new.calls ≡ next old.calls) × (new.faults ≡ faults_after answer old.faults)

-- what a crash may leave of an area of which nothing is told: anything
abbrev pub Anything : Area → Type 0
Anything m = Unit {0}

-- one call more, while nothing is told of the area
abbrev pub ElapsesUntold : ℕ → ℕ → Type 0
ElapsesUntold before now = Elapses before now (λ t. Anything) (λ t. Anything) Anything
