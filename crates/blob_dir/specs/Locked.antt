-- What the lock on a folder gives access to.
use Rattle.blob_dir.specs.declared.access.Access.{Access}
use Rattle.blob_dir.specs.declared.access.Access.TheVariants as access
use Rattle.blob_dir.specs.declared.lock.FolderLock.{FolderLock}
use Rattle.blob_dir.specs.declared.lock.Hold.{Hold}
use Rattle.blob_dir.specs.declared.lock.Hold.TheVariants.{Locked, Absent, Denied}

abbrev pub access_of_hold : Hold → Access
access_of_hold (Locked folder) = access.Granted
access_of_hold Absent = access.Absent
access_of_hold Denied = access.Denied

-- granted exactly where the lock is held
abbrev pub access_of : FolderLock → Access
access_of lock = access_of_hold lock.hold
