-- What a store may touch in its folder.
use Rattle.std.specs.Prelude.{◌≡◌}
use Rattle.blob_dir.specs.declared.access.Access.TheVariants.{Granted}
use Rattle.blob_dir.specs.declared.files.Folder.{Folder}
use Rattle.blob_dir.specs.declared.paths.BlobPath.{BlobPath}

-- the folder may be touched, and the place is one in this folder
abbrev pub MayTouch : {R : Type 0} → Folder R → BlobPath → Type 0
MayTouch folder place = (folder.access ≡ Granted) × (place.folder.now ≡ folder.path)
