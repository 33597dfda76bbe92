-- The names of blobs in a folder, and the files that they stand for.
use Rattle.std.specs.Prelude.{◌≡◌, ℕ, List, [], ◌++◌, ◌==◌, nat_eq, Bool, false, not, ◌&&◌, codes}
use Rattle.std.specs.List.{list_all, slice_split, ends_with}
use Rattle.std.specs.Str.{bytes_eq}

-- the largest file that is read, and the most bytes that are written, in bytes
abbrev pub blob_limit : ℕ
blob_limit = 268435456

-- a piece of a path that stands for something in the folder that it is looked up in: not empty, not `.`, not `..`
abbrev pub is_plain : List ℕ → Bool
is_plain piece = not (bytes_eq piece []) && (not (bytes_eq piece (codes ".")) && not (bytes_eq piece (codes "..")))

-- a byte that neither ends a path nor parts it on some system: not NUL, not a backslash
abbrev pub is_path_byte : ℕ → Bool
is_path_byte b = not (b == 0) && not (b == 92)

-- a name stays inside the folder: each piece between slashes is plain, and each byte may stand in a path
abbrev pub is_inside : List ℕ → Bool
is_inside name = list_all is_plain (slice_split (λ b. b == 47) name) && list_all is_path_byte name

-- a name under which a blob can stand: it stays inside, and isn't that of a temporary file
abbrev pub is_blob_name : List ℕ → Bool
is_blob_name name = is_inside name && not (ends_with nat_eq name (codes ".tmp"))

-- the path of a blob's file
abbrev pub path_of : List ℕ → List ℕ → List ℕ
path_of folder name = folder ++ (codes "/" ++ name)

-- the path of the temporary file beside it
abbrev pub temporary_of : List ℕ → List ℕ
temporary_of path = path ++ codes ".tmp"

-- the temporary file of a blob has the path of a name under which no blob can stand
abbrev pub TemporariesAreNoBlobs : Type 0
TemporariesAreNoBlobs = (folder name : List ℕ) → (temporary_of (path_of folder name) ≡ path_of folder (name ++ codes ".tmp")) × (is_blob_name (name ++ codes ".tmp") ≡ false)
