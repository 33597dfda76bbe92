-- The names of the content documents below an id's folder.
use Rattle.std.specs.Prelude.{ℕ, List, ◌++◌, codes}
use Rattle.fold_core.specs.Docs.{name_below}

-- the package of a version, by the keys of the id and the version
abbrev pub content_package_name : List ℕ → List ℕ → List ℕ
content_package_name key version = name_below key (version ++ (codes "/" ++ (key ++ (codes "." ++ (version ++ codes ".nupkg")))))

-- the manifest of a version
abbrev pub content_manifest_name : List ℕ → List ℕ → List ℕ
content_manifest_name key version = name_below key (version ++ (codes "/" ++ (key ++ codes ".nuspec")))
