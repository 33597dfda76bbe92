-- The names of blobs in the catalog's area, and the URLs of its documents.
use Rattle.std.specs.Prelude.{ℕ, List, ◌++◌, Bool, codes, decimal, if◌then◌else◌}

-- the index
abbrev pub index_name : List ℕ
index_name = codes "index.json"

-- page k, from 0
abbrev pub page_name : ℕ → List ℕ
page_name k = codes "page" ++ (decimal k ++ codes ".json")

-- what stands at a place of a commit
abbrev pub place_name : ℕ → ℕ → List ℕ
place_name number place = decimal number ++ (codes "/" ++ decimal place)

-- the leaf of the item at a place of a commit
abbrev pub leaf_name : ℕ → ℕ → List ℕ
leaf_name number place = codes "data/" ++ (decimal number ++ (codes "/" ++ (decimal place ++ codes ".json")))

-- the package and the manifest that a publish brought
abbrev pub nupkg_name : ℕ → ℕ → List ℕ
nupkg_name number place = codes "staged/" ++ (decimal number ++ (codes "/" ++ (decimal place ++ codes ".nupkg")))

-- the manifest
abbrev pub nuspec_name : ℕ → ℕ → List ℕ
nuspec_name number place = codes "staged/" ++ (decimal number ++ (codes "/" ++ (decimal place ++ codes ".nuspec")))

-- what a publish brought: its manifest, or its package
abbrev pub staged_name : ℕ → ℕ → Bool → List ℕ
staged_name number place nuspec = if nuspec then nuspec_name number place else nupkg_name number place

-- where a document of the catalog is served, below the feed's base address
abbrev pub catalog_url : List ℕ → List ℕ → List ℕ
catalog_url base name = base ++ (codes "v3/catalog/" ++ name)
