-- The members that a details leaf has beside those of its details.
use Rattle.std.specs.Prelude.{ℕ, List, [], ◌∷◌, codes}
use Rattle.serde_json.specs.Data.{string, array, item, no_items}
use Rattle.pkg_meta.specs.Members.{Slot, always}

-- address, kind and commit
abbrev pub commit_slots : List ℕ → List ℕ → List ℕ → List Slot
commit_slots url commit stamp =
    always (codes "@id") (string url)
    ∷ always (codes "@type") (array (item (string (codes "PackageDetails")) no_items))
    ∷ always (codes "catalog:commitId") (string commit)
    ∷ always (codes "catalog:commitTimeStamp") (string stamp)
    ∷ []
