-- The names of the registration documents below an id's folder, and where they are served.
use Rattle.std.specs.Prelude.{ℕ, List, ◌++◌, codes}
use Rattle.pkg_meta.specs.Entries.{key_in}
use Rattle.pkg_meta.specs.declared.entry.Entry.{Entry}
use Rattle.fold_core.specs.Docs.{name_below}
use Rattle.reg_docs.specs.declared.addresses.RegistrationHive.{RegistrationHive}
use Rattle.reg_docs.specs.declared.addresses.RegistrationHive.TheVariants as the

-- where a hive's documents are served, below the feed's base address
abbrev pub root_of : List ℕ → RegistrationHive → List ℕ
root_of base the.Plain = base ++ codes "v3/registration/"
root_of base the.SemVer2 = base ++ codes "v3/registration-semver2/"

-- the index of the id with this key
abbrev pub registration_index_url : List ℕ → List ℕ → List ℕ
registration_index_url root key = root ++ (key ++ codes "/index.json")

-- the leaf of a version, by the keys of the id and the version
abbrev pub registration_leaf_url : List ℕ → List ℕ → List ℕ → List ℕ
registration_leaf_url root key version = root ++ (key ++ (codes "/" ++ (version ++ codes ".json")))

-- a stored page, by the key of the id and those of its first and its last version
abbrev pub registration_page_url : List ℕ → List ℕ → List ℕ → List ℕ → List ℕ
registration_page_url root key lower upper = root ++ (key ++ (codes "/page/" ++ (lower ++ (codes "/" ++ (upper ++ codes ".json")))))

-- a page that stands in the index
abbrev pub inlined_url : List ℕ → List ℕ → List ℕ → List ℕ → List ℕ
inlined_url root key lower upper = root ++ (key ++ (codes "/index.json#page/" ++ (lower ++ (codes "/" ++ upper))))

-- the package of a version, which the content hive serves
abbrev pub package_url : List ℕ → List ℕ → List ℕ → List ℕ
package_url base key version = base ++ (codes "v3/flat/" ++ (key ++ (codes "/" ++ (version ++ (codes "/" ++ (key ++ (codes "." ++ (version ++ codes ".nupkg"))))))))

-- the name of a version's leaf
abbrev pub registration_leaf_name : List ℕ → List ℕ → List ℕ
registration_leaf_name key version = name_below key (version ++ codes ".json")

-- the name of a stored page
abbrev pub registration_page_name : List ℕ → List ℕ → List ℕ → List ℕ
registration_page_name key lower upper = name_below key (codes "page/" ++ (lower ++ (codes "/" ++ (upper ++ codes ".json"))))
