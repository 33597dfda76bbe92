-- The service index: Microsoft Learn, "Service index". Its keys are in byte order.
use Rattle.std.specs.Prelude.{ℕ, List, [], ◌∷◌, ◌++◌, codes, map}
use Rattle.serde_json.specs.Data.{Data, string, array, object, member, no_members}
use Rattle.serde_json.specs.View.{items_of}
use Rattle.serde_json.specs.Written.{compact_text}

-- a resource, by its type and the end of its address
abbrev pub Resource : Type 0
Resource = List ℕ × List ℕ

-- the resources, in their order
abbrev pub resources : List Resource
resources =
    (codes "Catalog/3.0.0", codes "v3/catalog/index.json")
    ∷ (codes "PackageBaseAddress/3.0.0", codes "v3/flat/")
    ∷ (codes "RegistrationsBaseUrl", codes "v3/registration/")
    ∷ (codes "RegistrationsBaseUrl/3.4.0", codes "v3/registration/")
    ∷ (codes "RegistrationsBaseUrl/3.6.0", codes "v3/registration-semver2/")
    ∷ (codes "SearchAutocompleteService", codes "v3/autocomplete")
    ∷ (codes "SearchAutocompleteService/3.0.0-rc", codes "v3/autocomplete")
    ∷ []

-- a resource below this base address
abbrev pub resource_data : List ℕ → Resource → Data
resource_data base r = object (member (codes "@id") (string (base ++ r.1)) (member (codes "@type") (string r.0) no_members))

-- a service index of these resources
abbrev pub service_index_object : List Data → Data
service_index_object rs = object (member (codes "resources") (array (items_of rs)) (member (codes "version") (string (codes "3.0.0")) no_members))

-- the service index of this base address
abbrev pub service_index_data : List ℕ → Data
service_index_data base = service_index_object (map (resource_data base) resources)

-- its text
unfoldable pub service_index_text : List ℕ → List ℕ
service_index_text base = compact_text (service_index_data base)
