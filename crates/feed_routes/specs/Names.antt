-- The names of documents, as they stand in paths: those of the catalog, and those of a hive behind its `d/`.
use Rattle.std.specs.Prelude.{◌≡◌, ◌⊎◌, ℕ, List, ◌++◌, codes}
use Rattle.feed_routes.specs.Segments.{IsIdKey, IsNumber, IsVersionKey}

-- `page<k>.json`
abbrev pub IsPageName : List ℕ → Type 0
IsPageName name = (k : List ℕ) × IsNumber k × (name ≡ codes "page" ++ (k ++ codes ".json"))

-- `<number>/<place>`
abbrev pub IsPlace : List ℕ → Type 0
IsPlace text = (number : List ℕ) × (place : List ℕ) × IsNumber number × IsNumber place × (text ≡ number ++ (codes "/" ++ place))

-- `data/<number>/<place>.json`
abbrev pub IsLeafName : List ℕ → Type 0
IsLeafName name = (place : List ℕ) × IsPlace place × (name ≡ codes "data/" ++ (place ++ codes ".json"))

-- the name of a document of the catalog
abbrev pub IsCatalogName : List ℕ → Type 0
IsCatalogName name = (name ≡ codes "index.json") ⊎ (IsPageName name ⊎ IsLeafName name)

-- `<lower>/<upper>`
abbrev pub IsBounds : List ℕ → Type 0
IsBounds text = (lower : List ℕ) × (upper : List ℕ) × IsVersionKey lower × IsVersionKey upper × (text ≡ lower ++ (codes "/" ++ upper))

-- `page/<lower>/<upper>.json`
abbrev pub IsStoredPage : List ℕ → Type 0
IsStoredPage tail = (bounds : List ℕ) × IsBounds bounds × (tail ≡ codes "page/" ++ (bounds ++ codes ".json"))

-- `<version>.json`
abbrev pub IsVersionLeaf : List ℕ → Type 0
IsVersionLeaf tail = (version : List ℕ) × IsVersionKey version × (tail ≡ version ++ codes ".json")

-- what stands behind the id in a name of a registration hive
abbrev pub IsRegistrationTail : List ℕ → Type 0
IsRegistrationTail tail = (tail ≡ codes "index.json") ⊎ (IsStoredPage tail ⊎ IsVersionLeaf tail)

-- `<id>.<version>.nupkg` or `<id>.nuspec`
abbrev pub IsFileOf : List ℕ → List ℕ → List ℕ → Type 0
IsFileOf id version file = (file ≡ id ++ (codes "." ++ (version ++ codes ".nupkg"))) ⊎ (file ≡ id ++ codes ".nuspec")

-- `<version>/<id>.<version>.nupkg` or `<version>/<id>.nuspec`
abbrev pub IsVersionFileOf : List ℕ → List ℕ → Type 0
IsVersionFileOf id tail =
    (version : List ℕ) × (file : List ℕ) × IsVersionKey version × IsFileOf id version file × (tail ≡ version ++ (codes "/" ++ file))

-- what stands behind the id in a name of the content hive
abbrev pub IsContentTailOf : List ℕ → List ℕ → Type 0
IsContentTailOf id tail = (tail ≡ codes "index.json") ⊎ IsVersionFileOf id tail

-- an id, a slash and what stands behind that id in names of this kind
abbrev pub IsOfId : (List ℕ → List ℕ → Type 0) → List ℕ → Type 0
IsOfId IsTail rest = (id : List ℕ) × (tail : List ℕ) × IsIdKey id × IsTail id tail × (rest ≡ id ++ (codes "/" ++ tail))

-- the name of a registration document, without its `d/`
abbrev pub IsRegistrationRest : List ℕ → Type 0
IsRegistrationRest rest = IsOfId (λ id tail. IsRegistrationTail tail) rest

-- the name of a content document, without its `d/`
abbrev pub IsContentRest : List ℕ → Type 0
IsContentRest rest = IsOfId IsContentTailOf rest
