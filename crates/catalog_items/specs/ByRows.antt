-- What a catalog has, by its rows and the number of its pages.
use Rattle.std.specs.Prelude.{◌||◌, ℕ, zero, suc, List, [], ◌∷◌, filter, Bool, false, nat_lt}
use Rattle.std.specs.Str.{bytes_eq}
use Rattle.catalog_doc.specs.Names.{index_name, leaf_name, page_name}
use Rattle.catalog_doc.specs.declared.row.Row.{Row}

-- the rows of the commits above this number
abbrev pub rows_above : ℕ → List Row → List Row
rows_above cursor rows = filter (λ (row : Row). nat_lt cursor row.number) rows

-- one of the rows' leaves has this name
abbrev pub has_leaf : List ℕ → List Row → Bool
has_leaf name [] = false
has_leaf name (row ∷ rows) = bytes_eq name (leaf_name row.number row.place) || has_leaf name rows

-- it is the name of one of so many pages, from k on
abbrev pub has_page : List ℕ → ℕ → ℕ → Bool
has_page name k zero = false
has_page name k (suc n) = bytes_eq name (page_name k) || has_page name (suc k) n

-- a catalog of these rows and of so many pages has a document of this name
abbrev pub has_doc : List ℕ → List Row → ℕ → Bool
has_doc name rows pages = bytes_eq name index_name || (has_page name 0 pages || has_leaf name rows)
