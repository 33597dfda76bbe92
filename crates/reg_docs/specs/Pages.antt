-- The entries of an id in pages.
use Rattle.std.specs.Prelude.{ℕ, zero, suc, List, [], ◌∷◌, ◌-◌, length, take, drop, nat_lt, Bool, Option, Some, None}
use Rattle.std.specs.List.{slice_get}
use Rattle.nuget_version.specs.declared.version.Version.{Version}
use Rattle.pkg_meta.specs.Entries.{version_in}
use Rattle.pkg_meta.specs.declared.entry.Entry.{Entry}

-- how many entries a page holds, but for the last one
abbrev pub page_len : ℕ
page_len = 64

-- so many runs at the most
abbrev pub cut_within : ℕ → List Entry → List (List Entry)
cut_within zero es = []
cut_within (suc n) [] = []
cut_within (suc n) (e ∷ es) = take page_len (e ∷ es) ∷ cut_within n (drop page_len (e ∷ es))

-- the entries in runs of 64, the last one shorter where need be
unfoldable pub cut : List Entry → List (List Entry)
cut es = cut_within (length es) es

-- with fewer than 128 entries the pages stand in the index
abbrev pub is_inlined : List Entry → Bool
is_inlined es = nat_lt (length es) 128

-- the first entry of a run
abbrev pub first_in : List Entry → Option Entry
first_in es = slice_get es 0

-- the last entry of a run
abbrev pub last_in : List Entry → Option Entry
last_in es = slice_get es (length es - 1)

-- a printed form of an entry's version, nothing where there is no entry
abbrev pub form_of : (Version → List ℕ) → Option Entry → List ℕ
form_of form None = []
form_of form (Some e) = form (version_in e)
