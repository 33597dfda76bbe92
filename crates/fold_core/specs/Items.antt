-- The items of one id, and the last commit that has one. A commit's number is its place in the list, from 1.
use Rattle.std.specs.Prelude.{ℕ, zero, suc, List, [], ◌∷◌, take, map, flat_map, Bool, if◌then◌else◌, Option, Some, None}
use Rattle.std.specs.List.{filter, list_any, slice_get}
use Rattle.std.specs.Str.{bytes_eq}
use Rattle.pkg_meta.specs.Catalog.{Catalog}
use Rattle.pkg_meta.specs.declared.commit.Stored.{Stored}
use Rattle.pkg_meta.specs.Items.{id_of}
use Rattle.pkg_meta.specs.Lawful.{Placed, or_earlier, placed_from}
use Rattle.pkg_meta.specs.declared.commit.Commit.{Commit}
use Rattle.pkg_meta.specs.declared.item.Item.{Item}

-- the items of a commit, with its number and stamp, and each with its place
abbrev pub items_in : Commit → List Placed
items_in c = placed_from c.number c.stamp 0 c.items

-- whether an item is of the id with this key
abbrev pub is_of : List ℕ → Item → Bool
is_of key it = bytes_eq key (id_of it).key

-- those of an id among the items that stand at these places on
abbrev pub items_in_of : List ℕ → ℕ → ℕ → ℕ → List Item → List Placed
items_in_of key number stamp place items = filter (λ (x : Placed). is_of key x.what) (placed_from number stamp place items)

-- the items of an id, in order of number and place
abbrev pub items_of : List Commit → List ℕ → List Placed
items_of cs key = filter (λ (x : Placed). is_of key x.what) (flat_map items_in cs)

-- whether a commit has an item of the id
abbrev pub has_item : Commit → List ℕ → Bool
has_item c key = list_any (is_of key) c.items

-- the number of the last one, counted from a commit on that has one or not, where later ones give this number
abbrev pub counted : Bool → ℕ → ℕ
counted here zero = if here then 1 else 0
counted here (suc later) = suc (suc later)

-- the number of the last commit that has an item of the id, 0 where none has
abbrev pub touched : List Commit → List ℕ → ℕ
touched [] key = 0
touched (c ∷ cs) key = counted (has_item c key) (touched cs key)

-- the same among the first k commits
abbrev pub touched_at : List Commit → List ℕ → ℕ → ℕ
touched_at cs key k = touched (take k cs) key

-- the stamp of a commit, 0 where there is none
abbrev pub stamp_in : Option Commit → ℕ
stamp_in None = 0
stamp_in (Some c) = c.stamp

-- the stamp of the commit with this number, 0 where there is none
abbrev pub stamp_at : List Commit → ℕ → ℕ
stamp_at cs zero = 0
stamp_at cs (suc n) = stamp_in (slice_get cs n)

-- the stamp of the last commit that has an item of the id, 0 where none has
abbrev pub touched_stamp : List Commit → List ℕ → ℕ
touched_stamp cs key = stamp_at cs (touched cs key)

-- the commits of a catalog
abbrev pub commits_of : Catalog → List Commit
commits_of cs = map (λ (c : Stored). c.commit) cs

-- the last item of these
abbrev pub last_placed : List Placed → Option Placed
last_placed [] = None
last_placed (x ∷ xs) = or_earlier (last_placed xs) (Some x)

-- its number and its stamp, 0 where there is none
abbrev pub number_in : Option Placed → ℕ
number_in None = 0
number_in (Some x) = x.number

-- its stamp, 0 where there is none
abbrev pub moment_in : Option Placed → ℕ
moment_in None = 0
moment_in (Some x) = x.stamp
