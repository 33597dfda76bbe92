-- The items of a catalog in their order, and the lawful catalogs.
use Rattle.std.specs.Prelude.{◌≡◌, ◌<◌, ◌≤◌, ℕ, suc, ◌+◌, List, [], ◌∷◌, ◌++◌, length, flat_map, Bool, true, false, not, ◌&&◌, ◌||◌, Option, Some, None, if◌then◌else◌}
use Rattle.std.specs.Str.{bytes_eq}
use Rattle.nuget_version.specs.Printed.{key_text}
use Rattle.pkg_meta.specs.Catalog.{Catalog, Staged, Stored}
use Rattle.pkg_meta.specs.Items.{id_of, version_of, is_gone, published}
use Rattle.pkg_meta.specs.declared.item.Details.{Details}
use Rattle.pkg_meta.specs.declared.item.Item.{Item}
use Rattle.pkg_meta.specs.declared.item.Item.TheVariants as the

-- an item with its commit's number and stamp, and its place there
pub record Placed : Type 0 where
  pub number : ℕ
  pub place : ℕ
  pub stamp : ℕ
  pub what : Item

-- items that stand at these places on
abbrev pub placed_from : ℕ → ℕ → ℕ → List Item → List Placed
placed_from number stamp place [] = []
placed_from number stamp place (it ∷ items) = record { number = number; place = place; stamp = stamp; what = it } ∷ placed_from number stamp (suc place) items

-- the items of a commit, each with its place
abbrev pub placed_of : Stored → List Placed
placed_of c = placed_from c.commit.number c.commit.stamp 0 c.commit.items

-- the items of all its commits, in order of number and place
abbrev pub all_placed : Catalog → List Placed
all_placed cs = flat_map placed_of cs

-- whether an item speaks of the version of these two keys, the id's and the version's
abbrev pub has_pair : List ℕ → List ℕ → Item → Bool
has_pair id version it = bytes_eq id (id_of it).key && bytes_eq version (key_text (version_of it))

-- this one, or else an earlier one
abbrev pub or_earlier : Option Placed → Option Placed → Option Placed
or_earlier (Some x) earlier = Some x
or_earlier None earlier = earlier

-- the last item of a pair of keys
abbrev pub last_of : List ℕ → List ℕ → List Placed → Option Placed
last_of id version [] = None
last_of id version (x ∷ xs) = or_earlier (last_of id version xs) (if has_pair id version x.what then Some x else None)

-- the last item that speaks of the version of this item
abbrev pub last_like : Item → List Placed → Option Placed
last_like it placed = last_of (id_of it).key (key_text (version_of it)) placed

-- no item, or one that says that the version was deleted
abbrev pub IsFree : Option Placed → Type 0
IsFree None = Unit {0}
IsFree (Some last) = is_gone last.what ≡ true

-- these details with the other listing
abbrev pub relisted : Details → Details
relisted d = record {
  meta = d.meta;
  listed = not d.listed;
  created = d.created;
  origin_number = d.origin_number;
  origin_place = d.origin_place;
  size = d.size;
  hash = d.hash;
}

-- the last item is of these details
abbrev pub IsOfDetails : Option Placed → Details → Type 0
IsOfDetails None d = ⊥
IsOfDetails (Some last) d = last.what ≡ the.Details d

-- the details of a publish at this place, of a version that isn't there
pub record IsPublish (before : List Placed) (number stamp place : ℕ) (d : Details) (brought : Staged) : Type 0 where
  pub itself : d ≡ published d.meta number place stamp (length brought.nupkg) d.hash
  pub free : IsFree (last_like (the.Details d) before)

-- what a version's last item says, with the other listing
abbrev pub IsRelisting : List Placed → Details → Type 0
IsRelisting before d = (old : Details) × (d ≡ relisted old) × IsOfDetails (last_like (the.Details d) before) old

-- the id and the version of a version's last item, which doesn't say that it was deleted
abbrev pub IsDelete : List Placed → Item → Type 0
IsDelete before it = (old : Details) × (id_of it ≡ old.meta.id) × (version_of it ≡ old.meta.version) × IsOfDetails (last_like it before) old

-- an item that may follow these, with what it brought: a publish, a change of listing, or a delete
abbrev pub IsLawfulItem : List Placed → ℕ → ℕ → ℕ → Item → Option Staged → Type 0
IsLawfulItem before number stamp place (the.Details d) (Some brought) = IsPublish before number stamp place d brought
IsLawfulItem before number stamp place (the.Details d) None = IsRelisting before d
IsLawfulItem before number stamp place (the.Gone i v) (Some brought) = ⊥
IsLawfulItem before number stamp place (the.Gone i v) None = IsDelete before (the.Gone i v)

-- the items of a commit that stand at these places on, each with what it brought
abbrev pub AreLawfulItems : List Placed → ℕ → ℕ → ℕ → List Item → List (Option Staged) → Type 0
AreLawfulItems before number stamp place [] [] = Unit {0}
AreLawfulItems before number stamp place [] (s ∷ staged) = ⊥
AreLawfulItems before number stamp place (it ∷ items) [] = ⊥
AreLawfulItems before number stamp place (it ∷ items) (s ∷ staged) =
    IsLawfulItem before number stamp place it s × AreLawfulItems before number stamp (suc place) items staged

-- whether one of the items speaks of the version of this one
abbrev pub has_like : Item → List Item → Bool
has_like it [] = false
has_like it (other ∷ items) = has_pair (id_of it).key (key_text (version_of it)) other || has_like it items

-- no two items speak of one version
abbrev pub HasDistinctPairs : List Item → Type 0
HasDistinctPairs [] = Unit {0}
HasDistinctPairs (it ∷ items) = (has_like it items ≡ false) × HasDistinctPairs items

-- the last commit's stamp, 0 before the first
abbrev pub newest : Catalog → ℕ
newest [] = 0
newest (c ∷ []) = c.commit.stamp
newest (c ∷ next ∷ cs) = newest (next ∷ cs)

-- a commit that may follow a catalog: the next number, a later moment, and one to 64 lawful items of distinct pairs
pub record IsNext (before : Catalog) (c : Stored) : Type 0 where
  pub number : c.commit.number ≡ length before + 1
  pub rises : newest before < c.commit.stamp
  pub moment : c.commit.stamp ≤ 3_155_378_975_999_999_999
  pub some : 0 < length c.commit.items
  pub few : length c.commit.items ≤ 64
  pub distinct : HasDistinctPairs c.commit.items
  pub items : AreLawfulItems (all_placed before) c.commit.number c.commit.stamp 0 c.commit.items c.staged

-- commits that may follow a catalog, one after the other
abbrev pub MayFollow : Catalog → Catalog → Type 0
MayFollow before [] = Unit {0}
MayFollow before (c ∷ cs) = IsNext before c × MayFollow (before ++ c ∷ []) cs

-- a lawful catalog: each commit may follow those before it, and there are at most 200,000 items
pub record IsLawful (cs : Catalog) : Type 0 where
  pub commits : MayFollow [] cs
  pub items : length (all_placed cs) ≤ 200_000
