-- Lawful catalogs whole: what each publish tells of its package, and how many versions an id may have.
use Rattle.std.specs.Prelude.{◌≡◌, ◌<◌, ◌≤◌, ◌^◌, ◌+◌, ℕ, List, [], ◌∷◌, length, flat_map, take, All, Bool, not, ◌&&◌, Option, Some, None, if◌then◌else◌, ⊤}
use Rattle.std.specs.Str.{bytes_eq}
use Rattle.pkg_meta.specs.Catalog.{Catalog}
use Rattle.pkg_meta.specs.declared.commit.Staged.{Staged}
use Rattle.pkg_meta.specs.declared.commit.Stored.{Stored}
use Rattle.pkg_meta.specs.Items.{id_of, is_gone}
use Rattle.pkg_meta.specs.Lawful.{IsLawful, has_like}
use Rattle.pkg_meta.specs.declared.item.Details.{Details}
use Rattle.pkg_meta.specs.declared.item.Item.{Item}
use Rattle.pkg_meta.specs.declared.item.Item.TheVariants as the
use Rattle.catalog_doc.specs.Hash.{hash_text}
use Rattle.catalog_doc.specs.Reading.{HasTexts}

-- a publish's details tell the hash of its package, whose size is a number of 64 bits, and its texts
pub record IsOfPackage (d : Details) (brought : Staged) : Type 0 where
  pub hash : d.hash ≡ hash_text brought.nupkg
  pub size : length brought.nupkg < 2 ^ 64
  pub texts : HasTexts d.meta

-- the item of a publish is of the package that the publish brought
abbrev pub TellsPackage : Item → Option Staged → Type 0
TellsPackage (the.Details d) (Some brought) = IsOfPackage d brought
TellsPackage (the.Details d) None = ⊤
TellsPackage (the.Gone i v) brought = ⊤

-- each of the items, place by place
abbrev pub TellPackages : List Item → List (Option Staged) → Type 0
TellPackages [] staged = ⊤
TellPackages (it ∷ items) [] = ⊤
TellPackages (it ∷ items) (brought ∷ staged) = TellsPackage it brought × TellPackages items staged

-- the items of all commits, in order of number and place
abbrev pub all_items : Catalog → List Item
all_items cs = flat_map (λ (c : Stored). c.commit.items) cs

-- whether an item is of this id, no delete, and the last of its version
abbrev pub is_live : List ℕ → Item → List Item → Bool
is_live id it later = bytes_eq id (id_of it).key && (not (is_gone it) && not (has_like it later))

-- how many live versions an id has after these items
abbrev pub live_count : List ℕ → List Item → ℕ
live_count id [] = 0
live_count id (it ∷ items) = (if is_live id it items then 1 else 0) + live_count id items

-- how many live versions an id may have
abbrev pub id_room : ℕ
id_room = 2_048

-- A catalog: lawful, each publish tells of its package, and after each commit each id has at most 2,048 live versions.
pub record IsCatalog (cs : Catalog) : Type 0 where
  pub lawful : IsLawful cs
  pub packages : All (λ (c : Stored). TellPackages c.commit.items c.staged) cs
  pub ids : (k : ℕ) (id : List ℕ) → live_count id (all_items (take k cs)) ≤ id_room
