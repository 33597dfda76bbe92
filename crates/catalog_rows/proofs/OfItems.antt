-- The rows of a catalog and its items.
use Rattle.std.proofs.Common.{◌≡◌, ◌+◌, ℕ, suc, List, [], ◌∷◌, ◌++◌, map, Bool, true, false, not, ◌&&◌, ◌||◌, Option, Some, None, option_map, refl, sym, ◌∙◌, ap, ap₂}
use Rattle.std.specs.Prelude.{if◌then◌else◌}
use Rattle.std.specs.Option.{is_none, option_or}
use Rattle.std.specs.Str.{bytes_eq}
use Rattle.std.proofs.lemmas.List.{map-append}
use Rattle.nuget_version.specs.Printed.{key_text}
use Rattle.nuget_version.specs.declared.version.Version.{Version}
use Rattle.package_id.specs.declared.id.PackageId.{PackageId}
use Rattle.pkg_meta.specs.Catalog.{Catalog}
use Rattle.pkg_meta.specs.Items.{id_of, version_of, is_gone}
use Rattle.pkg_meta.specs.Lawful.{all_placed, has_like, has_pair, last_of, or_earlier, Placed, placed_from, placed_of}
use Rattle.pkg_meta.specs.declared.item.Item.{Item}
use Rattle.catalog_doc.specs.CatDocs.{all_rows, rows_from, rows_of}
use Rattle.catalog_doc.specs.Catalogs.{all_items, is_live, live_count}
use Rattle.catalog_doc.specs.declared.row.Row.{Row}
use Rattle.catalog_rows.specs.Last.{is_live_row, last_row, live_rows, placed_row}

-- a row says what an item says
pub record Says (row : Row) (it : Item) : Type 0 where
  pub id : row.id ≡ id_of it
  pub version : row.version ≡ version_of it
  pub gone : row.gone ≡ is_gone it

-- rows of these items, one by one
abbrev pub AreOf : List Row → List Item → Type 0
AreOf [] [] = Unit {0}
AreOf [] (it ∷ items) = ⊥
AreOf (row ∷ rows) [] = ⊥
AreOf (row ∷ rows) (it ∷ items) = Says row it × AreOf rows items

pub are_of-append : (rows : List Row) (items : List Item) (later : List Row) (others : List Item) → AreOf rows items → AreOf later others → AreOf (rows ++ later) (items ++ others)
are_of-append [] [] later others are more = more
are_of-append [] (it ∷ items) later others are more = absurd are
are_of-append (row ∷ rows) [] later others are more = absurd are
are_of-append (row ∷ rows) (it ∷ items) later others are more = (are.0, are_of-append rows items later others are.1 more)

pub are_of-from : (number stamp place : ℕ) (items : List Item) → AreOf (rows_from number stamp place items) items
are_of-from number stamp place [] = tt
are_of-from number stamp place (it ∷ items) = (record { id = refl; version = refl; gone = refl }, are_of-from number stamp (suc place) items)

pub are_of-all : (cs : Catalog) → AreOf (all_rows cs) (all_items cs)
are_of-all [] = tt
are_of-all (c ∷ cs) = are_of-append (rows_of c) c.commit.items (all_rows cs) (all_items cs) (are_of-from c.commit.number c.commit.stamp 0 c.commit.items) (are_of-all cs)

one_more : (found : Option Row) (like later : Bool) (row : Row) → is_none found ≡ not later
    → is_none (option_or found (if like then Some row else None)) ≡ not (like || later)
one_more None true later row e = refl
one_more None false later row e = e
one_more (Some x) true later row e = refl
one_more (Some x) false later row e = e

-- no row is of a version where no item is
none_like : (it : Item) (rows : List Row) (items : List Item) → AreOf rows items
    → is_none (last_row (id_of it).key (key_text (version_of it)) rows) ≡ not (has_like it items)
none_like it [] [] are = refl
none_like it [] (other ∷ items) are = absurd are
none_like it (row ∷ rows) [] are = absurd are
none_like it (row ∷ rows) (other ∷ items) are =
    let id = (id_of it).key in
    let version = key_text (version_of it) in
    ap₂ (λ (i : PackageId) (v : Version). is_none (option_or (last_row id version rows) (if bytes_eq id i.key && bytes_eq version (key_text v) then Some row else None)))
    are.0.id are.0.version
    ∙ one_more (last_row id version rows) (has_pair id version other) (has_like it items) row (none_like it rows items are.1)

live_alike : (id : List ℕ) (row : Row) (it : Item) (rows : List Row) (items : List Item) → Says row it → AreOf rows items → is_live_row id row rows ≡ is_live id it items
live_alike id row it rows items says are =
    let none : is_none (last_row row.id.key (key_text row.version) rows) ≡ not (has_like it items) =
    ap₂ (λ (i : PackageId) (v : Version). is_none (last_row i.key (key_text v) rows)) says.id says.version ∙ none_like it rows items are in
    λ i. bytes_eq id (says.id i).key && (not (says.gone i) && none i)

-- an id has as many live versions by rows as by items
pub live_rows-items : (id : List ℕ) (rows : List Row) (items : List Item) → AreOf rows items → live_rows id rows ≡ live_count id items
live_rows-items id [] [] are = refl
live_rows-items id [] (it ∷ items) are = absurd are
live_rows-items id (row ∷ rows) [] are = absurd are
live_rows-items id (row ∷ rows) (it ∷ items) are =
    ap₂ (λ (live : Bool) (n : ℕ). (if live then 1 else 0) + n) (live_alike id row it rows items are.0 are.1) (live_rows-items id rows items are.1)

pub live_rows-all : (id : List ℕ) (cs : Catalog) → live_rows id (all_rows cs) ≡ live_count id (all_items cs)
live_rows-all id cs = live_rows-items id (all_rows cs) (all_items cs) (are_of-all cs)

rows_placed_from : (number stamp place : ℕ) (items : List Item) → rows_from number stamp place items ≡ map placed_row (placed_from number stamp place items)
rows_placed_from number stamp place [] = refl
rows_placed_from number stamp place (it ∷ items) =
    ap (λ (rows : List Row). record { number = number; place = place; stamp = stamp; id = id_of it; version = version_of it; gone = is_gone it } ∷ rows)
    (rows_placed_from number stamp (suc place) items)

-- the rows are those of the items at their places
pub rows_placed : (cs : Catalog) → all_rows cs ≡ map placed_row (all_placed cs)
rows_placed [] = refl
rows_placed (c ∷ cs) =
    let own : rows_of c ≡ map placed_row (placed_of c) = rows_placed_from c.commit.number c.commit.stamp 0 c.commit.items in
    let rest : all_rows cs ≡ map placed_row (all_placed cs) = rows_placed cs in
    (λ i. own i ++ rest i) ∙ sym (map-append placed_row (placed_of c) (all_placed cs))

or_of : (found : Option Placed) (b : Bool) (x : Placed)
    → option_or (option_map placed_row found) (if b then Some (placed_row x) else None) ≡ option_map placed_row (or_earlier found (if b then Some x else None))
or_of (Some y) b x = refl
or_of None true x = refl
or_of None false x = refl

last_row-placed : (id version : List ℕ) (xs : List Placed) → last_row id version (map placed_row xs) ≡ option_map placed_row (last_of id version xs)
last_row-placed id version [] = refl
last_row-placed id version (x ∷ xs) =
    ap (λ (found : Option Row). option_or found (if has_pair id version x.what then Some (placed_row x) else None)) (last_row-placed id version xs)
    ∙ or_of (last_of id version xs) (has_pair id version x.what) x

-- the last row of a version is that of its last item
pub last_row-of : (id version : List ℕ) (cs : Catalog) → last_row id version (all_rows cs) ≡ option_map placed_row (last_of id version (all_placed cs))
last_row-of id version cs = ap (last_row id version) (rows_placed cs) ∙ last_row-placed id version (all_placed cs)
