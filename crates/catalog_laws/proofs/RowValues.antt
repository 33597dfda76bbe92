-- The rows of a catalog, and the heads of its pages, are of the code's types.
use Rattle.std.proofs.Common.{◌≡◌, ◌<◌, ◌≤◌, ◌+◌, ◌^◌, ℕ, zero, suc, List, [], ◌∷◌, ◌++◌, length, map, All, Bool, true, false, refl, sym, ◌∙◌, ap, subst, arith, append-nil, length-append}
use Rattle.std.specs.Prelude.{if◌then◌else◌, nat_le}
use Rattle.std.proofs.lemmas.Bool.Decides.{nat_tests}
use Rattle.std.proofs.lemmas.Grind.{flat_map-append}
use Rattle.std.proofs.lemmas.List.{length-map}
use Rattle.pkg_meta.specs.Catalog.{Catalog}
use Rattle.pkg_meta.specs.Lawful.{all_placed, IsLawful, MayFollow, placed_of}
use Rattle.pkg_meta.specs.declared.commit.Stored.{Stored}
use Rattle.pkg_meta.specs.declared.item.Item.{Item}
use Rattle.catalog_doc.specs.CatDocs.{add_commit, all_rows, fill, heads_of, page_room, pages_of, rows_from, rows_of}
use Rattle.catalog_doc.specs.Documents.{head_of, last_number, last_stamp}
use Rattle.catalog_doc.specs.Reading.{AreHeadValues, AreRowValues}
use Rattle.catalog_doc.specs.declared.row.Row.{Row}
use Rattle.catalog_doc.proofs.NewDocs.{few_pages}
use Rattle.catalog_doc.proofs.Numbered.{few_commits, length-placed}
use Rattle.catalog_doc.proofs.OnePage.{length-rows_from}
use Rattle.catalog_laws.specs.Values.{HasLengths, IsFilled}

rows_append : (xs ys : List Row) → AreRowValues xs → AreRowValues ys → AreRowValues (xs ++ ys)
rows_append [] ys p q = q
rows_append (x ∷ xs) ys p q = (p.0, rows_append xs ys p.1 q)

values_of_rows : (number stamp place : ℕ) (items : List Item) → number < 2 ^ 32 → stamp ≤ 3_155_378_975_999_999_999 → place + length items ≤ 64
    → AreRowValues (rows_from number stamp place items)
values_of_rows number stamp place [] fits moment few = tt
values_of_rows number stamp place (it ∷ items) fits moment few =
    (record { number = fits; place = omega arith; stamp = moment }, values_of_rows number stamp (suc place) items fits moment (omega arith))

-- a commit's rows are such, and from one to 64
record IsFewRows (c : Stored) : Type 0 where
  pub rows : AreRowValues (rows_of c)
  pub some : 0 < length c.commit.items
  pub few : length c.commit.items ≤ 64

-- each commit's are
abbrev HaveRows : Catalog → Type 0
HaveRows [] = Unit {0}
HaveRows (c ∷ cs) = IsFewRows c × HaveRows cs

commits_have : (before cs : Catalog) → MayFollow before cs → length before + length cs < 2 ^ 32 → HaveRows cs
commits_have before [] follows few = tt
commits_have before (c ∷ cs) follows few =
    let longer = length-append before (c ∷ []) in
    let next = follows.0 in (
      record {
        rows = values_of_rows c.commit.number c.commit.stamp 0 c.commit.items (omega (arith, next.number, few)) next.moment (omega (arith, next.few));
        some = next.some;
        few = next.few;
      },
      commits_have (before ++ c ∷ []) cs follows.1 (omega (arith, few, longer)),
    )

have_rows : (cs : Catalog) → IsLawful cs → HaveRows cs
have_rows cs lawful = let few = few_commits cs lawful in commits_have [] cs lawful.commits (omega (arith, few))

all_have : (cs : Catalog) → HaveRows cs → AreRowValues (all_rows cs)
all_have [] have = tt
all_have (c ∷ cs) have = rows_append (rows_of c) (all_rows cs) have.0.rows (all_have cs have.1)

pub row_values : (cs : Catalog) → IsLawful cs → AreRowValues (all_rows cs)
row_values cs lawful = all_have cs (have_rows cs lawful)

-- a page of such rows, at least one and no more than it has room for
record IsValuePage (page : Catalog) : Type 0 where
  pub rows : AreRowValues (all_rows page)
  pub some : 0 < length (all_rows page)
  pub few : length (all_rows page) ≤ page_room

abbrev AreValuePages : List Catalog → Type 0
AreValuePages [] = Unit {0}
AreValuePages (page ∷ pages) = IsValuePage page × AreValuePages pages

one_commit : (c : Stored) → IsFewRows c → IsValuePage (c ∷ [])
one_commit c have =
    let own = length-rows_from c.commit.number c.commit.stamp 0 c.commit.items in
    let alone : length (rows_of c ++ []) ≡ length (rows_of c) = ap length (append-nil (rows_of c)) in
    record {
      rows = subst AreRowValues (sym (append-nil (rows_of c))) have.rows;
      some = omega (arith, own, alone, have.some);
      few = omega (arith, own, alone, have.few);
    }

-- a commit into the last page, or into one behind it
add_last : (page : Catalog) (c : Stored) (b : Bool) → nat_le (length (all_rows page) + length c.commit.items) page_room ≡ b → IsValuePage page → IsFewRows c
    → AreValuePages (if b then (page ++ c ∷ []) ∷ [] else page ∷ (c ∷ []) ∷ [])
add_last page c true is value have =
    let all : all_rows (page ++ c ∷ []) ≡ all_rows page ++ rows_of c =
    flat_map-append rows_of page (c ∷ []) ∙ ap (λ (l : List Row). all_rows page ++ l) (append-nil (rows_of c)) in
    let counted : length (all_rows (page ++ c ∷ [])) ≡ length (all_rows page) + length (rows_of c) =
    ap length all ∙ length-append (all_rows page) (rows_of c) in
    let own : length (rows_of c) ≡ length c.commit.items = length-rows_from c.commit.number c.commit.stamp 0 c.commit.items in
    let within : length (all_rows page) + length c.commit.items ≤ page_room = grind (arith, nat_tests) in
    let page_value : IsValuePage (page ++ c ∷ []) = record {
      rows = subst AreRowValues (sym all) (rows_append (all_rows page) (rows_of c) value.rows have.rows);
      some = omega (arith, counted, value.some);
      few = omega (arith, counted, own, within);
    } in
    (page_value, tt)
add_last page c false is value have = (value, (one_commit c have, tt))

add_values : (pages : List Catalog) (c : Stored) → AreValuePages pages → IsFewRows c → AreValuePages (add_commit pages c)
add_values [] c values have = (one_commit c have, tt)
add_values (page ∷ []) c values have = add_last page c (nat_le (length (all_rows page) + length c.commit.items) page_room) refl values.0 have
add_values (page ∷ next ∷ pages) c values have = (values.0, add_values (next ∷ pages) c values.1 have)

fill_values : (pages : List Catalog) (cs : Catalog) → AreValuePages pages → HaveRows cs → AreValuePages (fill pages cs)
fill_values pages [] values have = values
fill_values pages (c ∷ cs) values have = fill_values (add_commit pages c) cs (add_values pages c values have.0) have.1

last_fits : (rows : List Row) → AreRowValues rows → (last_number rows < 2 ^ 32) × (last_stamp rows ≤ 3_155_378_975_999_999_999)
last_fits [] values = (omega arith, omega arith)
last_fits (row ∷ []) values = (values.0.number, values.0.stamp)
last_fits (row ∷ next ∷ rows) values = last_fits (next ∷ rows) values.1

heads_values : (pages : List Catalog) → AreValuePages pages → AreHeadValues (map (λ page. head_of (all_rows page)) pages)
heads_values [] values = tt
heads_values (page ∷ pages) values =
    let last = last_fits (all_rows page) values.0.rows in
    (record { number = last.0; stamp = last.1; count = omega (arith, values.0.few) }, heads_values pages values.1)

value_pages : (cs : Catalog) → IsLawful cs → AreValuePages (pages_of cs)
value_pages cs lawful = fill_values [] cs tt (have_rows cs lawful)

pub head_values : (cs : Catalog) → IsLawful cs → AreHeadValues (heads_of cs)
head_values cs lawful = heads_values (pages_of cs) (value_pages cs lawful)

heads_filled : (pages : List Catalog) → AreValuePages pages → All IsFilled (map (λ page. head_of (all_rows page)) pages)
heads_filled [] values k d within = absurd (omega (arith, within))
heads_filled (page ∷ pages) values zero d within = (values.0.some, values.0.few)
heads_filled (page ∷ pages) values (suc k) d within = heads_filled pages values.1 k d (omega (arith, within))

pub filled : (cs : Catalog) → IsLawful cs → All IsFilled (heads_of cs)
filled cs lawful = heads_filled (pages_of cs) (value_pages cs lawful)

-- there are as many rows as items
length-all_rows : (cs : Catalog) → length (all_rows cs) ≡ length (all_placed cs)
length-all_rows [] = refl
length-all_rows (c ∷ cs) =
    let rows = length-append (rows_of c) (all_rows cs) in
    let placed = length-append (placed_of c) (all_placed cs) in
    let own = length-rows_from c.commit.number c.commit.stamp 0 c.commit.items in
    let items = length-placed c.commit.number c.commit.stamp 0 c.commit.items in
    let rest = length-all_rows cs in
    omega (arith, rows, placed, own, items, rest)

pub lengths : (cs : Catalog) → IsLawful cs → HasLengths cs
lengths cs lawful =
    let few = few_commits cs lawful in
    let rows = length-all_rows cs in
    let pages = (few_pages [] cs).0 in
    let heads : length (heads_of cs) ≡ length (pages_of cs) = length-map (pages_of cs) (λ (page : Catalog). head_of (all_rows page)) in
    record { commits = few; rows = omega (arith, rows, lawful.items); pages = omega (arith, few, pages, heads) }
