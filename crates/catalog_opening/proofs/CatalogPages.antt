-- What an area that spells a catalog holds of its pages.
use Rattle.std.proofs.Common.{◌≡◌, ◌<◌, ◌≤◌, ◌+◌, ◌^◌, ℕ, zero, suc, List, [], ◌∷◌, ◌++◌, length, map, All, Bool, true, false, inl, inr, Option, None, refl, sym, ◌∙◌, ap, subst, arith, append_assoc, append-nil, length-append}
use Rattle.std.specs.Prelude.{flat_map, if◌then◌else◌, nat_le}
use Rattle.std.specs.FinMap.{get}
use Rattle.std.specs.Option.{option_or}
use Rattle.std.proofs.lemmas.Bool.Decides.{nat_tests}
use Rattle.std.proofs.lemmas.Grind.{flat_map-append}
use Rattle.std.proofs.Math.Seq.{take-append_seam, drop-append_seam}
use Rattle.blob_store.specs.Area.{Area}
use Rattle.pkg_meta.specs.Catalog.{Catalog}
use Rattle.pkg_meta.specs.Lawful.{all_placed, IsNext, placed_of}
use Rattle.pkg_meta.specs.declared.commit.Stored.{Stored}
use Rattle.pkg_meta.specs.declared.item.Item.{Item}
use Rattle.catalog_doc.specs.CatDocs.{add_commit, all_rows, Doc, doc_at, fill, heads_of, leaves_of, look_up, page_docs, page_room, pages_of, rows_from, rows_of}
use Rattle.catalog_doc.specs.Catalogs.{IsCatalog}
use Rattle.catalog_doc.specs.Documents.{head_of, page_text}
use Rattle.catalog_doc.specs.Names.{page_name}
use Rattle.catalog_doc.specs.Reading.{AreHeadValues, AreRowValues, IsHeadValue}
use Rattle.catalog_doc.specs.Spelled.{SpellsCatalog}
use Rattle.catalog_doc.specs.declared.head.PageHead.{PageHead}
use Rattle.catalog_doc.specs.declared.row.Row.{Row}
use Rattle.catalog_doc.proofs.DocNames.{leaf_name-not_page, page_name-injective, page_name-not_index}
use Rattle.catalog_doc.proofs.InRange.{in_range}
use Rattle.catalog_doc.proofs.LookUps.{hit, look_up-append, miss, no_leaf, or_none, past_index}
use Rattle.catalog_doc.proofs.NewDocs.{few_pages}
use Rattle.catalog_doc.proofs.Numbered.{few_commits, last_is_next, length-placed}
use Rattle.catalog_doc.proofs.OnePage.{length-rows_from}
use Rattle.catalog_opening.specs.Pages.{AreOfCommit, FitIndex, HasOneMore, HoldsPages, IsOneCommit, rows_on}

-- the rows of each page of a catalog
abbrev pub page_rows : List Catalog → List (List Row)
page_rows pages = map all_rows pages

pub rows_on-pages : (pages : List Catalog) → rows_on (page_rows pages) ≡ flat_map all_rows pages
rows_on-pages [] = refl
rows_on-pages (page ∷ pages) = ap (λ (rows : List Row). all_rows page ++ rows) (rows_on-pages pages)

one_more : (page : Catalog) (c : Stored) (fits : Bool) → flat_map all_rows (if fits then (page ++ c ∷ []) ∷ [] else page ∷ (c ∷ []) ∷ []) ≡ all_rows page ++ rows_of c
one_more page c true =
    append-nil (all_rows (page ++ c ∷ [])) ∙ flat_map-append rows_of page (c ∷ []) ∙ ap (λ (rows : List Row). all_rows page ++ rows) (append-nil (rows_of c))
one_more page c false =
    ap (λ (rows : List Row). all_rows page ++ rows) (append-nil (rows_of c ++ []) ∙ append-nil (rows_of c))

rows-add_commit : (pages : List Catalog) (c : Stored) → flat_map all_rows (add_commit pages c) ≡ flat_map all_rows pages ++ rows_of c
rows-add_commit [] c = append-nil (rows_of c ++ []) ∙ append-nil (rows_of c)
rows-add_commit (page ∷ []) c =
    one_more page c (nat_le (length (all_rows page) + length c.commit.items) page_room)
    ∙ ap (λ (rows : List Row). rows ++ rows_of c) (sym (append-nil (all_rows page)))
rows-add_commit (page ∷ next ∷ pages) c =
    ap (λ (rows : List Row). all_rows page ++ rows) (rows-add_commit (next ∷ pages) c)
    ∙ sym (append_assoc (all_rows page) (flat_map all_rows (next ∷ pages)) (rows_of c))

rows-fill : (pages : List Catalog) (cs : Catalog) → flat_map all_rows (fill pages cs) ≡ flat_map all_rows pages ++ all_rows cs
rows-fill pages [] = sym (append-nil (flat_map all_rows pages))
rows-fill pages (c ∷ cs) =
    rows-fill (add_commit pages c) cs
    ∙ ap (λ (rows : List Row). rows ++ all_rows cs) (rows-add_commit pages c)
    ∙ append_assoc (flat_map all_rows pages) (rows_of c) (all_rows cs)

-- its pages have its rows
pub its_rows : (cs : Catalog) → flat_map all_rows (pages_of cs) ≡ all_rows cs
its_rows cs = rows-fill [] cs

pub heads-pages : (pages : List Catalog) → map (λ (page : Catalog). head_of (all_rows page)) pages ≡ map head_of (page_rows pages)
heads-pages [] = refl
heads-pages (page ∷ pages) = ap (λ (heads : List PageHead). head_of (all_rows page) ∷ heads) (heads-pages pages)

-- the numbers and moments of a catalog's rows are those of the code's types
values_from : (number stamp place : ℕ) (items : List Item) → number < 2 ^ 32 → stamp ≤ 3_155_378_975_999_999_999 → place + length items ≤ 2 ^ 32 → AreRowValues (rows_from number stamp place items)
values_from number stamp place [] fits moment few = tt
values_from number stamp place (it ∷ items) fits moment few =
    (record { number = fits; place = omega arith; stamp = moment }, values_from number stamp (suc place) items fits moment (omega arith))

both_values : (xs ys : List Row) → AreRowValues xs → AreRowValues ys → AreRowValues (xs ++ ys)
both_values [] ys fx fy = fy
both_values (x ∷ xs) ys fx fy = (fx.0, both_values xs ys fx.1 fy)

parts_values : (xs ys : List Row) → AreRowValues (xs ++ ys) → AreRowValues xs × AreRowValues ys
parts_values [] ys values = (tt, values)
parts_values (x ∷ xs) ys values = let rest = parts_values xs ys values.1 in ((values.0, rest.0), rest.1)

values_all : (cs : Catalog) → length (all_rows cs) ≤ 2 ^ 32 → All (λ (c : Stored). (c.commit.number < 2 ^ 32) × (c.commit.stamp ≤ 3_155_378_975_999_999_999)) cs → AreRowValues (all_rows cs)
values_all [] few commits = tt
values_all (c ∷ cs) few commits =
    let own : (c.commit.number < 2 ^ 32) × (c.commit.stamp ≤ 3_155_378_975_999_999_999) = commits zero c (omega arith) in
    let split : length (rows_of c ++ all_rows cs) ≡ length (rows_of c) + length (all_rows cs) = length-append (rows_of c) (all_rows cs) in
    let items : length (rows_of c) ≡ length c.commit.items = length-rows_from c.commit.number c.commit.stamp 0 c.commit.items in
    both_values (rows_of c) (all_rows cs)
    (values_from c.commit.number c.commit.stamp 0 c.commit.items own.0 own.1 (omega (arith, few, split, items)))
    (values_all cs (omega (arith, few, split)) (λ k d lt. commits (suc k) d (omega arith)))

-- no leaf has a page's name
no_leaf_page : (base : List ℕ) (k : ℕ) (cs : Catalog) → look_up (page_name k) (flat_map (leaves_of base) cs) ≡ None
no_leaf_page base k [] = refl
no_leaf_page base k (c ∷ cs) =
    look_up-append (page_name k) (leaves_of base c) (flat_map (leaves_of base) cs)
    ∙ ap (λ (found : Option (List ℕ)). option_or found (look_up (page_name k) (flat_map (leaves_of base) cs)))
    (no_leaf base (page_name k) c.commit.number c.commit.stamp 0 c.commit.items (λ p e. leaf_name-not_page c.commit.number p k (sym e)))
    ∙ no_leaf_page base k cs

page_at : (base : List ℕ) (cs : Catalog) (k : ℕ) → doc_at base cs (page_name k) ≡ look_up (page_name k) (page_docs base 0 (pages_of cs))
page_at base cs k =
    past_index base (page_name k) cs (page_name-not_index k)
    ∙ ap (option_or (look_up (page_name k) (page_docs base 0 (pages_of cs)))) (no_leaf_page base k cs)
    ∙ or_none (look_up (page_name k) (page_docs base 0 (pages_of cs)))

page_past : (j k : ℕ) → suc k ≤ j → j ≡ k → ⊥
page_past j k past at = omega arith

-- pages that stand in an area from k on
holds_from : (m : Area) (base : List ℕ) (k : ℕ) (pages : List Catalog) → k + length pages < 2 ^ 64
    → AreRowValues (flat_map all_rows pages) → length (flat_map all_rows pages) < 2 ^ 64
    → ((j : ℕ) → k ≤ j → j < 2 ^ 64 → get m (page_name j) ≡ look_up (page_name j) (page_docs base k pages))
    → HoldsPages m base k (page_rows pages) × (get m (page_name (k + length pages)) ≡ None)
holds_from m base k [] fits values few at = (tt, at (k + 0) (omega arith) (omega (arith, fits)))
holds_from m base k (page ∷ pages) fits values few at =
    let split : length (all_rows page ++ flat_map all_rows pages) ≡ length (all_rows page) + length (flat_map all_rows pages) = length-append (all_rows page) (flat_map all_rows pages) in
    let parts = parts_values (all_rows page) (flat_map all_rows pages) values in
    let doc : Doc = record { name = page_name k; bytes = page_text base k (all_rows page) } in
    let rest = holds_from m base (suc k) pages (omega (arith, fits)) parts.1 (omega (arith, few, split)) (λ j past within.
    at j (omega (arith, past)) within ∙ miss (page_name j) doc (page_docs base (suc k) pages) (λ e. page_past j k past (page_name-injective j k within (omega (arith, fits)) e))) in
    let places : suc k + length pages ≡ k + suc (length pages) = omega arith in (
      (record { values = parts.0; few = omega (arith, few, split); text = at k (omega arith) (omega (arith, fits)) ∙ hit doc (page_docs base (suc k) pages) }, rest.0),
      subst (λ (n : ℕ). get m (page_name n) ≡ None) places rest.1,
    )

-- there are as many rows as items
as_many_rows : (cs : Catalog) → length (all_rows cs) ≡ length (all_placed cs)
as_many_rows [] = refl
as_many_rows (c ∷ cs) =
    let rows = length-append (rows_of c) (all_rows cs) in
    let placed = length-append (placed_of c) (all_placed cs) in
    let own = length-rows_from c.commit.number c.commit.stamp 0 c.commit.items in
    let items = length-placed c.commit.number c.commit.stamp 0 c.commit.items in
    let rest = as_many_rows cs in
    omega (arith, rows, placed, own, items, rest)

pub few_rows : (cs : Catalog) → IsCatalog cs → length (all_rows cs) ≤ 200_000
few_rows cs whole = omega (arith, as_many_rows cs, whole.lawful.items)

pub its_values : (cs : Catalog) → IsCatalog cs → AreRowValues (all_rows cs)
its_values cs whole = values_all cs (omega (arith, few_rows cs whole)) (in_range cs whole.lawful).commits

pub few_heads : (cs : Catalog) → IsCatalog cs → length (pages_of cs) ≤ 200_000
few_heads cs whole =
    let pages : length (pages_of cs) ≤ 0 + length cs = (few_pages [] cs).0 in
    omega (arith, pages, few_commits cs whole.lawful)

-- it holds the catalog's pages, and none behind them
pub pages_hold : (m : Area) (base : List ℕ) (cs : Catalog) → IsCatalog cs → SpellsCatalog m base cs
    → HoldsPages m base 0 (page_rows (pages_of cs)) × (get m (page_name (length (pages_of cs))) ≡ None)
pages_hold m base cs whole spells =
    let place : 0 + length (pages_of cs) ≡ length (pages_of cs) = omega arith in
    let all = holds_from m base 0 (pages_of cs) (omega (arith, few_heads cs whole)) (subst AreRowValues (sym (its_rows cs)) (its_values cs whole))
    (subst (λ (rows : List Row). length rows < 2 ^ 64) (sym (its_rows cs)) (omega (arith, few_rows cs whole)))
    (λ j past within. spells.pages j ∙ page_at base cs j) in
    (all.0, subst (λ (n : ℕ). get m (page_name n) ≡ None) place all.1)

last_values : (rows : List Row) → AreRowValues rows → length rows < 2 ^ 32 → IsHeadValue (head_of rows)
last_values [] values few = record { number = omega arith; stamp = omega arith; count = omega arith }
last_values (row ∷ []) values few = record { number = values.0.number; stamp = values.0.stamp; count = few }
last_values (row ∷ next ∷ rows) values few =
    let rest = last_values (next ∷ rows) values.1 (omega (arith, few)) in
    record { number = rest.number; stamp = rest.stamp; count = few }

values_of_heads : (pages : List Catalog) → AreRowValues (flat_map all_rows pages) → length (flat_map all_rows pages) < 2 ^ 32 → AreHeadValues (map head_of (page_rows pages))
values_of_heads [] values few = tt
values_of_heads (page ∷ pages) values few =
    let split : length (all_rows page ++ flat_map all_rows pages) ≡ length (all_rows page) + length (flat_map all_rows pages) = length-append (all_rows page) (flat_map all_rows pages) in
    let parts = parts_values (all_rows page) (flat_map all_rows pages) values in
    (last_values (all_rows page) parts.0 (omega (arith, few, split)), values_of_heads pages parts.1 (omega (arith, few, split)))

-- what its index says is of the code's types
pub head_values : (cs : Catalog) → IsCatalog cs → AreHeadValues (heads_of cs)
head_values cs whole = subst AreHeadValues (sym (heads-pages (pages_of cs)))
    (values_of_heads (pages_of cs) (subst AreRowValues (sym (its_rows cs)) (its_values cs whole))
    (subst (λ (rows : List Row). length rows < 2 ^ 32) (sym (its_rows cs)) (omega (arith, few_rows cs whole))))

-- each index fits its own pages
pub fits_own : (pages : List (List Row)) → FitIndex (map head_of pages) pages
fits_own [] = tt
fits_own (rows ∷ []) = inl (refl, tt)
fits_own (rows ∷ next ∷ pages) = (refl, fits_own (next ∷ pages))

of_commit : (number stamp place : ℕ) (items : List Item) → AreOfCommit number stamp (rows_from number stamp place items)
of_commit number stamp place [] = tt
of_commit number stamp place (it ∷ items) = ((refl, refl), of_commit number stamp (suc place) items)

one_commit_from : (number stamp : ℕ) (items : List Item) → 0 < length items → length items ≤ 64 → IsOneCommit (rows_from number stamp 0 items)
one_commit_from number stamp [] some few = absurd (omega arith)
one_commit_from number stamp (it ∷ items) some few =
    let as_many = length-rows_from number stamp 1 items in
    (omega (arith, as_many, few), ((refl, refl), of_commit number stamp 1 items))

module _ (c : Stored) (one : IsOneCommit (rows_of c)) where
  alone : IsOneCommit (all_rows (c ∷ []))
  alone = subst IsOneCommit (sym (append-nil (rows_of c))) one

  grown : (page : Catalog) → all_rows (page ++ c ∷ []) ≡ all_rows page ++ rows_of c
  grown page = flat_map-append rows_of page (c ∷ []) ∙ ap (λ (rows : List Row). all_rows page ++ rows) (append-nil (rows_of c))

  on_last : (page : Catalog) (fits : Bool) → nat_le (length (all_rows page) + length c.commit.items) page_room ≡ fits
      → FitIndex (head_of (all_rows page) ∷ []) (page_rows (if fits then (page ++ c ∷ []) ∷ [] else page ∷ (c ∷ []) ∷ []))
  on_last page true within =
      let few : length (all_rows page) + length c.commit.items ≤ page_room = grind (arith, nat_tests) in
      let split = length-append (all_rows page) (rows_of c) in
      let own = length-rows_from c.commit.number c.commit.stamp 0 c.commit.items in
      inr (
        subst (HasOneMore (head_of (all_rows page))) (sym (grown page)) (record {
          kept = ap head_of (take-append_seam (all_rows page) (rows_of c));
          more = subst IsOneCommit (sym (drop-append_seam (all_rows page) (rows_of c))) one;
          room = omega (arith, few, split, own);
        }),
        refl,
      )
  on_last page false over = inl (refl, alone)

  -- the index before a commit fits the pages with it
  pub fits_more : (pages : List Catalog) → FitIndex (map head_of (page_rows pages)) (page_rows (add_commit pages c))
  fits_more [] = alone
  fits_more (page ∷ []) = on_last page (nat_le (length (all_rows page) + length c.commit.items) page_room) refl
  fits_more (page ∷ next ∷ pages) = (refl, fits_more (next ∷ pages))

  filled : 0 < length (rows_of c)
  filled = some (rows_of c) one
    where
      some : (rows : List Row) → IsOneCommit rows → 0 < length rows
      some [] none = absurd none
      some (row ∷ rows) is = omega arith

  changed_last : (page : Catalog) (fits : Bool) → map head_of (page_rows (if fits then (page ++ c ∷ []) ∷ [] else page ∷ (c ∷ []) ∷ [])) ≡ head_of (all_rows page) ∷ [] → ⊥
  changed_last page true same =
      let heads : head_of (all_rows (page ++ c ∷ [])) ≡ head_of (all_rows page) = cc in
      let counts : length (all_rows (page ++ c ∷ [])) ≡ length (all_rows page) = ap (λ (head : PageHead). head.count) heads in
      let longer = ap length (grown page) ∙ length-append (all_rows page) (rows_of c) in
      omega (arith, counts, longer, filled)
  changed_last page false same = cc

  -- and isn't the index with it
  pub index_changes : (pages : List Catalog) → map head_of (page_rows (add_commit pages c)) ≡ map head_of (page_rows pages) → ⊥
  index_changes [] same = cc
  index_changes (page ∷ []) same = changed_last page (nat_le (length (all_rows page) + length c.commit.items) page_room) same
  index_changes (page ∷ next ∷ pages) same = index_changes (next ∷ pages) (let rest : map head_of (page_rows (add_commit (next ∷ pages) c)) ≡ map head_of (page_rows (next ∷ pages)) = cc in rest)

-- the last commit of a catalog has rows
pub last_is_commit : (cs : Catalog) (c : Stored) → IsCatalog (cs ++ c ∷ []) → IsOneCommit (rows_of c)
last_is_commit cs c whole =
    let next : IsNext cs c = last_is_next cs c whole.lawful.commits in
    one_commit_from c.commit.number c.commit.stamp c.commit.items next.some next.few
