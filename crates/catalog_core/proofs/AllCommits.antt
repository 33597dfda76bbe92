-- The commits of a catalog, from its rows and its items.
use Rattle.std.proofs.Common.{◌≡◌, ◌<◌, ◌+◌, ℕ, suc, List, [], ◌∷◌, ◌++◌, length, length-append, append_assoc, append-nil, map, Some, refl, sym, ◌∙◌, ap, subst, arith}
use Rattle.std.specs.Prelude.{Contains, nat_eq, slice_get, ⊤}
use Rattle.std.specs.FinMap.{get}
use Rattle.blob_store.specs.Area.{Area}
use Rattle.pkg_meta.specs.Catalog.{Catalog}
use Rattle.pkg_meta.specs.Lawful.{MayFollow}
use Rattle.pkg_meta.specs.declared.commit.Commit.{Commit}
use Rattle.pkg_meta.specs.declared.commit.Stored.{Stored}
use Rattle.pkg_meta.specs.declared.item.Item.{Item}
use Rattle.catalog_doc.specs.CatDocs.{all_rows, rows_from, rows_of}
use Rattle.catalog_doc.specs.Catalogs.{all_items, IsCatalog}
use Rattle.catalog_doc.specs.Documents.{leaf_text}
use Rattle.catalog_doc.specs.Names.{leaf_name}
use Rattle.catalog_doc.specs.Reading.{IsItemValue}
use Rattle.catalog_doc.specs.Spelled.{HoldsCommit}
use Rattle.catalog_doc.specs.declared.row.Row.{Row}
use Rattle.catalog_laws.proofs.ItemValues.{item_values}
use Rattle.catalog_items.specs.Leaves.{AreItemValues, commit_of_one, commits_with, HoldsLeaves, with_item}
use Rattle.catalog_items.proofs.LeafReads.{if_false, if_true, other_number, same_number}

-- the leaves of rows, one list behind the other
module _ (m : Area) (base : List ℕ) where
  both_held : (xs ys : List Row) (is js : List Item) → HoldsLeaves m base xs is → HoldsLeaves m base ys js → HoldsLeaves m base (xs ++ ys) (is ++ js)
  both_held [] ys [] js first second = second
  both_held [] ys (it ∷ is) js first second = absurd first
  both_held (x ∷ xs) ys [] js first second = absurd first
  both_held (x ∷ xs) ys (it ∷ is) js first second = (first.0, both_held xs ys is js first.1 second)

  items_held : (number stamp place : ℕ) (items : List Item)
      → ((k : ℕ) (it : Item) → slice_get items k ≡ Some it → get m (leaf_name number (place + k)) ≡ Some (leaf_text base number (place + k) stamp it))
      → HoldsLeaves m base (rows_from number stamp place items) items
  items_held number stamp place [] held = tt
  items_held number stamp place (it ∷ items) held = (
    record {
      own = record { id = refl; version = refl; kind = refl };
      leaf = subst (λ (p : ℕ). get m (leaf_name number p) ≡ Some (leaf_text base number p stamp it)) (let same : place + 0 ≡ place = omega arith in same) (held 0 it refl);
    },
    items_held number stamp (suc place) items (λ k x is.
        subst (λ (p : ℕ). get m (leaf_name number p) ≡ Some (leaf_text base number p stamp x)) (let same : place + suc k ≡ suc place + k = omega arith in same) (held (suc k) x is)),
  )

  commit_held : (c : Stored) → HoldsCommit m base c → HoldsLeaves m base (rows_of c) c.commit.items
  commit_held c holds = items_held c.commit.number c.commit.stamp 0 c.commit.items
      (λ k it is. subst (λ (p : ℕ). get m (leaf_name c.commit.number p) ≡ Some (leaf_text base c.commit.number p c.commit.stamp it)) (let same : k ≡ 0 + k = omega arith in same) (holds.leaves k it is))

  pub all_held : (cs : Catalog) → ((c : Stored) → Contains cs c → HoldsCommit m base c) → HoldsLeaves m base (all_rows cs) (all_items cs)
  all_held [] holds = tt
  all_held (c ∷ cs) holds =
      both_held (rows_of c) (all_rows cs) c.commit.items (all_items cs) (commit_held c (holds c (0, omega arith, refl)))
      (all_held cs (λ d there. holds d (suc there.0, omega (arith, there.1), there.2)))

values_append : (xs ys : List Item) → AreItemValues xs → AreItemValues ys → AreItemValues (xs ++ ys)
values_append [] ys first second = second
values_append (x ∷ xs) ys first second = (first.0, values_append xs ys first.1 second)

values_of : (items : List Item) → ((place : ℕ) (it : Item) → slice_get items place ≡ Some it → IsItemValue it) → AreItemValues items
values_of [] each = tt
values_of (it ∷ items) each = (each 0 it refl, values_of items (λ place x is. each (suc place) x is))

values_in : (cs : Catalog) → ((c : Stored) (place : ℕ) (it : Item) → Contains cs c → slice_get c.commit.items place ≡ Some it → IsItemValue it) → AreItemValues (all_items cs)
values_in [] each = tt
values_in (c ∷ cs) each =
    values_append c.commit.items (all_items cs) (values_of c.commit.items (λ place it is. each c place it (0, omega arith, refl) is))
    (values_in cs (λ d place it there is. each d place it (suc there.0, omega (arith, there.1), there.2) is))

pub all_values : (cs : Catalog) → IsCatalog cs → AreItemValues (all_items cs)
all_values cs lawful = values_in cs (item_values cs lawful)

-- the commits have lower numbers
abbrev AreBelow : ℕ → List Commit → Type 0
AreBelow n [] = ⊤
AreBelow n (c ∷ cs) = (c.number < n) × AreBelow n cs

below_more : (n : ℕ) (cs : List Commit) (c : Commit) → AreBelow n cs → c.number ≡ n → AreBelow (n + 1) (cs ++ c ∷ [])
below_more n [] c low is = (omega (arith, is), tt)
below_more n (d ∷ cs) c low is = (omega (arith, low.0), below_more n cs c low.1 is)

in_new : (cs : List Commit) (row : Row) (it : Item) → AreBelow row.number cs → with_item cs row it ≡ cs ++ commit_of_one row it ∷ []
in_new [] row it low = refl
in_new (c ∷ []) row it low =
    if_false (nat_eq c.number row.number) _ (c ∷ commit_of_one row it ∷ []) (other_number c.number row.number (λ same. absurd (omega (arith, same, low.0))))
in_new (c ∷ d ∷ cs) row it low = ap (λ (l : List Commit). c ∷ l) (in_new (d ∷ cs) row it low.1)

abbrev grown : Commit → Item → Commit
grown c it = record { number = c.number; stamp = c.stamp; items = c.items ++ it ∷ [] }

in_last : (cs : List Commit) (c : Commit) (row : Row) (it : Item) → c.number ≡ row.number → with_item (cs ++ c ∷ []) row it ≡ cs ++ grown c it ∷ []
in_last [] c row it same = if_true (nat_eq c.number row.number) _ (c ∷ commit_of_one row it ∷ []) (same_number c.number row.number same)
in_last (d ∷ []) c row it same = ap (λ (l : List Commit). d ∷ l) (in_last [] c row it same)
in_last (d ∷ e ∷ cs) c row it same = ap (λ (l : List Commit). d ∷ l) (in_last (e ∷ cs) c row it same)

-- the rest of a commit's items
rest_of : (cs : List Commit) (number stamp place : ℕ) (done items : List Item) (rows : List Row) (others : List Item)
    → commits_with (cs ++ (record { number = number; stamp = stamp; items = done }) ∷ []) (rows_from number stamp place items ++ rows) (items ++ others)
    ≡ commits_with (cs ++ (record { number = number; stamp = stamp; items = done ++ items }) ∷ []) rows others
rest_of cs number stamp place done [] rows others =
    ap (λ (l : List Item). commits_with (cs ++ (record { number = number; stamp = stamp; items = l }) ∷ []) rows others) (sym (append-nil done))
rest_of cs number stamp place done (it ∷ items) rows others =
    ap (λ (l : List Commit). commits_with l (rows_from number stamp (suc place) items ++ rows) (items ++ others)) (in_last cs _ _ it refl)
    ∙ rest_of cs number stamp (suc place) (done ++ it ∷ []) items rows others
    ∙ ap (λ (l : List Item). commits_with (cs ++ (record { number = number; stamp = stamp; items = l }) ∷ []) rows others) (append_assoc done (it ∷ []) items)

-- a whole commit
one_of : (cs : List Commit) (number stamp : ℕ) (items : List Item) (rows : List Row) (others : List Item) → AreBelow number cs → 0 < length items
    → commits_with cs (rows_from number stamp 0 items ++ rows) (items ++ others) ≡ commits_with (cs ++ (record { number = number; stamp = stamp; items = items }) ∷ []) rows others
one_of cs number stamp [] rows others low some = absurd (omega (arith, some))
one_of cs number stamp (it ∷ items) rows others low some =
    ap (λ (l : List Commit). commits_with l (rows_from number stamp 1 items ++ rows) (items ++ others)) (in_new cs _ it low)
    ∙ rest_of cs number stamp 1 (it ∷ []) items rows others

all_of : (before cs : Catalog) (done : List Commit) → MayFollow before cs → AreBelow (length before + 1) done → commits_with done (all_rows cs) (all_items cs) ≡ done ++ map (λ (c : Stored). c.commit) cs
all_of before [] done follows low = sym (append-nil done)
all_of before (c ∷ cs) done follows low =
    let number : c.commit.number ≡ length before + 1 = follows.0.number in
    let below : AreBelow c.commit.number done = subst (λ (n : ℕ). AreBelow n done) (sym number) low in
    let count : c.commit.number + 1 ≡ length (before ++ c ∷ []) + 1 = ap (λ (n : ℕ). n + 1) (number ∙ sym (length-append before (c ∷ []))) in
    one_of done c.commit.number c.commit.stamp c.commit.items (all_rows cs) (all_items cs) below follows.0.some
    ∙ all_of (before ++ c ∷ []) cs (done ++ c.commit ∷ []) follows.1 (subst (λ (n : ℕ). AreBelow n (done ++ c.commit ∷ [])) count (below_more c.commit.number done c.commit below refl))
    ∙ append_assoc done (c.commit ∷ []) (map (λ (d : Stored). d.commit) cs)

pub all_commits : (cs : Catalog) → IsCatalog cs → commits_with [] (all_rows cs) (all_items cs) ≡ map (λ (c : Stored). c.commit) cs
all_commits cs lawful = all_of [] cs [] lawful.lawful.commits tt
