-- The leaf of a version's last item is held.
use Rattle.std.proofs.Common.{◌≡◌, ◌+◌, ℕ, suc, List, [], ◌∷◌, ◌++◌, Some, refl, subst, arith}
use Rattle.std.specs.Prelude.{Contains, slice_get, ⊤}
use Rattle.std.specs.FinMap.{get}
use Rattle.blob_store.specs.Area.{Area}
use Rattle.blob_store.specs.Seen.{Seen}
use Rattle.pkg_meta.specs.Catalog.{Catalog}
use Rattle.pkg_meta.specs.Lawful.{all_placed, last_of, Placed, placed_from, placed_of}
use Rattle.pkg_meta.specs.declared.commit.Stored.{Stored}
use Rattle.pkg_meta.specs.declared.item.Item.{Item}
use Rattle.catalog_doc.specs.Documents.{leaf_text}
use Rattle.catalog_doc.specs.Names.{leaf_name}
use Rattle.catalog_doc.specs.Reading.{IsItemValue}
use Rattle.catalog_doc.specs.Spelled.{HoldsCommit}
use Rattle.catalog_laws.specs.Values.{HaveItemValues}
use Rattle.catalog_laws.proofs.ItemValues.{item_values}
use Rattle.catalog_laws.proofs.Pairs.{last_at}
use Rattle.catalog_rows.specs.Kept.{Kept}
use Rattle.catalog_rows.specs.Last.{placed_row}
use Rattle.catalog_items.specs.Leaves.{HoldsLeaf}
use Rattle.commit_plan.specs.Lookups.{IsKnown}

-- the area holds the item's leaf, and the item is one of the code's types
record IsHeld (m : Area) (base : List ℕ) (x : Placed) : Type 0 where
  value : IsItemValue x.what
  leaf : get m (leaf_name x.number x.place) ≡ Some (leaf_text base x.number x.place x.stamp x.what)

-- of each of these items
abbrev AreHeld : Area → List ℕ → List Placed → Type 0
AreHeld m base [] = ⊤
AreHeld m base (x ∷ xs) = IsHeld m base x × AreHeld m base xs

both_held : (m : Area) (base : List ℕ) (xs ys : List Placed) → AreHeld m base xs → AreHeld m base ys → AreHeld m base (xs ++ ys)
both_held m base [] ys first second = second
both_held m base (x ∷ xs) ys first second = (first.0, both_held m base xs ys first.1 second)

held_within : (m : Area) (base : List ℕ) (before after : List Placed) (x : Placed) → AreHeld m base (before ++ x ∷ after) → IsHeld m base x
held_within m base [] after x held = held.0
held_within m base (y ∷ before) after x held = held_within m base before after x held.1

items_held : (m : Area) (base : List ℕ) (number stamp place : ℕ) (items : List Item)
    → ((k : ℕ) (it : Item) → slice_get items k ≡ Some it → IsItemValue it × (get m (leaf_name number (place + k)) ≡ Some (leaf_text base number (place + k) stamp it)))
    → AreHeld m base (placed_from number stamp place items)
items_held m base number stamp place [] each = tt
items_held m base number stamp place (it ∷ items) each =
    let own = each 0 it refl in (
      record {
        value = own.0;
        leaf = subst (λ (p : ℕ). get m (leaf_name number p) ≡ Some (leaf_text base number p stamp it)) (let same : place + 0 ≡ place = omega arith in same) own.1;
      },
      items_held m base number stamp (suc place) items (λ k x is.
          let next = each (suc k) x is in
          (next.0, subst (λ (p : ℕ). get m (leaf_name number p) ≡ Some (leaf_text base number p stamp x)) (let same : place + suc k ≡ suc place + k = omega arith in same) next.1)),
    )

all_held : (m : Area) (base : List ℕ) (cs : Catalog) → ((c : Stored) → Contains cs c → HoldsCommit m base c) → HaveItemValues cs → AreHeld m base (all_placed cs)
all_held m base [] held values = tt
all_held m base (c ∷ cs) held values =
    let own = held c (0, omega arith, refl) in
    both_held m base (placed_of c) (all_placed cs)
    (items_held m base c.commit.number c.commit.stamp 0 c.commit.items (λ k it is. (
      values c k it (0, omega arith, refl) is,
      subst (λ (p : ℕ). get m (leaf_name c.commit.number p) ≡ Some (leaf_text base c.commit.number p c.commit.stamp it)) (let same : k ≡ 0 + k = omega arith in same) (own.leaves k it is),
    )))
    (all_held m base cs (λ d there. held d (suc there.0, omega (arith, there.1), there.2)) (λ d k it there is. values d k it (suc there.0, omega (arith, there.1), there.2) is))

-- in an area that spells a catalog
pub record HoldsLast (s : Seen) (base : List ℕ) (last : Placed) : Type 0 where
  pub area : Area
  pub area_is : s.held ≡ Some area
  pub value : IsItemValue last.what
  pub leaf : HoldsLeaf area base (placed_row last) last.what

pub last_leaf : (kept : Kept) (s : Seen) (base : List ℕ) (cs : Catalog) → IsKnown kept s base cs → (id version : List ℕ) (last : Placed)
    → last_of id version (all_placed cs) ≡ Some last → HoldsLast s base last
last_leaf kept s base cs known id version last is =
    let store = known.store in
    let at = last_at id version (all_placed cs) last is in
    let held = held_within store.0 base at.before at.after last (subst (AreHeld store.0 base) at.split (all_held store.0 base cs store.2.commits (item_values cs known.lawful))) in
    record { area = store.0; area_is = store.1; value = held.value; leaf = record { own = record { id = refl; version = refl; kind = refl }; leaf = held.leaf } }
