-- The number of the last commit that has an item of an id, and the items up to it.
use Rattle.std.proofs.Common.{◌≡◌, ◌≤◌, ℕ, zero, suc, List, [], ◌∷◌, ◌++◌, take, Bool, true, false, cond, ◌||◌, refl, sym, ap, ◌∙◌, arith}
use Rattle.std.specs.List.{list_any}
use Rattle.pkg_meta.specs.Lawful.{Placed}
use Rattle.pkg_meta.specs.declared.commit.Commit.{Commit}
use Rattle.pkg_meta.specs.declared.item.Item.{Item}
use Rattle.fold_core.specs.Items.{counted, has_item, is_of, items_in_of, items_of, touched, touched_at}
use Rattle.fold_core.proofs.Gathered.{items_joined, items_one}

counted_within : (b : Bool) (n k : ℕ) → n ≤ k → counted b n ≤ suc k
counted_within true zero k le = omega arith
counted_within false zero k le = omega arith
counted_within b (suc n) k le = omega arith

counted_rises : (b : Bool) (n m : ℕ) → n ≤ m → counted b n ≤ counted b m
counted_rises true zero zero le = omega arith
counted_rises false zero zero le = omega arith
counted_rises true zero (suc m) le = omega arith
counted_rises false zero (suc m) le = omega arith
counted_rises b (suc n) zero le = absurd (omega arith)
counted_rises b (suc n) (suc m) le = omega arith

counted_back : (b : Bool) (m j : ℕ) → counted b m ≤ suc j → m ≤ j
counted_back b zero j le = omega arith
counted_back b (suc m) j le = omega arith

not_here : (b : Bool) (n : ℕ) → counted b n ≡ 0 → b ≡ false
not_here true zero e = absurd (omega arith)
not_here false n e = refl
not_here true (suc n) e = absurd (omega arith)

not_later : (b : Bool) (n : ℕ) → counted b n ≡ 0 → n ≡ 0
not_later b zero e = refl
not_later b (suc n) e = absurd (omega arith)

-- no commit up to k is above k
pub touched_within : (cs : List Commit) (key : List ℕ) (k : ℕ) → touched_at cs key k ≤ k
touched_within cs key zero = omega arith
touched_within [] key (suc k) = omega arith
touched_within (c ∷ cs) key (suc k) = counted_within (has_item c key) (touched_at cs key k) k (touched_within cs key k)

pub touched_rises : (cs : List Commit) (key : List ℕ) (j k : ℕ) → j ≤ k → touched_at cs key j ≤ touched_at cs key k
touched_rises cs key zero k le = omega arith
touched_rises cs key (suc j) zero le = absurd (omega arith)
touched_rises [] key (suc j) (suc k) le = omega arith
touched_rises (c ∷ cs) key (suc j) (suc k) le =
    counted_rises (has_item c key) (touched_at cs key j) (touched_at cs key k) (touched_rises cs key j k (omega arith))

pub touched_stays : (cs : List Commit) (key : List ℕ) (j k : ℕ) → j ≤ k → touched_at cs key k ≤ j → touched_at cs key j ≡ touched_at cs key k
touched_stays cs key zero k le last = omega arith
touched_stays cs key (suc j) zero le last = absurd (omega arith)
touched_stays [] key (suc j) (suc k) le last = refl
touched_stays (c ∷ cs) key (suc j) (suc k) le last =
    ap (counted (has_item c key)) (touched_stays cs key j k (omega arith) (counted_back (has_item c key) (touched_at cs key k) j last))

first_false : (a b : Bool) → (a || b) ≡ false → a ≡ false
first_false true b e = cc
first_false false b e = refl

second_false : (a b : Bool) → (a || b) ≡ false → b ≡ false
second_false true b e = cc
second_false false b e = e

none_placed : (key : List ℕ) (number stamp place : ℕ) (items : List Item) → list_any (is_of key) items ≡ false → items_in_of key number stamp place items ≡ []
none_placed key number stamp place [] e = refl
none_placed key number stamp place (it ∷ items) e =
    ap (λ (b : Bool). cond b (record { number = number; place = place; stamp = stamp; what = it } ∷ items_in_of key number stamp (suc place) items) (items_in_of key number stamp (suc place) items))
    (first_false _ _ e)
    ∙ none_placed key number stamp (suc place) items (second_false _ _ e)

-- where no commit has an item there are no items
pub items_none : (cs : List Commit) (key : List ℕ) → touched cs key ≡ 0 → items_of cs key ≡ []
items_none [] key e = refl
items_none (c ∷ cs) key e =
    items_joined (c ∷ []) cs key
    ∙ ap (λ (l : List Placed). l ++ items_of cs key) (items_one c key ∙ none_placed key c.number c.stamp 0 c.items (not_here _ _ e))
    ∙ items_none cs key (not_later (has_item c key) _ e)

-- without an item between them, two prefixes have the same items
pub items_stay : (cs : List Commit) (key : List ℕ) (j k : ℕ) → j ≤ k → touched_at cs key k ≤ j → items_of (take j cs) key ≡ items_of (take k cs) key
items_stay cs key zero k le last = sym (items_none (take k cs) key (omega arith))
items_stay cs key (suc j) zero le last = absurd (omega arith)
items_stay [] key (suc j) (suc k) le last = refl
items_stay (c ∷ cs) key (suc j) (suc k) le last =
    items_joined (c ∷ []) (take j cs) key
    ∙ ap (λ (l : List Placed). items_of (c ∷ []) key ++ l) (items_stay cs key j k (omega arith) (counted_back (has_item c key) (touched_at cs key k) j last))
    ∙ sym (items_joined (c ∷ []) (take k cs) key)
