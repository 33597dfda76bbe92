-- An id's items behind a commit are those of the commits behind it.
use Rattle.std.proofs.Common.{◌≡◌, ◌<◌, ◌≤◌, ◌+◌, ℕ, zero, suc, List, [], ◌∷◌, ◌++◌, length, take, drop, Bool, true, false, cond, ◌&&◌, refl, sym, ap, ◌∙◌, subst, arith}
use Rattle.std.proofs.lemmas.Bool.{lt-ltb, le-ltb, ltb-true, ltb-false}
use Rattle.std.proofs.lemmas.List.{drop-map, length-append}
use Rattle.std.proofs.lemmas.List.Folds.{flat_map-map}
use Rattle.std.specs.List.{filter}
use Rattle.std.specs.Prelude.{nat_lt}
use Rattle.pkg_meta.specs.Catalog.{Catalog}
use Rattle.pkg_meta.specs.Lawful.{IsLawful, MayFollow, Placed, all_placed, placed_from, placed_of}
use Rattle.pkg_meta.specs.declared.commit.Commit.{Commit}
use Rattle.pkg_meta.specs.declared.commit.Stored.{Stored}
use Rattle.pkg_meta.specs.declared.item.Item.{Item}
use Rattle.fold_core.specs.Items.{commits_of, is_of, items_in, items_of, touched_at}
use Rattle.fold_core.proofs.Gathered.{filter_joined}
use Rattle.fold_core.proofs.Touches.{items_stay}
use Rattle.pass_laws.specs.Starting.{is_behind_state, items_behind_state}

-- commits with the numbers above this one
abbrev AreNumbered : ℕ → Catalog → Type 0
AreNumbered n [] = Unit {0}
AreNumbered n (c ∷ cs) = (c.commit.number ≡ n + 1) × AreNumbered (n + 1) cs

numbered : (before cs : Catalog) → MayFollow before cs → AreNumbered (length before) cs
numbered before [] follow = tt
numbered before (c ∷ cs) follow =
    (follow.0.number, subst (λ (n : ℕ). AreNumbered n cs) (length-append before (c ∷ [])) (numbered (before ++ c ∷ []) cs follow.1))

module _ (at number stamp : ℕ) where
  all_stay : (place : ℕ) (items : List Item) → nat_lt at number ≡ true → filter (is_behind_state at) (placed_from number stamp place items) ≡ placed_from number stamp place items
  all_stay place [] is = refl
  all_stay place (it ∷ items) is =
      let x : Placed = record { number = number; place = place; stamp = stamp; what = it } in
      λ i. cond (is i) (x ∷ all_stay (suc place) items is i) (all_stay (suc place) items is i)

  none_stay : (place : ℕ) (items : List Item) → nat_lt at number ≡ false → filter (is_behind_state at) (placed_from number stamp place items) ≡ []
  none_stay place [] is = refl
  none_stay place (it ∷ items) is =
      let x : Placed = record { number = number; place = place; stamp = stamp; what = it } in
      λ i. cond (is i) (x ∷ none_stay (suc place) items is i) (none_stay (suc place) items is i)

all_behind : (at n : ℕ) (cs : Catalog) → at ≤ n → AreNumbered n cs → filter (is_behind_state at) (all_placed cs) ≡ all_placed cs
all_behind at n [] le numbers = refl
all_behind at n (c ∷ cs) le numbers =
    let own : nat_lt at c.commit.number ≡ true = lt-ltb at c.commit.number (omega (arith, le, numbers.0)) in
    filter_joined (is_behind_state at) (placed_of c) (all_placed cs)
    ∙ (λ i. all_stay at c.commit.number c.commit.stamp 0 c.commit.items own i ++ all_behind at (n + 1) cs (omega (arith, le)) numbers.1 i)

behind : (n k : ℕ) (cs : Catalog) → AreNumbered n cs → filter (is_behind_state (n + k)) (all_placed cs) ≡ all_placed (drop k cs)
behind n zero cs numbers = all_behind (n + 0) n cs (omega arith) numbers
behind n (suc k) [] numbers = refl
behind n (suc k) (c ∷ cs) numbers =
    let own : nat_lt (n + suc k) c.commit.number ≡ false = le-ltb (n + suc k) c.commit.number (omega (arith, numbers.0)) in
    let next : (n + 1) + k ≡ n + suc k = omega arith in
    filter_joined (is_behind_state (n + suc k)) (placed_of c) (all_placed cs)
    ∙ (λ i. none_stay (n + suc k) c.commit.number c.commit.stamp 0 c.commit.items own i
    ++ subst (λ (m : ℕ). filter (is_behind_state m) (all_placed cs) ≡ all_placed (drop k cs)) next (behind (n + 1) k cs numbers.1) i)

placed_behind : (cs : Catalog) (k : ℕ) → IsLawful cs → filter (is_behind_state k) (all_placed cs) ≡ all_placed (drop k cs)
placed_behind cs k lawful =
    let same : 0 + k ≡ k = omega arith in
    subst (λ (m : ℕ). filter (is_behind_state m) (all_placed cs) ≡ all_placed (drop k cs)) same (behind 0 k cs (numbered [] cs lawful.commits))

-- filters, one after the other
filter_pair : (p q : Placed → Bool) (xs : List Placed) → filter p (filter q xs) ≡ filter (λ (x : Placed). q x && p x) xs
filter_pair p q [] = refl
filter_pair p q (x ∷ xs) =
    elim (q x) as (λ (b : Bool). filter p (cond b (x ∷ filter q xs) (filter q xs))
    ≡ cond (b && p x) (x ∷ filter (λ (y : Placed). q y && p y) xs) (filter (λ (y : Placed). q y && p y) xs)) [
      | true ↦ ap (λ (l : List Placed). cond (p x) (x ∷ l) l) (filter_pair p q xs)
      | false ↦ filter_pair p q xs
    ]

second : (x b y : Bool) → (y ≡ true → x ≡ true) → ((x && b) && y) ≡ (y && b)
second true true true h = refl
second true true false h = refl
second true false true h = refl
second true false false h = refl
second false b true h = absurd (let no : false ≡ true = h refl in let nope : ⊥ = cc in nope)
second false b false h = refl

earlier : (x b y : Bool) → (x ≡ true → y ≡ true) → ((x && b) && y) ≡ (x && b)
earlier true true true h = refl
earlier true true false h = absurd (let no : false ≡ true = h refl in let nope : ⊥ = cc in nope)
earlier true false y h = refl
earlier false b y h = refl

module _ (cs : Catalog) (key : List ℕ) where
  abbrev pub commits : List Commit
  commits = commits_of cs

  abbrev mine : Placed → Bool
  mine = λ (x : Placed). is_of key x.what

  of_commits : (k : ℕ) → filter mine (all_placed (drop k cs)) ≡ items_of (drop k commits) key
  of_commits k =
      ap (filter mine) (sym (flat_map-map items_in (λ (c : Stored). c.commit) (drop k cs)))
      ∙ ap (λ (l : List Commit). items_of l key) (sym (drop-map (λ (c : Stored). c.commit) k cs))

  both_behind : (c at t : ℕ) → IsLawful cs
      → ((n : ℕ) (b : Bool) → ((nat_lt c n && b) && nat_lt at n) ≡ (nat_lt t n && b)) → items_behind_state c at cs key ≡ items_of (drop t commits) key
  both_behind c at t lawful same =
      ap (filter (is_behind_state at)) (filter_pair mine (is_behind_state c) (all_placed cs))
      ∙ filter_pair (is_behind_state at) (λ (x : Placed). is_behind_state c x && mine x) (all_placed cs)
      ∙ (λ i. filter (λ (x : Placed). same x.number (mine x) i) (all_placed cs))
      ∙ sym (filter_pair mine (is_behind_state t) (all_placed cs))
      ∙ ap (filter mine) (placed_behind cs t lawful)
      ∙ of_commits t

  -- the items are those behind some commit up to which no item stands behind `at`
  pub record AreBehind (at : ℕ) (items : List Placed) : Type 0 where
    pub from : ℕ
    pub items_are : items ≡ items_of (drop from commits) key
    pub before : items_of (take from commits) key ≡ items_of (take at commits) key

  pub are_behind : (c at : ℕ) → IsLawful cs → touched_at commits key c ≤ at → AreBehind at (items_behind_state c at cs key)
  are_behind c at lawful last = by_test (nat_lt at c) refl
    where
      by_test : (b : Bool) → nat_lt at c ≡ b → AreBehind at (items_behind_state c at cs key)
      by_test true is =
          let less : at < c = ltb-true at c is in record {
            from = c;
            items_are = both_behind c at c lawful (λ n b. earlier (nat_lt c n) b (nat_lt at n) (λ is. lt-ltb at n (omega (arith, ltb-true c n is, less))));
            before = sym (items_stay commits key at c (omega (arith, less)) last);
          }
      by_test false is =
          let le : c ≤ at = ltb-false at c is in record {
            from = at;
            items_are = both_behind c at at lawful (λ n b. second (nat_lt c n) b (nat_lt at n) (λ is. lt-ltb c n (omega (arith, ltb-true at n is, le))));
            before = refl;
          }
