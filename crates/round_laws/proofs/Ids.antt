-- The ids that a round takes up are those with an item behind the cursor.
use Rattle.std.proofs.Common.{◌≡◌, ◌⊎◌, inl, inr, ⊎_elim, ◌<◌, ◌+◌, ℕ, zero, suc, List, [], ◌∷◌, ◌++◌, length, map, Bool, true, false, cond, ◌||◌, refl, sym}
use Rattle.std.proofs.Common.{◌∙◌, ap, subst, arith}
use Rattle.std.proofs.lemmas.Bool.{cases_lt, lt-ltb, ltb-true}
use Rattle.std.proofs.lemmas.List.{length-append, take_all}
use Rattle.std.proofs.lemmas.List.Folds.{list_any-append}
use Rattle.std.proofs.lemmas.Map.Views.{Contains-from_any}
use Rattle.std.proofs.lemmas.Slice.Eq.{bytes_eq-Decides}
use Rattle.std.specs.List.{Contains, filter, list_any}
use Rattle.std.specs.Prelude.{nat_lt}
use Rattle.std.specs.Str.{bytes_eq}
use Rattle.pkg_meta.specs.Catalog.{Catalog}
use Rattle.pkg_meta.specs.Lawful.{IsLawful, MayFollow, Placed, all_placed, placed_from, placed_of}
use Rattle.pkg_meta.specs.declared.commit.Commit.{Commit}
use Rattle.pkg_meta.specs.declared.item.Item.{Item}
use Rattle.fold_core.specs.Folds.{touched_by}
use Rattle.fold_core.specs.Items.{commits_of, counted, has_item, is_of, touched}
use Rattle.fold_core.proofs.Gathered.{filter_joined}
use Rattle.hive_laws.specs.Rounds.{AreDue}
use Rattle.hive_laws.proofs.Listed.{nothing_in, split}
use Rattle.job_round.specs.Ids.{has_key, with_key, with_keys}
use Rattle.job_round.specs.Items.{is_behind, keys_after, placed_after, placed_key}
use Rattle.pass_laws.proofs.Taken.{fronts}

or_true : (a b : Bool) → b ≡ true → (a || b) ≡ true
or_true true b h = refl
or_true false b h = h

first_true : (a b : Bool) → a ≡ true → (a || b) ≡ true
first_true true b h = refl
first_true false b h = absurd (let no : ⊥ = cc in no)

or_split : (a b : Bool) → (a || b) ≡ true → (a ≡ true) ⊎ (b ≡ true)
or_split true b h = inl refl
or_split false b h = inr h

or_joined : (a b c : Bool) → ((a || b) || c) ≡ (a || (b || c))
or_joined true b c = refl
or_joined false b c = refl

or_false : (a b : Bool) → (a || (b || false)) ≡ (a || b)
or_false true b = refl
or_false false true = refl
or_false false false = refl

or_same : (a b : Bool) → (b ≡ true → a ≡ true) → a ≡ (a || b)
or_same true b h = refl
or_same false true h = h refl
or_same false false h = refl

-- commits with the numbers above this one
abbrev AreNumbered : ℕ → Catalog → Type 0
AreNumbered n [] = Unit {0}
AreNumbered n (c ∷ cs) = (c.commit.number ≡ n + 1) × AreNumbered (n + 1) cs

numbered : (before cs : Catalog) → MayFollow before cs → AreNumbered (length before) cs
numbered before [] follow = tt
numbered before (c ∷ cs) follow =
    (follow.0.number, subst (λ (n : ℕ). AreNumbered n cs) (length-append before (c ∷ [])) (numbered (before ++ c ∷ []) cs follow.1))

-- keys, each once
module _ (key : List ℕ) where
  with_one : (keys : List (List ℕ)) (k : List ℕ) → has_key key (with_key keys k) ≡ (has_key key keys || bytes_eq key k)
  with_one keys k =
      elim (has_key k keys) as (λ (b : Bool). has_key k keys ≡ b → has_key key (cond b keys (keys ++ k ∷ [])) ≡ (has_key key keys || bytes_eq key k)) [
        | true ↦ λ has. or_same (has_key key keys) (bytes_eq key k)
            (λ same. subst (λ (x : List ℕ). has_key x keys ≡ true) (sym ((bytes_eq-Decides key k).0 same)) has)
        | false ↦ λ has. list_any-append (bytes_eq key) keys (k ∷ []) ∙ or_false (has_key key keys) (bytes_eq key k)
      ] refl

  with_all : (keys more : List (List ℕ)) → has_key key (with_keys keys more) ≡ (has_key key keys || has_key key more)
  with_all keys [] = or_same (has_key key keys) false (λ no_. absurd (let no : ⊥ = cc in no))
  with_all keys (k ∷ more) =
      with_all (with_key keys k) more
      ∙ ap (λ (b : Bool). b || has_key key more) (with_one keys k)
      ∙ or_joined (has_key key keys) (bytes_eq key k) (has_key key more)

  any_of : (keys : List (List ℕ)) → Contains keys key → has_key key keys ≡ true
  any_of [] is = absurd (nothing_in key is)
  any_of (k ∷ keys) is = ⊎_elim
      (λ e. first_true (bytes_eq key k) (has_key key keys) ((bytes_eq-Decides key k).1 e))
      (λ there. or_true (bytes_eq key k) (has_key key keys) (any_of keys there))
      (split k key keys is)

  contains : (keys : List (List ℕ)) → has_key key keys ≡ true → Contains keys key
  contains keys has = Contains-from_any (λ x y same. (bytes_eq-Decides x y).0 same) key keys has

  abbrev mine : Placed → Bool
  mine = λ (x : Placed). is_of key x.what

  of_items : (xs : List Placed) → has_key key (map placed_key xs) ≡ list_any mine xs
  of_items [] = refl
  of_items (x ∷ xs) = ap (λ (b : Bool). mine x || b) (of_items xs)

  module _ (c : ℕ) where
    -- whether one of these items is of the id and behind the commit
    abbrev has : List Placed → Bool
    has xs = list_any mine (filter (is_behind c) xs)

    has_joined : (xs ys : List Placed) → has (xs ++ ys) ≡ (has xs || has ys)
    has_joined xs ys = ap (list_any mine) (filter_joined (is_behind c) xs ys) ∙ list_any-append mine (filter (is_behind c) xs) (filter (is_behind c) ys)

    module _ (number stamp : ℕ) where
      abbrev rest : ℕ → List Item → List Placed
      rest place items = filter (is_behind c) (placed_from number stamp place items)

      behind_all : nat_lt c number ≡ true → (place : ℕ) (items : List Item) → has (placed_from number stamp place items) ≡ list_any (is_of key) items
      behind_all is place [] = refl
      behind_all is place (it ∷ items) =
          let x : Placed = record { number = number; place = place; stamp = stamp; what = it } in
          ap (λ (b : Bool). list_any mine (cond b (x ∷ rest (suc place) items) (rest (suc place) items))) is
          ∙ ap (λ (b : Bool). is_of key it || b) (behind_all is (suc place) items)

      behind_none : nat_lt c number ≡ false → (place : ℕ) (items : List Item) → has (placed_from number stamp place items) ≡ false
      behind_none is place [] = refl
      behind_none is place (it ∷ items) =
          let x : Placed = record { number = number; place = place; stamp = stamp; what = it } in
          ap (λ (b : Bool). list_any mine (cond b (x ∷ rest (suc place) items) (rest (suc place) items))) is
          ∙ behind_none is (suc place) items

    counted_more : (b : Bool) (n : ℕ) → 0 < n → counted b n ≡ n + 1
    counted_more b zero some = absurd (omega arith)
    counted_more b (suc n) some = omega arith

    counted_some : (n : ℕ) → 0 < counted true n
    counted_some zero = omega arith
    counted_some (suc n) = omega arith

    abbrev last : Catalog → ℕ
    last cs = touched (commits_of cs) key

    here : (x : Commit) → has (placed_from x.number x.stamp 0 x.items) ≡ true → (c < x.number) × (has_item x key ≡ true)
    here x is =
        elim (nat_lt c x.number) as (λ (b : Bool). nat_lt c x.number ≡ b → (c < x.number) × (has_item x key ≡ true)) [
          | true ↦ λ less. (ltb-true c x.number less, sym (behind_all x.number x.stamp less 0 x.items) ∙ is)
          | false ↦ λ not_. let none : has (placed_from x.number x.stamp 0 x.items) ≡ false = behind_none x.number x.stamp not_ 0 x.items in absurd
              (let no : ⊥ = cc in no)
        ] refl

    reached : (n : ℕ) (cs : Catalog) → AreNumbered n cs → has (all_placed cs) ≡ true → (0 < last cs) × (c < n + last cs)
    reached n [] numbers is = absurd (let no : ⊥ = cc in no)
    reached n (x ∷ cs) numbers is = ⊎_elim
        (λ own.
        let at = here x.commit own in
        let some : 0 < counted true (last cs) = counted_some (last cs) in
        let same : counted (has_item x.commit key) (last cs) ≡ counted true (last cs) = ap (λ (b : Bool). counted b (last cs)) at.1 in
        (omega (arith, some, same), omega (arith, some, same, at.0, numbers.0)))
        (λ more.
        let at = reached (n + 1) cs numbers.1 more in
        let same : counted (has_item x.commit key) (last cs) ≡ last cs + 1 = counted_more (has_item x.commit key) (last cs) at.0 in
        (omega (arith, same), omega (arith, same, at.1)))
        (or_split (has (placed_of x)) (has (all_placed cs)) (sym (has_joined (placed_of x) (all_placed cs)) ∙ is))

    found : (n : ℕ) (cs : Catalog) → AreNumbered n cs → 0 < last cs → c < n + last cs → has (all_placed cs) ≡ true
    found n [] numbers some less = absurd (omega (arith, some))
    found n (x ∷ cs) numbers some less = has_joined (placed_of x) (all_placed cs) ∙ ⊎_elim
        (λ more.
        let same : counted (has_item x.commit key) (last cs) ≡ last cs + 1 = counted_more (has_item x.commit key) (last cs) more in
        or_true (has (placed_of x)) (has (all_placed cs)) (found (n + 1) cs numbers.1 more (omega (arith, same, less))))
        (λ none.
        let zero_ : last cs ≡ 0 = omega (arith, none) in
        first_true (has (placed_of x)) (has (all_placed cs)) (own x.commit zero_))
        (cases_lt 0 (last cs))
      where
        by_item : (b : Bool) → has_item x.commit key ≡ b → last cs ≡ 0 → b ≡ true
        by_item true is none = refl
        by_item false is none =
            let same : counted (has_item x.commit key) (last cs) ≡ 0 = ap (λ (b : Bool). counted b (last cs)) is ∙ ap (counted false) none in
            absurd (omega (arith, same, some))

        own : (y : Commit) → last cs ≡ 0 → has (placed_of x) ≡ true
        own y none =
            let item : has_item x.commit key ≡ true = by_item (has_item x.commit key) refl none in
            let same : counted (has_item x.commit key) (last cs) ≡ 1 = ap (λ (b : Bool). counted b (last cs)) item ∙ ap (counted true) none in
            behind_all x.commit.number x.commit.stamp (lt-ltb c x.commit.number (omega (arith, same, less, numbers.0))) 0 x.commit.items ∙ item

    keys_tell : (cs : Catalog) → has_key key (keys_after c cs) ≡ has (all_placed cs)
    keys_tell cs = with_all [] (map placed_key (placed_after c cs)) ∙ of_items (placed_after c cs)

all_touched : (cs : Catalog) (key : List ℕ) → touched_by cs key (length cs) ≡ touched (commits_of cs) key
all_touched cs key =
    ap (λ (l : List Commit). touched l key) (sym (fronts cs (length cs)))
    ∙ ap (λ (l : Catalog). touched (commits_of l) key) (take_all (length cs) cs (omega arith))

pub are_due : (cs : Catalog) (c : ℕ) → IsLawful cs → AreDue cs c (length cs) (keys_after c cs)
are_due cs c lawful = record {
  some = λ key is.
      let at = reached key c 0 cs (numbered [] cs lawful.commits) (sym (keys_tell key c cs) ∙ any_of key (keys_after c cs) is) in
      let same = all_touched cs key in
      omega (arith, same, at.1);
  all = λ key less.
      let same = all_touched cs key in
      contains key (keys_after c cs) (keys_tell key c cs ∙ found key c 0 cs (numbered [] cs lawful.commits) (omega (arith, same, less))
      (omega (arith, same, less)));
}
