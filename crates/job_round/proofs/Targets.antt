-- The rows behind a cursor: which items they are of, and what the last of them tells.
use Rattle.std.proofs.Common.{◌≡◌, ◌<◌, ◌≤◌, ◌+◌, ◌-◌, ℕ, suc, List, [], ◌∷◌, ◌++◌, length, map, Bool, true, false, cond, Some, None, inl, inr, refl, sym, ◌∙◌, ap, ap₂, subst, append_assoc, append-nil, length-append, arith}
use Rattle.std.proofs.lemmas.Bool.{cases_lt, lt-ltb, le-ltb}
use Rattle.std.proofs.lemmas.List.{map-append}
use Rattle.std.specs.List.{AllByRecursion, filter, slice_get}
use Rattle.pkg_meta.specs.Catalog.{Catalog}
use Rattle.pkg_meta.specs.Lawful.{MayFollow, Placed, all_placed, newest, placed_from, placed_of}
use Rattle.pkg_meta.specs.declared.commit.Stored.{Stored}
use Rattle.pkg_meta.specs.declared.item.Item.{Item}
use Rattle.catalog_doc.specs.CatDocs.{all_rows}
use Rattle.catalog_doc.specs.declared.row.Row.{Row}
use Rattle.catalog_items.specs.ByRows.{rows_above}
use Rattle.catalog_rows.specs.Last.{placed_row}
use Rattle.catalog_rows.proofs.OfItems.{rows_placed}
use Rattle.fold_core.specs.Items.{is_of}
use Rattle.job_round.specs.Ids.{by_id, firsts, id_rows, is_row_of, key_of, key_of_id, keys_of}
use Rattle.job_round.specs.Items.{items_after, is_behind, keys_after, placed_after, placed_key}
use Rattle.job_round.specs.Reads.{HaveOwnRows}
use Rattle.job_round.specs.declared.ids.IdRows.{IdRows}

above_map : (c : ℕ) (xs : List Placed) → rows_above c (map placed_row xs) ≡ map placed_row (filter (is_behind c) xs)
above_map c [] = refl
above_map c (x ∷ xs) =
    elim (is_behind c x) as (λ (b : Bool). cond b (placed_row x ∷ rows_above c (map placed_row xs)) (rows_above c (map placed_row xs)) ≡ map placed_row (cond b (x ∷ filter (is_behind c) xs) (filter (is_behind c) xs))) [
      | true ↦ ap (λ (l : List Row). placed_row x ∷ l) (above_map c xs)
      | false ↦ above_map c xs
    ]

-- the rows behind a commit are those of the items behind it
pub rows_are : (c : ℕ) (cs : Catalog) → rows_above c (all_rows cs) ≡ map placed_row (placed_after c cs)
rows_are c cs = ap (rows_above c) (rows_placed cs) ∙ above_map c (all_placed cs)

of_map : (key : List ℕ) (xs : List Placed) → filter (is_row_of key) (map placed_row xs) ≡ map placed_row (filter (λ (x : Placed). is_of key x.what) xs)
of_map key [] = refl
of_map key (x ∷ xs) =
    elim (is_of key x.what) as (λ (b : Bool). cond b (placed_row x ∷ filter (is_row_of key) (map placed_row xs)) (filter (is_row_of key) (map placed_row xs))
    ≡ map placed_row (cond b (x ∷ filter (λ (y : Placed). is_of key y.what) xs) (filter (λ (y : Placed). is_of key y.what) xs))) [
      | true ↦ ap (λ (l : List Row). placed_row x ∷ l) (of_map key xs)
      | false ↦ of_map key xs
    ]

keys_map : (xs : List Placed) → map key_of (map placed_row xs) ≡ map placed_key xs
keys_map [] = refl
keys_map (x ∷ xs) = ap (λ (l : List (List ℕ)). placed_key x ∷ l) (keys_map xs)

pub ids_keys : (rows : List Row) (keys : List (List ℕ)) → map key_of_id (map (id_rows rows) keys) ≡ keys
ids_keys rows [] = refl
ids_keys rows (key ∷ keys) = ap (λ (l : List (List ℕ)). key ∷ l) (ids_keys rows keys)

module _ (c : ℕ) (cs : Catalog) (rows : List Row) (same : rows ≡ rows_above c (all_rows cs)) where
  own : rows ≡ map placed_row (placed_after c cs)
  own = same ∙ rows_are c cs

  pub keys_are : map key_of_id (by_id rows) ≡ keys_after c cs
  keys_are = ids_keys rows (keys_of rows) ∙ ap firsts (ap (map key_of) own ∙ keys_map (placed_after c cs))

  told_each : (keys : List (List ℕ)) → AllByRecursion (λ (id : IdRows). id.rows ≡ map placed_row (items_after c cs id.key)) (map (id_rows rows) keys)
  told_each [] = tt
  told_each (key ∷ keys) = (ap (filter (is_row_of key)) own ∙ of_map key (placed_after c cs), told_each keys)

  pub told_ids : AllByRecursion (λ (id : IdRows). id.rows ≡ map placed_row (items_after c cs id.key)) (by_id rows)
  told_ids = told_each (keys_of rows)

-- each id has its own rows behind a commit
own_each : (c : ℕ) (kept rows : List Row) → rows ≡ rows_above c kept → (keys : List (List ℕ)) → HaveOwnRows c kept (map (id_rows rows) keys)
own_each c kept rows same [] = tt
own_each c kept rows same (key ∷ keys) = (ap (filter (is_row_of key)) same, own_each c kept rows same keys)

pub own_ids : (c : ℕ) (kept rows : List Row) → rows ≡ rows_above c kept → HaveOwnRows c kept (by_id rows)
own_ids c kept rows same = own_each c kept rows same (keys_of rows)

filter_joined : (p : Placed → Bool) (xs ys : List Placed) → filter p (xs ++ ys) ≡ filter p xs ++ filter p ys
filter_joined p [] ys = refl
filter_joined p (x ∷ xs) ys =
    elim (p x) as (λ (b : Bool). cond b (x ∷ filter p (xs ++ ys)) (filter p (xs ++ ys)) ≡ cond b (x ∷ filter p xs) (filter p xs) ++ filter p ys) [
      | true ↦ ap (λ (l : List Placed). x ∷ l) (filter_joined p xs ys)
      | false ↦ filter_joined p xs ys
    ]

-- no item of a commit up to c stands behind c
none_from : (c number stamp place : ℕ) (items : List Item) → number ≤ c → filter (is_behind c) (placed_from number stamp place items) ≡ []
none_from c number stamp place [] low = refl
none_from c number stamp place (it ∷ items) low =
    ap (λ (b : Bool). cond b ((record { number = number; place = place; stamp = stamp; what = it }) ∷ filter (is_behind c) (placed_from number stamp (suc place) items)) (filter (is_behind c) (placed_from number stamp (suc place) items))) (le-ltb c number low)
    ∙ none_from c number stamp (suc place) items low

none_behind : (c : ℕ) (before cs : Catalog) → MayFollow before cs → length before + length cs ≤ c → filter (is_behind c) (all_placed cs) ≡ []
none_behind c before [] follows low = refl
none_behind c before (d ∷ cs) follows low =
    let longer : length (before ++ d ∷ []) ≡ length before + 1 = length-append before (d ∷ []) in
    let number : d.commit.number ≤ c = omega (arith, follows.0.number, low) in
    filter_joined (is_behind c) (placed_of d) (all_placed cs)
    ∙ ap₂ (λ (xs ys : List Placed). xs ++ ys) (none_from c d.commit.number d.commit.stamp 0 d.commit.items number) (none_behind c (before ++ d ∷ []) cs follows.1 (omega (arith, longer, low)))

-- the last item of a catalog
pub record EndsWith (xs : List Placed) (number stamp : ℕ) : Type 0 where
  pub front : List Placed
  pub last : Placed
  pub is : xs ≡ front ++ last ∷ []
  pub number_is : last.number ≡ number
  pub stamp_is : last.stamp ≡ stamp

last_from : (number stamp place : ℕ) (items : List Item) → 0 < length items → EndsWith (placed_from number stamp place items) number stamp
last_from number stamp place [] some = absurd (omega (arith, some))
last_from number stamp place (it ∷ []) some = record { front = []; last = record { number = number; place = place; stamp = stamp; what = it }; is = refl; number_is = refl; stamp_is = refl }
last_from number stamp place (it ∷ next ∷ items) some =
    let rest = last_from number stamp (suc place) (next ∷ items) (omega arith) in
    record {
      front = (record { number = number; place = place; stamp = stamp; what = it }) ∷ rest.front;
      last = rest.last;
      is = ap (λ (l : List Placed). (record { number = number; place = place; stamp = stamp; what = it }) ∷ l) rest.is;
      number_is = rest.number_is;
      stamp_is = rest.stamp_is;
    }

last_item : (before : Catalog) (d : Stored) (cs : Catalog) → MayFollow before (d ∷ cs) → EndsWith (all_placed (d ∷ cs)) (length before + length (d ∷ cs)) (newest (d ∷ cs))
last_item before d [] follows =
    let own = last_from d.commit.number d.commit.stamp 0 d.commit.items follows.0.some in
    record { front = own.front; last = own.last; is = append-nil (placed_of d) ∙ own.is; number_is = own.number_is ∙ follows.0.number; stamp_is = own.stamp_is }
last_item before d (next ∷ cs) follows =
    let rest = last_item (before ++ d ∷ []) next cs follows.1 in
    let longer : length (before ++ d ∷ []) ≡ length before + 1 = length-append before (d ∷ []) in
    record {
      front = placed_of d ++ rest.front;
      last = rest.last;
      is = ap (λ (l : List Placed). placed_of d ++ l) rest.is ∙ sym (append_assoc (placed_of d) rest.front (rest.last ∷ []));
      number_is = omega (arith, rest.number_is, longer);
      stamp_is = rest.stamp_is;
    }

last_get : (us : List Row) (z : Row) → slice_get (us ++ z ∷ []) (length us) ≡ Some z
last_get [] z = refl
last_get (u ∷ us) z = last_get us z

-- where the catalog goes on behind c, the last row behind c is that of its last item
ends_above : (c : ℕ) (d : Stored) (cs : Catalog) → MayFollow [] (d ∷ cs) → c < length (d ∷ cs) → (us : List Row) × (z : Row) × (map placed_row (placed_after c (d ∷ cs)) ≡ us ++ z ∷ []) × (z.number ≡ length (d ∷ cs)) × (z.stamp ≡ newest (d ∷ cs))
ends_above c d cs follows more =
    let last = last_item [] d cs follows in
    let number : last.last.number ≡ length (d ∷ cs) = omega (arith, last.number_is) in
    let high : is_behind c last.last ≡ true = lt-ltb c last.last.number (omega (arith, number, more)) in (
      map placed_row (filter (is_behind c) last.front),
      placed_row last.last,
      ap (map placed_row) (ap (filter (is_behind c)) last.is ∙ filter_joined (is_behind c) last.front (last.last ∷ []) ∙ ap (λ (b : Bool). filter (is_behind c) last.front ++ cond b (last.last ∷ []) []) high)
          ∙ map-append placed_row (filter (is_behind c) last.front) (last.last ∷ []),
      number,
      last.stamp_is,
    )

-- what the last row behind a commit tells
pub record TellsEnd (c : ℕ) (cs : Catalog) (row : Row) : Type 0 where
  pub behind : c < length cs
  pub number_is : row.number ≡ length cs
  pub stamp_is : row.stamp ≡ newest cs

pub end_told : (c : ℕ) (cs : Catalog) (rows : List Row) (row : Row) → MayFollow [] cs → rows ≡ rows_above c (all_rows cs) → Some row ≡ slice_get rows (length rows - 1) → TellsEnd c cs row
end_told c [] rows row follows same is = absurd (let no : ⊥ = cc (ap (λ (l : List Row). slice_get l (length l - 1)) same) in no)
end_told c (d ∷ cs) rows row follows same is = elim (cases_lt c (length (d ∷ cs))) [
  | inl more ↦
      let (us, z, ends, number, stamp) = ends_above c d cs follows more in
      let all : rows ≡ us ++ z ∷ [] = same ∙ rows_are c (d ∷ cs) ∙ ends in
      let long : length rows - 1 ≡ length us = (let sum : length rows ≡ length us + 1 = ap (λ (l : List Row). length l) all ∙ length-append us (z ∷ []) in omega (arith, sum)) in
      let here : Some row ≡ Some z = is ∙ ap₂ (λ (l : List Row) (n : ℕ). slice_get l n) all long ∙ last_get us z in
      let this : row ≡ z = cc in
      record { behind = more; number_is = ap (λ (r : Row). r.number) this ∙ number; stamp_is = ap (λ (r : Row). r.stamp) this ∙ stamp }
  | inr low ↦
      let none : rows ≡ [] = same ∙ rows_are c (d ∷ cs) ∙ ap (map placed_row) (none_behind c [] (d ∷ cs) follows (omega (arith, low))) in
      let no : Some row ≡ None = is ∙ ap (λ (l : List Row). slice_get l (length l - 1)) none in
      absurd (let false_is : ⊥ = cc in false_is)
]

nothing : (rows : List Row) → None ≡ slice_get rows (length rows - 1) → rows ≡ []
nothing [] is = refl
nothing (row ∷ rows) is = absurd (some rows row (subst (λ (n : ℕ). None ≡ slice_get (row ∷ rows) n) (omega arith) is))
  where
    some : (l : List Row) (r : Row) → None ≡ slice_get (r ∷ l) (length l) → ⊥
    some [] r e = cc
    some (x ∷ l) r e = some l x e

-- no row stands behind a commit: the catalog doesn't go on
pub no_row : (c : ℕ) (cs : Catalog) (rows : List Row) → MayFollow [] cs → rows ≡ rows_above c (all_rows cs) → None ≡ slice_get rows (length rows - 1) → length cs ≤ c
no_row c [] rows follows same none = omega arith
no_row c (d ∷ cs) rows follows same none = elim (cases_lt c (length (d ∷ cs))) [
  | inl more ↦
      let (us, z, ends, number, stamp) = ends_above c d cs follows more in
      let all : us ++ z ∷ [] ≡ [] = sym (same ∙ rows_are c (d ∷ cs) ∙ ends) ∙ nothing rows none in
      let sum : length us + 1 ≡ 0 = sym (length-append us (z ∷ [])) ∙ ap (λ (l : List Row). length l) all in
      absurd (omega (arith, sum))
  | inr low ↦ low
]
