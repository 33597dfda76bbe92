-- The items of an id, commit by commit and item by item.
use Rattle.std.proofs.Common.{◌≡◌, ◌<◌, ◌≤◌, ℕ, suc, ◌+◌, get_or, List, [], ◌∷◌, ◌++◌, length, take, Bool, true, false, cond, refl, sym, ap, ◌∙◌, append_assoc, arith}
use Rattle.std.proofs.lemmas.Grind.{flat_map-append}
use Rattle.std.proofs.lemmas.List.{append-nil, length-take-le, take_all, take_more}
use Rattle.std.specs.List.{filter}
use Rattle.std.specs.Prelude.{flat_map}
use Rattle.pkg_meta.specs.Items.{version_of}
use Rattle.pkg_meta.specs.Lawful.{Placed, placed_from}
use Rattle.pkg_meta.specs.declared.commit.Commit.{Commit}
use Rattle.pkg_meta.specs.declared.item.Item.{Item}
use Rattle.fold_core.specs.Entries.{Keeps, entries_of, entry_of}
use Rattle.fold_core.specs.Places.{replaced}
use Rattle.fold_core.specs.Items.{is_of, items_in, items_in_of, items_of}
use Rattle.pkg_meta.specs.declared.entry.Entry.{Entry}
use Rattle.fold_core.proofs.Applied.{entries_step}

pub filter_joined : (p : Placed → Bool) (xs ys : List Placed) → filter p (xs ++ ys) ≡ filter p xs ++ filter p ys
filter_joined p [] ys = refl
filter_joined p (x ∷ xs) ys =
    elim (p x) as (λ (b : Bool). cond b (x ∷ filter p (xs ++ ys)) (filter p (xs ++ ys)) ≡ cond b (x ∷ filter p xs) (filter p xs) ++ filter p ys) [
      | true ↦ ap (λ (l : List Placed). x ∷ l) (filter_joined p xs ys)
      | false ↦ filter_joined p xs ys
    ]

pub placed_joined : (number stamp place : ℕ) (xs ys : List Item)
    → placed_from number stamp place (xs ++ ys) ≡ placed_from number stamp place xs ++ placed_from number stamp (place + length xs) ys
placed_joined number stamp place [] ys = ap (λ (p : ℕ). placed_from number stamp p ys) (let e : place ≡ place + 0 = omega arith in e)
placed_joined number stamp place (x ∷ xs) ys =
    ap (λ (l : List Placed). record { number = number; place = place; stamp = stamp; what = x } ∷ l)
    (placed_joined number stamp (suc place) xs ys
    ∙ ap (λ (p : ℕ). placed_from number stamp (suc place) xs ++ placed_from number stamp p ys) (let e : suc place + length xs ≡ place + suc (length xs) = omega arith in e))

pub in_of_joined : (key : List ℕ) (number stamp place : ℕ) (xs ys : List Item)
    → items_in_of key number stamp place (xs ++ ys) ≡ items_in_of key number stamp place xs ++ items_in_of key number stamp (place + length xs) ys
in_of_joined key number stamp place xs ys =
    ap (filter (λ (x : Placed). is_of key x.what)) (placed_joined number stamp place xs ys)
    ∙ filter_joined (λ (x : Placed). is_of key x.what) (placed_from number stamp place xs) (placed_from number stamp (place + length xs) ys)

-- a commit more
pub items_joined : (cs ds : List Commit) (key : List ℕ) → items_of (cs ++ ds) key ≡ items_of cs key ++ items_of ds key
items_joined cs ds key =
    ap (filter (λ (x : Placed). is_of key x.what)) (flat_map-append items_in cs ds)
    ∙ filter_joined (λ (x : Placed). is_of key x.what) (flat_map items_in cs) (flat_map items_in ds)

pub items_one : (c : Commit) (key : List ℕ) → items_of (c ∷ []) key ≡ items_in_of key c.number c.stamp 0 c.items
items_one c key = ap (filter (λ (x : Placed). is_of key x.what)) (append-nil (items_in c))

-- an item of the id is applied, and one of another isn't
pub applied_one : (keeps : Keeps) (before : List Placed) (key : List ℕ) (x : Placed) (old new : List Entry) → is_of key x.what ≡ true
    → old ≡ entries_of keeps before → new ≡ replaced (version_of x.what) (entry_of keeps x) old
    → new ≡ entries_of keeps (before ++ cond (is_of key x.what) (x ∷ []) [])
applied_one keeps before key x old new is were applied =
    applied ∙ ap (replaced (version_of x.what) (entry_of keeps x)) were ∙ sym (entries_step keeps before x)
    ∙ ap (λ (b : Bool). entries_of keeps (before ++ cond b (x ∷ []) [])) (sym is)

pub passed_one : (keeps : Keeps) (before : List Placed) (key : List ℕ) (x : Placed) (old : List Entry) → is_of key x.what ≡ false
    → old ≡ entries_of keeps before → old ≡ entries_of keeps (before ++ cond (is_of key x.what) (x ∷ []) [])
passed_one keeps before key x old is were =
    were ∙ ap (entries_of keeps) (sym (append-nil before)) ∙ ap (λ (b : Bool). entries_of keeps (before ++ cond b (x ∷ []) [])) (sym is)

-- one more of a commit's items
pub items_turn : (keeps : Keeps) (before : List Placed) (key : List ℕ) (number stamp : ℕ) (items : List Item) (it : Item) (i at : ℕ) (new : List Entry)
    → at ≡ i → i < length items → it ≡ get_or items i it
    → new ≡ entries_of keeps ((before ++ items_in_of key number stamp 0 (take i items)) ++ items_in_of key number stamp at (it ∷ []))
    → new ≡ entries_of keeps (before ++ items_in_of key number stamp 0 (take (i + 1) items))
items_turn keeps before key number stamp items it i at new here lt is e =
    let len : 0 + length (take i items) ≡ i = omega (arith, length-take-le i items (omega arith)) in
    let taken : take (i + 1) items ≡ take i items ++ it ∷ [] = take_more items i it lt ∙ ap (λ (y : Item). take i items ++ y ∷ []) (sym is) in
    let joined : items_in_of key number stamp 0 (take (i + 1) items) ≡ items_in_of key number stamp 0 (take i items) ++ items_in_of key number stamp i (it ∷ [])
    = ap (items_in_of key number stamp 0) taken ∙ in_of_joined key number stamp 0 (take i items) (it ∷ [])
    ∙ ap (λ (p : ℕ). items_in_of key number stamp 0 (take i items) ++ items_in_of key number stamp p (it ∷ [])) len in
    e ∙ ap (λ (n : ℕ). entries_of keeps ((before ++ items_in_of key number stamp 0 (take i items)) ++ items_in_of key number stamp n (it ∷ []))) here
    ∙ ap (entries_of keeps) (append_assoc before (items_in_of key number stamp 0 (take i items)) (items_in_of key number stamp i (it ∷ []))
    ∙ ap (λ (l : List Placed). before ++ l) (sym joined))

-- one commit more
pub commits_turn : (keeps : Keeps) (key : List ℕ) (commits : List Commit) (c : Commit) (i : ℕ) (new : List Entry)
    → i < length commits → c ≡ get_or commits i c → new ≡ entries_of keeps (items_of (take i commits ++ c ∷ []) key)
    → new ≡ entries_of keeps (items_of (take (i + 1) commits) key)
commits_turn keeps key commits c i new lt is e =
    let taken : take (i + 1) commits ≡ take i commits ++ c ∷ [] = take_more commits i c lt ∙ ap (λ (d : Commit). take i commits ++ d ∷ []) (sym is) in
    e ∙ ap (λ (l : List Commit). entries_of keeps (items_of l key)) (sym taken)

-- all of a commit's items
pub commit_done : (keeps : Keeps) (before : List Commit) (key : List ℕ) (c : Commit) (n : ℕ) (new : List Entry) → length c.items ≤ n
    → new ≡ entries_of keeps (items_of before key ++ items_in_of key c.number c.stamp 0 (take n c.items))
    → new ≡ entries_of keeps (items_of (before ++ c ∷ []) key)
commit_done keeps before key c n new all e =
    e ∙ ap (λ (l : List Item). entries_of keeps (items_of before key ++ items_in_of key c.number c.stamp 0 l)) (take_all n c.items all)
    ∙ ap (λ (l : List Placed). entries_of keeps (items_of before key ++ l)) (sym (items_one c key))
    ∙ ap (entries_of keeps) (sym (items_joined before (c ∷ []) key))
