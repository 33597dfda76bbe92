-- How many live versions an id has after one item more.
use Rattle.std.proofs.Common.{◌≡◌, ◌≤◌, ◌+◌, ℕ, List, [], ◌∷◌, ◌++◌, Bool, true, false, not, refl, sym, ◌∙◌, ap, subst, arith}
use Rattle.std.specs.Prelude.{if◌then◌else◌, ◌&&◌, ◌||◌}
use Rattle.std.specs.Str.{bytes_eq}
use Rattle.nuget_version.specs.Printed.{key_text}
use Rattle.pkg_meta.specs.Items.{id_of, is_gone, version_of}
use Rattle.pkg_meta.specs.Lawful.{has_like, has_pair}
use Rattle.pkg_meta.specs.declared.item.Item.{Item}
use Rattle.catalog_doc.specs.Catalogs.{is_live, live_count}

pub has_like-append : (it : Item) (xs ys : List Item) → has_like it (xs ++ ys) ≡ (has_like it xs || has_like it ys)
has_like-append it [] ys = refl
has_like-append it (x ∷ xs) ys = ap (λ (b : Bool). has_pair (id_of it).key (key_text (version_of it)) x || b) (has_like-append it xs ys)
    ∙ regroup (has_pair (id_of it).key (key_text (version_of it)) x) (has_like it xs) (has_like it ys)
  where
    regroup : (a b c : Bool) → (a || (b || c)) ≡ ((a || b) || c)
    regroup true b c = refl
    regroup false b c = refl

-- one where it holds
abbrev pub one_if : Bool → ℕ
one_if b = if b then 1 else 0

fewer : (own gone like more : Bool) → one_if (own && (not gone && not (like || more))) ≤ one_if (own && (not gone && not like))
fewer false gone like more = omega arith
fewer true true like more = omega arith
fewer true false true more = omega arith
fewer true false false true = omega arith
fewer true false false false = omega arith

-- an item isn't live again by one more behind it
live_before : (id : List ℕ) (x : Item) (xs : List Item) (y : Item) → one_if (is_live id x (xs ++ y ∷ [])) ≤ one_if (is_live id x xs)
live_before id x xs y = subst
    (λ (b : Bool). one_if (bytes_eq id (id_of x).key && (not (is_gone x) && not b)) ≤ one_if (is_live id x xs))
    (sym (has_like-append x xs (y ∷ [])))
    (fewer (bytes_eq id (id_of x).key) (is_gone x) (has_like x xs) (has_like x (y ∷ [])))

-- at most that item is live more
pub live_more : (id : List ℕ) (xs : List Item) (y : Item) → live_count id (xs ++ y ∷ []) ≤ live_count id xs + one_if (is_live id y [])
live_more id [] y = omega arith
live_more id (x ∷ xs) y =
    let own = live_before id x xs y in
    let rest = live_more id xs y in
    omega (arith, own, rest)

in_place : (own old_gone new_gone like covered : Bool) → old_gone ≡ false → like ≡ false → covered ≡ true
    → one_if (own && (not old_gone && not (like || covered))) + one_if (own && (not new_gone && true)) ≤ one_if (own && (not old_gone && not like))
in_place false old_gone new_gone like covered kept new covers = omega arith
in_place true true new_gone like covered kept new covers = cc
in_place true false new_gone true covered kept new covers = cc
in_place true false new_gone false false kept new covers = cc
in_place true false true false true kept new covers = omega arith
in_place true false false false true kept new covers = omega arith

-- an item in the place of a live one of its version leaves their number
pub live_replaced : (id : List ℕ) (before after : List Item) (x y : Item) → (id_of x).key ≡ (id_of y).key → key_text (version_of x) ≡ key_text (version_of y)
    → is_gone x ≡ false → has_like x after ≡ false → has_like x (y ∷ []) ≡ true
    → live_count id ((before ++ x ∷ after) ++ y ∷ []) ≤ live_count id (before ++ x ∷ after)
live_replaced id [] after x y same_id same_version kept new covers =
    let rest = live_more id after y in
    let swap : one_if (is_live id x (after ++ y ∷ [])) + one_if (is_live id y []) ≤ one_if (is_live id x after) = subst
    (λ (key : List ℕ). one_if (is_live id x (after ++ y ∷ [])) + one_if (bytes_eq id key && (not (is_gone y) && true)) ≤ one_if (is_live id x after)) same_id
    (subst
    (λ (b : Bool). one_if (bytes_eq id (id_of x).key && (not (is_gone x) && not b)) + one_if (bytes_eq id (id_of x).key && (not (is_gone y) && true))
    ≤ one_if (is_live id x after))
    (sym (has_like-append x after (y ∷ [])))
    (in_place (bytes_eq id (id_of x).key) (is_gone x) (is_gone y) (has_like x after) (has_like x (y ∷ [])) kept new covers)) in
    omega (arith, rest, swap)
live_replaced id (z ∷ before) after x y same_id same_version kept new covers =
    let own = live_before id z (before ++ x ∷ after) y in
    let rest = live_replaced id before after x y same_id same_version kept new covers in
    omega (arith, own, rest)
