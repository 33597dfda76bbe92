-- In a lawful catalog the number of the last commit with an item of an id is that of the id's last item.
use Rattle.std.proofs.Common.{◌≡◌, ◌<◌, ◌+◌, ℕ, zero, suc, List, [], ◌∷◌, ◌++◌, length, Bool, true, false, cond, ◌||◌, Option, Some, None, refl, sym, ap, ◌∙◌, subst, arith}
use Rattle.std.proofs.lemmas.List.{length-append}
use Rattle.std.specs.List.{list_any}
use Rattle.std.specs.Option.{MatchOption}
use Rattle.pkg_meta.specs.Catalog.{Catalog}
use Rattle.pkg_meta.specs.Lawful.{IsLawful, MayFollow, Placed, or_earlier}
use Rattle.pkg_meta.specs.declared.commit.Commit.{Commit}
use Rattle.pkg_meta.specs.declared.item.Item.{Item}
use Rattle.fold_core.specs.Items.{commits_of, counted, has_item, is_of, items_in_of, items_of, last_placed, moment_in, number_in, stamp_at, touched, touched_stamp}
use Rattle.fold_core.proofs.Gathered.{items_joined, items_one}

-- commits with the numbers above this one
abbrev AreNumbered : ℕ → List Commit → Type 0
AreNumbered n [] = Unit {0}
AreNumbered n (c ∷ cs) = (c.number ≡ n + 1) × AreNumbered (n + 1) cs

follow_numbered : (before cs : Catalog) → MayFollow before cs → AreNumbered (length before) (commits_of cs)
follow_numbered before [] follow = tt
follow_numbered before (c ∷ cs) follow =
    (follow.0.number, subst (λ (n : ℕ). AreNumbered n (commits_of cs)) (length-append before (c ∷ [])) (follow_numbered (before ++ c ∷ []) cs follow.1))

or_none : (o : Option Placed) → or_earlier o None ≡ o
or_none None = refl
or_none (Some x) = refl

or_or : (o p q : Option Placed) → or_earlier o (or_earlier p q) ≡ or_earlier (or_earlier o p) q
or_or None p q = refl
or_or (Some x) p q = refl

last_joined : (xs ys : List Placed) → last_placed (xs ++ ys) ≡ or_earlier (last_placed ys) (last_placed xs)
last_joined [] ys = sym (or_none (last_placed ys))
last_joined (x ∷ xs) ys =
    ap (λ (o : Option Placed). or_earlier o (Some x)) (last_joined xs ys) ∙ sym (or_or (last_placed ys) (last_placed xs) (Some x))

-- what is told of the last item of a commit of this number and stamp, where it has one or not
abbrev Tells : ℕ → ℕ → Bool → Option Placed → Type 0
Tells n s b o = MatchOption o (b ≡ false) (λ (x : Placed). (x.number ≡ n) × ((x.stamp ≡ s) × (b ≡ true)))

here : (n s : ℕ) (b : Bool) (o : Option Placed) (x : Placed) → x.number ≡ n → x.stamp ≡ s → Tells n s b o → Tells n s true (or_earlier o (Some x))
here n s b None x e f h = (e, (f, refl))
here n s b (Some y) x e f h = (h.0, (h.1.0, refl))

told : (key : List ℕ) (number stamp place : ℕ) (items : List Item) → Tells number stamp (list_any (is_of key) items) (last_placed (items_in_of key number stamp place items))
told key number stamp place [] = refl
told key number stamp place (it ∷ items) =
    let x : Placed = record { number = number; place = place; stamp = stamp; what = it } in
    let later : Tells number stamp (list_any (is_of key) items) (last_placed (items_in_of key number stamp (suc place) items)) = told key number stamp (suc place) items in
    elim (is_of key it) as (λ (b : Bool). Tells number stamp (b || list_any (is_of key) items)
    (last_placed (cond b (x ∷ items_in_of key number stamp (suc place) items) (items_in_of key number stamp (suc place) items)))) [
      | true ↦ here number stamp (list_any (is_of key) items) (last_placed (items_in_of key number stamp (suc place) items)) x refl refl later
      | false ↦ later
    ]

-- what is told of the last item of an id
abbrev IsLast : ℕ → List Commit → ℕ → Option Placed → Type 0
IsLast n cs t o = MatchOption o (t ≡ 0) (λ (x : Placed). (x.number ≡ n + t) × ((x.stamp ≡ stamp_at cs t) × (0 < t)))

joined : (n : ℕ) (c : Commit) (cs : List Commit) (b : Bool) (t : ℕ) (later own : Option Placed) → c.number ≡ n + 1
    → IsLast (n + 1) cs t later → Tells c.number c.stamp b own → IsLast n (c ∷ cs) (counted b t) (or_earlier later own)
joined n c cs b zero (Some x) own e last tells = absurd (omega (arith, last.1.1))
joined n c cs b (suc t) (Some x) own e last tells = (omega (arith, last.0), (last.1.0, omega arith))
joined n c cs b (suc t) None own e last tells = absurd (omega (arith, last))
joined n c cs true zero None (Some x) e last tells = (omega (arith, tells.0, e), (tells.1.0, omega arith))
joined n c cs false zero None (Some x) e last tells = cc
joined n c cs true zero None None e last tells = cc
joined n c cs false zero None None e last tells = refl

last_number : (n : ℕ) (cs : List Commit) (key : List ℕ) → AreNumbered n cs → IsLast n cs (touched cs key) (last_placed (items_of cs key))
last_number n [] key numbered = refl
last_number n (c ∷ cs) key numbered =
    subst (IsLast n (c ∷ cs) (touched (c ∷ cs) key))
    (sym (ap last_placed (items_joined (c ∷ []) cs key ∙ ap (λ (l : List Placed). l ++ items_of cs key) (items_one c key))
    ∙ last_joined (items_in_of key c.number c.stamp 0 c.items) (items_of cs key)))
    (joined n c cs (has_item c key) (touched cs key) (last_placed (items_of cs key)) (last_placed (items_in_of key c.number c.stamp 0 c.items)) numbered.0
    (last_number (n + 1) cs key numbered.1) (told key c.number c.stamp 0 c.items))

lawful_last : (cs : Catalog) (key : List ℕ) → IsLawful cs → IsLast 0 (commits_of cs) (touched (commits_of cs) key) (last_placed (items_of (commits_of cs) key))
lawful_last cs key lawful = last_number 0 (commits_of cs) key (follow_numbered [] cs lawful.commits)

number_from : (cs : List Commit) (t : ℕ) (o : Option Placed) → IsLast 0 cs t o → t ≡ number_in o
number_from cs t None last = last
number_from cs t (Some x) last = omega (arith, last.0)

stamp_from : (cs : List Commit) (t : ℕ) (o : Option Placed) → IsLast 0 cs t o → stamp_at cs t ≡ moment_in o
stamp_from cs t None last = ap (stamp_at cs) last
stamp_from cs t (Some x) last = sym last.1.0

pub number_is_last : (cs : Catalog) (key : List ℕ) → IsLawful cs → touched (commits_of cs) key ≡ number_in (last_placed (items_of (commits_of cs) key))
number_is_last cs key lawful = number_from (commits_of cs) (touched (commits_of cs) key) _ (lawful_last cs key lawful)

pub stamp_is_last : (cs : Catalog) (key : List ℕ) → IsLawful cs → touched_stamp (commits_of cs) key ≡ moment_in (last_placed (items_of (commits_of cs) key))
stamp_is_last cs key lawful = stamp_from (commits_of cs) (touched (commits_of cs) key) _ (lawful_last cs key lawful)
