-- The publishes that the entries of a lawful catalog are of stand in it.
use Rattle.std.proofs.Common.{◌≡◌, ◌+◌, ℕ, suc, List, [], ◌∷◌, ◌++◌, length, Bool, true, false, cond, ◌&&◌, ◌||◌, Option, Some, None, IfSome, IsSome, refl, sym, ◌∙◌, ap, subst, append_assoc, append-nil, length-append, arith}
use Rattle.std.proofs.lemmas.Bool.Decides.{nat_tests}
use Rattle.std.proofs.lemmas.Grind.{flat_map-append}
use Rattle.std.proofs.lemmas.List.Folds.{flat_map-map}
use Rattle.std.specs.List.{AllByRecursion, filter, list_any, slice_get}
use Rattle.std.specs.Option.{option_and_then, option_map}
use Rattle.std.specs.Prelude.{flat_map, ◌==◌}
use Rattle.pkg_meta.specs.Catalog.{Catalog}
use Rattle.pkg_meta.specs.declared.commit.Staged.{Staged}
use Rattle.pkg_meta.specs.declared.commit.Stored.{Stored}
use Rattle.pkg_meta.specs.Lawful.{AreLawfulItems, IsLawfulItem, IsNext, IsOfDetails, MayFollow, Placed, all_placed, has_pair, last_like, last_of, or_earlier, placed_from, placed_of}
use Rattle.pkg_meta.specs.declared.entry.Entry.{Entry}
use Rattle.pkg_meta.specs.declared.item.Details.{Details}
use Rattle.pkg_meta.specs.declared.item.Item.{Item}
use Rattle.pkg_meta.specs.declared.item.Item.TheVariants as the
use Rattle.fold_core.specs.Docs.{brought_at, brought_in, body_bytes, part}
use Rattle.fold_core.specs.Entries.{Keeps, entries_of, entry_at}
use Rattle.fold_core.specs.Items.{commits_of, is_of, items_in, items_of}
use Rattle.fold_core.specs.Laws.{IsOfEntry, has_origin}
use Rattle.fold_core.specs.declared.doc.Body.{Body}
use Rattle.fold_core.specs.declared.doc.Body.TheVariants.{Made, Staged as FromPublish}
use Rattle.fold_core.proofs.Rising.{all_joined, entries_all}

-- the catalog has a publish at this number and place
abbrev pub IsThere : Catalog → ℕ → ℕ → Type 0
IsThere cs number place = IsSome (brought_at cs number place)

-- it has the item's publish
abbrev HasOrigin : Catalog → Item → Type 0
HasOrigin cs (the.Details d) = IsThere cs d.origin_number d.origin_place
HasOrigin cs (the.Gone i v) = Unit {0}

abbrev HaveOrigins : Catalog → List Placed → Type 0
HaveOrigins cs xs = AllByRecursion (λ (x : Placed). HasOrigin cs x.what) xs

none_some : (P : Type 0) → false ≡ true → P
none_some P some = absurd (let no : ⊥ = cc in no)

first_test : (x y : ℕ) (b : Bool) → ((x == y) && b) ≡ true → x ≡ y
first_test x y b e = grind (arith, nat_tests)

second_test : (x y : ℕ) (b : Bool) → (b && (x == y)) ≡ true → x ≡ y
second_test x y true e = grind (arith, nat_tests)
second_test x y false e = cc

skipped : (a b : Bool) → a ≡ false → (a || b) ≡ true → b ≡ true
skipped true b e is = cc
skipped false b e is = is

mapped : {X Y : Type 0} (f : X → Y) (o : Option X) → IsSome o → IsSome (option_map f o)
mapped f None some = none_some (IsSome (option_map f None)) some
mapped f (Some x) some = refl

module _ (cs : Catalog) where
  abbrev pub AreThere : List Entry → Type 0
  AreThere es = AllByRecursion (λ (e : Entry). IsThere cs e.details.origin_number e.details.origin_place) es

  -- what holds of each item holds of a version's last
  either : (o p : Option Placed) → IfSome o (λ (x : Placed). HasOrigin cs x.what) → IfSome p (λ (x : Placed). HasOrigin cs x.what) → IfSome (or_earlier o p) (λ (x : Placed). HasOrigin cs x.what)
  either None p h k = k
  either (Some x) p h k = h

  if_pair : (b : Bool) (x : Placed) → HasOrigin cs x.what → IfSome (cond b (Some x) None) (λ (y : Placed). HasOrigin cs y.what)
  if_pair true x h = h
  if_pair false x h = tt

  last_has : (id version : List ℕ) (xs : List Placed) → HaveOrigins cs xs → IfSome (last_of id version xs) (λ (x : Placed). HasOrigin cs x.what)
  last_has id version [] all = tt
  last_has id version (x ∷ xs) all =
      either (last_of id version xs) (cond (has_pair id version x.what) (Some x) None) (last_has id version xs all.1) (if_pair (has_pair id version x.what) x all.0)

  of_details : (o : Option Placed) (d : Details) → IfSome o (λ (x : Placed). HasOrigin cs x.what) → IsOfDetails o d → IsThere cs d.origin_number d.origin_place
  of_details None d has is = absurd is
  of_details (Some x) d has is = subst (HasOrigin cs) is has

  -- the items of a commit that stands in the catalog behind so many others
  module _ (before : List Placed) (n stamp : ℕ) (c : Stored) (at : slice_get cs n ≡ Some c) where
    publish_there : (place : ℕ) (brought : Staged) → slice_get c.staged place ≡ Some (Some brought) → IsThere cs (suc n) place
    publish_there place brought is =
        subst (λ (o : Option Stored). IsSome (option_and_then (brought_in place) o)) (sym at)
        (subst (λ (o : Option (Option Staged)). IsSome (option_and_then (λ (s : Option Staged). s) o)) (sym is) refl)

    item_there : (place : ℕ) (it : Item) (s : Option Staged) → HaveOrigins cs before → slice_get c.staged place ≡ Some s → IsLawfulItem before (suc n) stamp place it s → HasOrigin cs it
    item_there place (the.Details d) (Some brought) all is lawful =
        let number : d.origin_number ≡ suc n = ap (λ (e : Details). e.origin_number) lawful.itself in
        let own : d.origin_place ≡ place = ap (λ (e : Details). e.origin_place) lawful.itself in
        subst (λ (k : ℕ). IsThere cs k d.origin_place) (sym number) (subst (IsThere cs (suc n)) (sym own) (publish_there place brought is))
    item_there place (the.Details d) None all is (was, same, last) =
        let number : was.origin_number ≡ d.origin_number = sym (ap (λ (e : Details). e.origin_number) same) in
        let own : was.origin_place ≡ d.origin_place = sym (ap (λ (e : Details). e.origin_place) same) in
        subst (λ (k : ℕ). IsThere cs k d.origin_place) number (subst (IsThere cs was.origin_number) own
        (of_details (last_like (the.Details d) before) was (last_has _ _ before all) last))
    item_there place (the.Gone i v) s all is lawful = tt

    items_there : (place : ℕ) (items : List Item) (staged : List (Option Staged)) → HaveOrigins cs before
        → ((k : ℕ) (s : Option Staged) → slice_get staged k ≡ Some s → slice_get c.staged (place + k) ≡ Some s)
        → AreLawfulItems before (suc n) stamp place items staged → HaveOrigins cs (placed_from (suc n) stamp place items)
    items_there place [] staged all stands lawful = tt
    items_there place (it ∷ items) [] all stands lawful = absurd lawful
    items_there place (it ∷ items) (s ∷ staged) all stands lawful =
        let here : place + 0 ≡ place = omega arith in (
          item_there place it s all (subst (λ (k : ℕ). slice_get c.staged k ≡ Some s) here (stands 0 s refl)) lawful.0,
          items_there (suc place) items staged all
              (λ k x is. let next : place + suc k ≡ suc place + k = omega arith in subst (λ (j : ℕ). slice_get c.staged j ≡ Some x) next (stands (suc k) x is)) lawful.1,
        )

  next_there : (before : Catalog) (c : Stored) → HaveOrigins cs (all_placed before) → slice_get cs (length before) ≡ Some c → IsNext before c → HaveOrigins cs (all_placed (before ++ c ∷ []))
  next_there before c all at next =
      let number : c.commit.number ≡ suc (length before) = omega (arith, next.number) in
      subst (HaveOrigins cs) (sym (flat_map-append placed_of before (c ∷ []) ∙ ap (λ (l : List Placed). all_placed before ++ l) (append-nil (placed_of c))))
      (all_joined (λ (x : Placed). HasOrigin cs x.what) (all_placed before) (placed_of c) all
      (subst (λ (n : ℕ). HaveOrigins cs (placed_from n c.commit.stamp 0 c.commit.items)) (sym number)
      (items_there (all_placed before) (length before) c.commit.stamp c at 0 c.commit.items c.staged all (λ k s is. let same : 0 + k ≡ k = omega arith in subst (λ (j : ℕ). slice_get c.staged j ≡ Some s) (sym same) is)
      (subst (λ (n : ℕ). AreLawfulItems (all_placed before) n c.commit.stamp 0 c.commit.items c.staged) number next.items))))

  grown : (before rest : Catalog) → ((k : ℕ) (c : Stored) → slice_get rest k ≡ Some c → slice_get cs (length before + k) ≡ Some c) → HaveOrigins cs (all_placed before) → MayFollow before rest
      → HaveOrigins cs (all_placed (before ++ rest))
  grown before [] stands all follows = subst (λ (l : Catalog). HaveOrigins cs (all_placed l)) (sym (append-nil before)) all
  grown before (c ∷ rest) stands all follows =
      let here : length before + 0 ≡ length before = omega arith in
      let longer : length (before ++ c ∷ []) ≡ length before + 1 = length-append before (c ∷ []) in
      subst (λ (l : Catalog). HaveOrigins cs (all_placed l)) (append_assoc before (c ∷ []) rest)
      (grown (before ++ c ∷ []) rest (λ k d is. let next : length before + suc k ≡ length (before ++ c ∷ []) + k = omega (arith, longer) in subst (λ (j : ℕ). slice_get cs j ≡ Some d) next (stands (suc k) d is))
      (next_there before c all (subst (λ (j : ℕ). slice_get cs j ≡ Some c) here (stands 0 c refl)) follows.0) follows.1)

  all_origins : MayFollow [] cs → HaveOrigins cs (all_placed cs)
  all_origins follows = grown [] cs (λ k c is. let same : 0 + k ≡ k = omega arith in subst (λ (j : ℕ). slice_get cs j ≡ Some c) (sym same) is) tt follows

  filter_all : (p : Placed → Bool) (xs : List Placed) → HaveOrigins cs xs → HaveOrigins cs (filter p xs)
  filter_all p [] all = tt
  filter_all p (x ∷ xs) all =
      elim (p x) as (λ (b : Bool). HaveOrigins cs (cond b (x ∷ filter p xs) (filter p xs))) [
        | true ↦ (all.0, filter_all p xs all.1)
        | false ↦ filter_all p xs all.1
      ]

  kept : (keeps : Keeps) (number place : ℕ) (it : Item) → HasOrigin cs it
      → IfSome (entry_at keeps number place it) (λ (e : Entry). IsThere cs e.details.origin_number e.details.origin_place)
  kept keeps number place (the.Details d) there =
      elim (keeps d) as (λ (b : Bool). IfSome (cond b (Some (record { number = number; place = place; details = d })) None) (λ (e : Entry). IsThere cs e.details.origin_number e.details.origin_place)) [
        | true ↦ there
        | false ↦ tt
      ]
  kept keeps number place (the.Gone i v) there = tt

  -- each entry of an id
  pub entries_there : (keeps : Keeps) (key : List ℕ) → MayFollow [] cs → AreThere (entries_of keeps (items_of (commits_of cs) key))
  entries_there keeps key follows =
      entries_all (λ (x : Placed). HasOrigin cs x.what) keeps (λ (e : Entry). IsThere cs e.details.origin_number e.details.origin_place)
      (λ x there. kept keeps x.number x.place x.what there) (items_of (commits_of cs) key)
      (filter_all (λ (x : Placed). is_of key x.what) (flat_map items_in (commits_of cs))
      (subst (HaveOrigins cs) (sym (flat_map-map items_in (λ (c : Stored). c.commit) cs)) (all_origins follows)))

  any_there : (n p : ℕ) (es : List Entry) → AreThere es → list_any (has_origin n p) es ≡ true → IsThere cs n p
  any_there n p [] all is = cc
  any_there n p (e ∷ es) all is =
      elim (has_origin n p e) as (λ (b : Bool). has_origin n p e ≡ b → IsThere cs n p) [
        | true ↦ λ here. subst (λ (k : ℕ). IsThere cs k p) (first_test e.details.origin_number n (e.details.origin_place == p) here)
            (subst (λ (k : ℕ). IsThere cs e.details.origin_number k) (second_test e.details.origin_place p (e.details.origin_number == n) here) all.0)
        | false ↦ λ here. any_there n p es all.1 (skipped (has_origin n p e) (list_any (has_origin n p) es) here is)
      ] refl

  -- a body that is of one of the entries has bytes
  pub body_there : (es : List Entry) (body : Body) → AreThere es → IsOfEntry es body → IsSome (body_bytes cs body)
  body_there es (Made bytes) all is = refl
  body_there es (FromPublish n p nuspec) all is = mapped (part nuspec) (brought_at cs n p) (any_there n p es all is)
