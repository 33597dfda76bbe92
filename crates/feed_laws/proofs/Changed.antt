-- The ids that a round takes up are those with an item behind the cursor and up to the target, each once.
use Rattle.std.proofs.Common.{◌≡◌, ⊎_elim, ◌<◌, ◌≤◌, ◌+◌, ℕ, zero, suc, List, [], ◌∷◌, ◌++◌, length, take, drop, map, Bool, true, false, if◌then◌else◌, ◌||◌, refl, sym, ◌∙◌, ap, subst, arith, length-take}
use Rattle.std.proofs.lemmas.Bool.{cases_lt}
use Rattle.std.proofs.lemmas.List.{map-append, take-append-drop, take-map}
use Rattle.std.proofs.lemmas.Slice.Eq.{bytes_eq-Decides}
use Rattle.std.specs.List.{list_any}
use Rattle.std.specs.Prelude.{flat_map}
use Rattle.std.specs.Str.{bytes_eq}
use Rattle.pkg_meta.specs.Catalog.{Catalog}
use Rattle.pkg_meta.specs.Items.{id_of}
use Rattle.pkg_meta.specs.declared.commit.Commit.{Commit}
use Rattle.pkg_meta.specs.declared.commit.Stored.{Stored}
use Rattle.pkg_meta.specs.declared.item.Item.{Item}
use Rattle.fold_core.specs.Folds.{touched_by}
use Rattle.fold_core.specs.Items.{commits_of, counted, has_item, is_of, touched}
use Rattle.fold_core.proofs.Touches.{touched_within}
use Rattle.hive_laws.proofs.Looks.{decide}
use Rattle.feed_laws.specs.Rounds.{changed_keys, first_ids, item_keys, times, without}
use Rattle.feed_laws.proofs.Lists.{other_key, same_key, times-append, times_without, times_without_other}

once : (key : List ℕ) (xs : List (List ℕ)) → 0 < times key xs → times key (first_ids xs) ≡ 1
once key [] is = absurd (omega arith)
once key (x ∷ xs) is = ⊎_elim
    (λ e. subst (λ (y : List ℕ). times key (y ∷ without y (first_ids xs)) ≡ 1) e (let h : times key (without key (first_ids xs)) ≡ 0 = times_without key (first_ids xs) in rw (same_key key) (omega arith)))
    (λ other. let n : bytes_eq key x ≡ false = other_key key x other in
    let sum : 0 < 0 + times key xs = (rw n at is) in let rest : 0 < times key xs = omega arith in
    let h : times key (without x (first_ids xs)) ≡ times key (first_ids xs) = times_without_other x key (first_ids xs) other in
    let k : times key (first_ids xs) ≡ 1 = once key xs rest in rw n (omega arith)) (decide key x)

none : (key : List ℕ) (xs : List (List ℕ)) → times key xs ≡ 0 → times key (first_ids xs) ≡ 0
none key [] is = refl
none key (x ∷ xs) is = ⊎_elim
    (λ e. let y : bytes_eq key x ≡ true = (bytes_eq-Decides key x).1 e in let no_ : 1 + times key xs ≡ 0 = (rw y at is) in absurd (omega arith))
    (λ other. let n : bytes_eq key x ≡ false = other_key key x other in
    let sum : 0 + times key xs ≡ 0 = (rw n at is) in let rest : times key xs ≡ 0 = omega arith in
    let h : times key (without x (first_ids xs)) ≡ times key (first_ids xs) = times_without_other x key (first_ids xs) other in
    let k : times key (first_ids xs) ≡ 0 = none key xs rest in rw n (omega arith)) (decide key x)

-- the keys of items, and whether one of them is of the id
abbrev keys_in : List Item → List (List ℕ)
keys_in items = map (λ (it : Item). (id_of it).key) items

has_none : (key : List ℕ) (items : List Item) → times key (keys_in items) ≡ 0 → list_any (is_of key) items ≡ false
has_none key [] is = refl
has_none key (it ∷ items) is = elim (bytes_eq key (id_of it).key) as (λ b. (if b then 1 else 0) + times key (keys_in items) ≡ 0 → b || list_any (is_of key) items ≡ false) [
  | true ↦ λ e. absurd (omega arith)
  | false ↦ λ e. has_none key items (omega arith)
] is

has_some : (key : List ℕ) (items : List Item) → 0 < times key (keys_in items) → list_any (is_of key) items ≡ true
has_some key [] is = absurd (omega arith)
has_some key (it ∷ items) is = elim (bytes_eq key (id_of it).key) as (λ b. 0 < (if b then 1 else 0) + times key (keys_in items) → b || list_any (is_of key) items ≡ true) [
  | true ↦ λ e. refl
  | false ↦ λ e. has_some key items (omega arith)
] is

counted_more : (b : Bool) (n : ℕ) → 0 < n → counted b n ≡ n + 1
counted_more b zero some = absurd (omega arith)
counted_more b (suc n) some = omega arith

abbrev keys_of_all : Catalog → List (List ℕ)
keys_of_all cs = flat_map item_keys cs

untouched : (key : List ℕ) (cs : Catalog) → times key (keys_of_all cs) ≡ 0 → touched (commits_of cs) key ≡ 0
untouched key [] is = refl
untouched key (c ∷ cs) is =
    let a : times key (item_keys c ++ keys_of_all cs) ≡ times key (item_keys c) + times key (keys_of_all cs) = times-append key (item_keys c) (keys_of_all cs) in
    let n : list_any (is_of key) c.commit.items ≡ false = has_none key c.commit.items (omega arith) in
    let t : touched (commits_of cs) key ≡ 0 = untouched key cs (omega arith) in
    ap (λ (b : Bool). counted b (touched (commits_of cs) key)) n ∙ ap (counted false) t

touched_some : (key : List ℕ) (cs : Catalog) → 0 < times key (keys_of_all cs) → 0 < touched (commits_of cs) key
touched_some key [] is = absurd (omega arith)
touched_some key (c ∷ cs) is =
    let a : times key (item_keys c ++ keys_of_all cs) ≡ times key (item_keys c) + times key (keys_of_all cs) = times-append key (item_keys c) (keys_of_all cs) in
    ⊎_elim
    (λ h. let t : 0 < touched (commits_of cs) key = touched_some key cs h in
    let e : counted (has_item c.commit key) (touched (commits_of cs) key) ≡ touched (commits_of cs) key + 1 = counted_more (has_item c.commit key) (touched (commits_of cs) key) t in
    omega arith)
    (λ h. let y : list_any (is_of key) c.commit.items ≡ true = has_some key c.commit.items (omega arith) in
    let t : touched (commits_of cs) key ≡ 0 = untouched key cs (omega arith) in
    let e : counted (list_any (is_of key) c.commit.items) (touched (commits_of cs) key) ≡ 1 = ap (λ (b : Bool). counted b (touched (commits_of cs) key)) y ∙ ap (counted true) t in
    omega arith)
    (cases_lt 0 (times key (keys_of_all cs)))

-- the last one stands in the later commits, where one does
in_later : (key : List ℕ) (xs ys : List Commit) → 0 < touched ys key → touched (xs ++ ys) key ≡ length xs + touched ys key
in_later key [] ys some = omega arith
in_later key (x ∷ xs) ys some =
    let h : touched (xs ++ ys) key ≡ length xs + touched ys key = in_later key xs ys some in
    let e : counted (has_item x key) (touched (xs ++ ys) key) ≡ touched (xs ++ ys) key + 1 = counted_more (has_item x key) (touched (xs ++ ys) key) (omega arith) in
    omega arith

in_earlier : (key : List ℕ) (xs ys : List Commit) → touched ys key ≡ 0 → touched (xs ++ ys) key ≡ touched xs key
in_earlier key [] ys none_ = none_
in_earlier key (x ∷ xs) ys none_ = ap (counted (has_item x key)) (in_earlier key xs ys none_)

-- the ids with an item behind commit c and up to commit told stand there once, and no others
pub record IsChangedOnce (cs : Catalog) (c told : ℕ) (keys : List (List ℕ)) (key : List ℕ) : Type 0 where
  pub some : c < touched_by cs key told → times key keys ≡ 1
  pub none : touched_by cs key told ≤ c → times key keys ≡ 0

pub are_changed : (cs : Catalog) (c told : ℕ) → c < told → told ≤ length cs → (key : List ℕ) → IsChangedOnce cs c told (changed_keys cs c told) key
are_changed cs c told less reached key =
    let front : Catalog = take told cs in
    let early : Catalog = take c front in
    let late : Catalog = drop c front in
    let len : length front ≡ told = (let h = length-take told cs in omega (arith, h)) in
    let first : length early ≡ c = (let h = length-take c front in omega (arith, h)) in
    let first_commits : length (commits_of early) ≡ c = lengths early ∙ first in
    let whole : touched_by cs key told ≡ touched (commits_of early ++ commits_of late) key =
    ap (λ (l : List Commit). touched l key) (take-map (λ (x : Stored). x.commit) told cs ∙ ap commits_of (sym (take-append-drop c front)) ∙ map-append (λ (x : Stored). x.commit) early late) in
    let bound : touched (commits_of early) key ≤ length (commits_of early) = within (commits_of early) in
    record {
      some = λ is. ⊎_elim (λ h. once key (keys_of_all late) h)
          (λ h. let t : touched (commits_of late) key ≡ 0 = untouched key late (omega arith) in
          let e : touched (commits_of early ++ commits_of late) key ≡ touched (commits_of early) key = in_earlier key (commits_of early) (commits_of late) t in
          absurd (omega (arith, is, whole, e, bound, first_commits)))
          (cases_lt 0 (times key (keys_of_all late)));
      none = λ few. ⊎_elim
          (λ h. let t : 0 < touched (commits_of late) key = touched_some key late h in
          let e : touched (commits_of early ++ commits_of late) key ≡ length (commits_of early) + touched (commits_of late) key = in_later key (commits_of early) (commits_of late) t in
          absurd (omega (arith, few, whole, e, t, first_commits)))
          (λ h. none key (keys_of_all late) (omega arith))
          (cases_lt 0 (times key (keys_of_all late)));
    }
  where
    lengths : (cs : Catalog) → length (commits_of cs) ≡ length cs
    lengths [] = refl
    lengths (c ∷ cs) = ap suc (lengths cs)

    whole_take : (xs : List Commit) → take (length xs) xs ≡ xs
    whole_take [] = refl
    whole_take (x ∷ xs) = ap (λ (l : List Commit). x ∷ l) (whole_take xs)

    within : (xs : List Commit) → touched xs key ≤ length xs
    within xs = subst (λ (l : List Commit). touched l key ≤ length xs) (whole_take xs) (touched_within xs key (length xs))
