-- The publish of an entry isn't after the entry's own item, in lawful catalogs.
use Rattle.std.proofs.Common.{◌≡◌, ◌≤◌, ◌+◌, ℕ, zero, suc, List, [], ◌∷◌, ◌++◌, length, take, Bool, true, false, cond, Option, Some, None, sym, ap, ◌∙◌, subst, append_assoc, arith}
use Rattle.std.proofs.lemmas.Grind.{flat_map-append}
use Rattle.std.proofs.lemmas.List.{append-nil, length-append, take_all, take-map}
use Rattle.std.proofs.lemmas.List.Folds.{flat_map-map}
use Rattle.std.specs.List.{AllByRecursion, filter}
use Rattle.std.specs.Option.{IfSome}
use Rattle.std.specs.Prelude.{flat_map}
use Rattle.pkg_meta.specs.Catalog.{Catalog}
use Rattle.pkg_meta.specs.declared.commit.Staged.{Staged}
use Rattle.pkg_meta.specs.declared.commit.Stored.{Stored}
use Rattle.pkg_meta.specs.Lawful.{AreLawfulItems, IsLawful, IsLawfulItem, IsNext, IsOfDetails, MayFollow, Placed, all_placed, has_pair, last_like, last_of, or_earlier, placed_from, placed_of}
use Rattle.pkg_meta.specs.declared.item.Details.{Details}
use Rattle.pkg_meta.specs.declared.item.Item.{Item}
use Rattle.pkg_meta.specs.declared.item.Item.TheVariants as the
use Rattle.fold_core.specs.Entries.{Keeps, entries_of, entry_at}
use Rattle.fold_core.specs.Items.{commits_of, is_of, items_in, items_of, touched, touched_at}
use Rattle.fold_core.specs.Laws.{AreAfterOrigins}
use Rattle.pkg_meta.specs.declared.commit.Commit.{Commit}
use Rattle.fold_core.proofs.Touches.{items_stay, touched_within}
use Rattle.pkg_meta.specs.declared.entry.Entry.{Entry}
use Rattle.fold_core.proofs.Rising.{all_joined, entries_all}

-- an item's publish isn't after it, and it isn't after this number
abbrev pub IsOld : ℕ → ℕ → Item → Type 0
IsOld top number (the.Details d) = (d.origin_number ≤ number) × (number ≤ top)
IsOld top number (the.Gone i v) = Unit {0}

abbrev pub AreOld : ℕ → List Placed → Type 0
AreOld top xs = AllByRecursion (λ (x : Placed). IsOld top x.number x.what) xs

older : (top later number : ℕ) (it : Item) → top ≤ later → IsOld top number it → IsOld later number it
older top later number (the.Details d) le old = (old.0, omega (arith, old.1))
older top later number (the.Gone i v) le old = tt

all_older : (top later : ℕ) (xs : List Placed) → top ≤ later → AreOld top xs → AreOld later xs
all_older top later [] le old = tt
all_older top later (x ∷ xs) le old = (older top later x.number x.what le old.0, all_older top later xs le old.1)

abbrev IsOldLast : ℕ → Option Placed → Type 0
IsOldLast top None = Unit {0}
IsOldLast top (Some x) = IsOld top x.number x.what

either : (top : ℕ) (o p : Option Placed) → IsOldLast top o → IsOldLast top p → IsOldLast top (or_earlier o p)
either top None p h k = k
either top (Some x) p h k = h

if_pair : (top : ℕ) (b : Bool) (x : Placed) → IsOld top x.number x.what → IsOldLast top (cond b (Some x) None)
if_pair top true x h = h
if_pair top false x h = tt

last_old : (top : ℕ) (id version : List ℕ) (xs : List Placed) → AreOld top xs → IsOldLast top (last_of id version xs)
last_old top id version [] old = tt
last_old top id version (x ∷ xs) old =
    either top (last_of id version xs) (cond (has_pair id version x.what) (Some x) None) (last_old top id version xs old.1)
    (if_pair top (has_pair id version x.what) x old.0)

of_details : (top : ℕ) (o : Option Placed) (d : Details) → IsOldLast top o → IsOfDetails o d → d.origin_number ≤ top
of_details top None d old is = absurd is
of_details top (Some x) d old is = let h : IsOld top x.number (the.Details d) = subst (IsOld top x.number) is old in omega (arith, h.0, h.1)

item_old : (before : List Placed) (top stamp place : ℕ) (it : Item) (s : Option Staged) → AreOld top before
    → IsLawfulItem before (top + 1) stamp place it s → IsOld (top + 1) (top + 1) it
item_old before top stamp place (the.Details d) (Some brought) old lawful =
    let own : d.origin_number ≡ top + 1 = ap (λ (e : Details). e.origin_number) lawful.itself in
    (omega (arith, own), omega arith)
item_old before top stamp place (the.Details d) None old (was, is, last) =
    let same : d.origin_number ≡ was.origin_number = ap (λ (e : Details). e.origin_number) is in
    let early : was.origin_number ≤ top = of_details top (last_like (the.Details d) before) was (last_old top _ _ before old) last in
    (omega (arith, same, early), omega arith)
item_old before top stamp place (the.Gone i v) s old lawful = tt

items_old : (before : List Placed) (top stamp place : ℕ) (items : List Item) (staged : List (Option Staged)) → AreOld top before
    → AreLawfulItems before (top + 1) stamp place items staged → AreOld (top + 1) (placed_from (top + 1) stamp place items)
items_old before top stamp place [] staged old lawful = tt
items_old before top stamp place (it ∷ items) [] old lawful = absurd lawful
items_old before top stamp place (it ∷ items) (s ∷ staged) old lawful =
    (item_old before top stamp place it s old lawful.0, items_old before top stamp (suc place) items staged old lawful.1)

next_old : (before : Catalog) (c : Stored) → AreOld (length before) (all_placed before) → IsNext before c → AreOld (length before + 1) (all_placed (before ++ c ∷ []))
next_old before c old next =
    subst (AreOld (length before + 1)) (sym (flat_map-append placed_of before (c ∷ []) ∙ ap (λ (l : List Placed). all_placed before ++ l) (append-nil (placed_of c))))
    (all_joined (λ (x : Placed). IsOld (length before + 1) x.number x.what) (all_placed before) (placed_of c)
    (all_older (length before) (length before + 1) (all_placed before) (omega arith) old)
    (subst (λ (n : ℕ). AreOld (length before + 1) (placed_from n c.commit.stamp 0 c.commit.items)) (sym next.number)
    (items_old (all_placed before) (length before) c.commit.stamp 0 c.commit.items c.staged old
    (subst (λ (n : ℕ). AreLawfulItems (all_placed before) n c.commit.stamp 0 c.commit.items c.staged) next.number next.items))))

grown_old : (before cs : Catalog) (j : ℕ) → AreOld (length before) (all_placed before) → MayFollow before cs → AreOld (length before + j) (all_placed (before ++ take j cs))
grown_old before cs zero old follow =
    subst (λ (l : Catalog). AreOld (length before + 0) (all_placed l)) (sym (append-nil before)) (all_older (length before) (length before + 0) (all_placed before) (omega arith) old)
grown_old before [] (suc j) old follow =
    subst (λ (l : Catalog). AreOld (length before + suc j) (all_placed l)) (sym (append-nil before)) (all_older (length before) (length before + suc j) (all_placed before) (omega arith) old)
grown_old before (c ∷ cs) (suc j) old follow =
    let longer : length (before ++ c ∷ []) ≡ length before + 1 = length-append before (c ∷ []) in
    let next : AreOld (length (before ++ c ∷ [])) (all_placed (before ++ c ∷ [])) = subst (λ (n : ℕ). AreOld n (all_placed (before ++ c ∷ []))) (sym longer) (next_old before c old follow.0) in
    subst (λ (l : Catalog). AreOld (length before + suc j) (all_placed l)) (append_assoc before (c ∷ []) (take j cs))
    (subst (λ (n : ℕ). AreOld n (all_placed ((before ++ c ∷ []) ++ take j cs))) (let e : length (before ++ c ∷ []) + j ≡ length before + suc j = omega (arith, longer) in e)
    (grown_old (before ++ c ∷ []) cs j next follow.1))

-- the items of the first j commits
pub items_are_old : (cs : Catalog) (j : ℕ) → IsLawful cs → AreOld j (all_placed (take j cs))
items_are_old cs j lawful = subst (λ (n : ℕ). AreOld n (all_placed (take j cs))) (let e : 0 + j ≡ j = omega arith in e) (grown_old [] cs j tt lawful.commits)

filter_old : (top : ℕ) (p : Placed → Bool) (xs : List Placed) → AreOld top xs → AreOld top (filter p xs)
filter_old top p [] old = tt
filter_old top p (x ∷ xs) old =
    elim (p x) as (λ (b : Bool). AreOld top (cond b (x ∷ filter p xs) (filter p xs))) [ true ↦ (old.0, filter_old top p xs old.1) | false ↦ filter_old top p xs old.1 ]

all_of_commits : (cs : Catalog) → flat_map items_in (commits_of cs) ≡ all_placed cs
all_of_commits cs = flat_map-map items_in (λ (c : Stored). c.commit) cs

entry_old : (keeps : Keeps) (top number place : ℕ) (it : Item) → IsOld top number it
    → IfSome (entry_at keeps number place it) (λ (e : Entry). (e.details.origin_number ≤ e.number) × (e.number ≤ top))
entry_old keeps top number place (the.Details d) old =
    elim (keeps d) as (λ (b : Bool). IfSome (cond b (Some (record { number = number; place = place; details = d })) None) (λ (e : Entry). (e.details.origin_number ≤ e.number) × (e.number ≤ top))) [
      | true ↦ old
      | false ↦ tt
    ]
entry_old keeps top number place (the.Gone i v) old = tt

-- the entries of the first j commits
pub entries_are_old : (keeps : Keeps) (cs : Catalog) (key : List ℕ) (j : ℕ) → IsLawful cs
    → AllByRecursion (λ (e : Entry). (e.details.origin_number ≤ e.number) × (e.number ≤ j)) (entries_of keeps (items_of (take j (commits_of cs)) key))
entries_are_old keeps cs key j lawful =
    entries_all (λ (x : Placed). IsOld j x.number x.what) keeps (λ (e : Entry). (e.details.origin_number ≤ e.number) × (e.number ≤ j))
    (λ x old. entry_old keeps j x.number x.place x.what old) (items_of (take j (commits_of cs)) key)
    (filter_old j (λ (x : Placed). is_of key x.what) (flat_map items_in (take j (commits_of cs)))
    (subst (AreOld j) (sym (ap (flat_map items_in) (take-map (λ (c : Stored). c.commit) j cs) ∙ all_of_commits (take j cs))) (items_are_old cs j lawful)))

-- the entries of all commits
pub entries_before : (keeps : Keeps) (cs : Catalog) (key : List ℕ) → IsLawful cs → AreAfterOrigins (touched (commits_of cs) key) (entries_of keeps (items_of (commits_of cs) key))
entries_before keeps cs key lawful =
    let commits : List Commit = commits_of cs in
    let all : take (length commits) commits ≡ commits = take_all (length commits) commits (omega arith) in
    let last : touched_at commits key (length commits) ≡ touched commits key = ap (λ (l : List Commit). touched l key) all in
    let within : touched commits key ≤ length commits = omega (arith, last, touched_within commits key (length commits)) in
    subst (λ (l : List Placed). AreAfterOrigins (touched commits key) (entries_of keeps l))
    (items_stay commits key (touched commits key) (length commits) within (omega (arith, last)) ∙ ap (λ (l : List Commit). items_of l key) all)
    (entries_are_old keeps cs key (touched commits key) lawful)
