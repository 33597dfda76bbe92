-- The states of a pass over a catalog are of the values of the code's types.
use Rattle.std.proofs.Common.{◌≡◌, ◌<◌, ◌≤◌, ◌+◌, ◌^◌, ℕ, zero, suc, List, [], ◌∷◌, ◌++◌, length, take, All, Bool, true, false, cond, Some, None, IfSome, IsUtf8, refl, sym, ◌∙◌, ap, subst, arith, length-append, slice_get}
use Rattle.std.proofs.lemmas.List.{take_all}
use Rattle.std.proofs.lemmas.List.Elements.{All-contains, All-contains_itself}
use Rattle.std.proofs.lemmas.List.Folds.{flat_map-map}
use Rattle.std.specs.List.{AllByRecursion, Contains, filter}
use Rattle.std.specs.Prelude.{flat_map}
use Rattle.pkg_meta.specs.Catalog.{Catalog}
use Rattle.pkg_meta.specs.Lawful.{IsLawful, MayFollow, Placed, all_placed, placed_from, placed_of}
use Rattle.pkg_meta.specs.declared.commit.Stored.{Stored}
use Rattle.pkg_meta.specs.declared.entry.Entry.{Entry}
use Rattle.pkg_meta.specs.declared.item.Item.{Item}
use Rattle.pkg_meta.specs.declared.item.Item.TheVariants as the
use Rattle.pkg_meta.specs.declared.state.StateDoc.{StateDoc}
use Rattle.catalog_doc.specs.Catalogs.{IsCatalog}
use Rattle.catalog_doc.specs.Reading.{IsItemValue}
use Rattle.catalog_doc.proofs.Numbered.{few_commits}
use Rattle.catalog_laws.specs.Values.{HaveItemValues}
use Rattle.catalog_laws.proofs.ItemValues.{item_values}
use Rattle.fold_core.specs.Entries.{Keeps, entries_of, entry_at}
use Rattle.fold_core.specs.Folds.{Fold, touched_by}
use Rattle.fold_core.specs.Items.{commits_of, is_of, items_in, items_of, stamp_at, stamp_in, touched}
use Rattle.fold_core.specs.Sound.{IsScratch}
use Rattle.fold_core.proofs.Rising.{all_joined, entries_all}
use Rattle.fold_core.proofs.Touches.{touched_within}
use Rattle.hive_laws.proofs.Fronts.{fronts_lawful}
use Rattle.hive_laws.proofs.Listed.{first, later}
use Rattle.hive_state.specs.Reading.{AreEntryValues, IsEntryValue, IsStateValue}

-- an item of values, at a number and a place of 32 bits
pub record IsPlacedValue (x : Placed) : Type 0 where
  pub number : x.number < 2 ^ 32
  pub place : x.place < 2 ^ 32
  pub value : IsItemValue x.what

items_values : (number stamp place : ℕ) (items : List Item) → number < 2 ^ 32 → place + length items < 2 ^ 32
    → ((k : ℕ) (it : Item) → slice_get items k ≡ Some it → IsItemValue it) → AllByRecursion IsPlacedValue (placed_from number stamp place items)
items_values number stamp place [] fits few values = tt
items_values number stamp place (it ∷ items) fits few values = (
  record { number = fits; place = omega (arith, few); value = values 0 it refl },
  items_values number stamp (suc place) items fits (omega (arith, few)) (λ k x is. values (suc k) x is),
)

placed_values : (before ds : Catalog) → MayFollow before ds → length before + length ds < 2 ^ 32 → HaveItemValues ds → AllByRecursion IsPlacedValue (all_placed ds)
placed_values before [] follow few values = tt
placed_values before (c ∷ ds) follow few values =
    let longer = length-append before (c ∷ []) in
    all_joined IsPlacedValue (placed_of c) (all_placed ds)
    (items_values c.commit.number c.commit.stamp 0 c.commit.items (omega (arith, follow.0.number, few)) (omega (arith, follow.0.few)) (λ k it is. values c k it (first c ds) is))
    (placed_values (before ++ c ∷ []) ds follow.1 (omega (arith, few, longer)) (λ d k it there is. values d k it (later c d ds there) is))

filter_values : (p : Placed → Bool) (xs : List Placed) → AllByRecursion IsPlacedValue xs → AllByRecursion IsPlacedValue (filter p xs)
filter_values p [] all = tt
filter_values p (x ∷ xs) all =
    elim (p x) as (λ (b : Bool). AllByRecursion IsPlacedValue (cond b (x ∷ filter p xs) (filter p xs))) [
      | true ↦ (all.0, filter_values p xs all.1)
      | false ↦ filter_values p xs all.1
    ]

entry_value : (keeps : Keeps) (number place : ℕ) (it : Item) → number < 2 ^ 32 → place < 2 ^ 32 → IsItemValue it → IfSome (entry_at keeps number place it) IsEntryValue
entry_value keeps number place (the.Details d) fits within value =
    elim (keeps d) as (λ (b : Bool). IfSome (cond b (Some (record { number = number; place = place; details = d })) None) IsEntryValue) [
      | true ↦ record { number = fits; place = within; details = value }
      | false ↦ tt
    ]
entry_value keeps number place (the.Gone i v) fits within value = tt

by_recursion : (es : List Entry) → AllByRecursion IsEntryValue es → AreEntryValues es
by_recursion [] all = tt
by_recursion (e ∷ es) all = (all.0, by_recursion es all.1)

pub entries_values : (keeps : Keeps) (cs : Catalog) (key : List ℕ) → IsCatalog cs → AreEntryValues (entries_of keeps (items_of (commits_of cs) key))
entries_values keeps cs key catalog =
    let few : length cs ≤ 200_000 = few_commits cs catalog.lawful in
    by_recursion (entries_of keeps (items_of (commits_of cs) key))
    (entries_all IsPlacedValue keeps IsEntryValue (λ x value. entry_value keeps x.number x.place x.what value.number value.place value.value) (items_of (commits_of cs) key)
    (filter_values (λ (x : Placed). is_of key x.what) (flat_map items_in (commits_of cs))
    (subst (AllByRecursion IsPlacedValue) (sym (flat_map-map items_in (λ (c : Stored). c.commit) cs))
    (placed_values [] cs catalog.lawful.commits (omega (arith, few)) (item_values cs catalog)))))

-- stamps are moments
stamps_from : (before ds : Catalog) → MayFollow before ds → (n : ℕ) → stamp_in (slice_get (commits_of ds) n) ≤ 3_155_378_975_999_999_999
stamps_from before [] follow n = omega arith
stamps_from before (c ∷ ds) follow zero = follow.0.moment
stamps_from before (c ∷ ds) follow (suc n) = stamps_from (before ++ c ∷ []) ds follow.1 n

stamp_fits : (cs : Catalog) → IsLawful cs → (n : ℕ) → stamp_at (commits_of cs) n ≤ 3_155_378_975_999_999_999
stamp_fits cs lawful zero = omega arith
stamp_fits cs lawful (suc n) = stamps_from [] cs lawful.commits n

-- a state that is from scratch at the catalog's end, with names that are texts
pub state_value : (f : Fold) (cs : Catalog) (key : List ℕ) (s : StateDoc) → IsCatalog cs → s.at ≡ length cs → IsScratch f cs key s → All IsUtf8 s.names → IsStateValue s
state_value f cs key s catalog at scratch texts =
    let few : length cs ≤ 200_000 = few_commits cs catalog.lawful in
    let within : touched_by cs key s.at ≤ s.at = touched_within (commits_of cs) key s.at in
    let whole : take s.at cs ≡ cs = take_all s.at cs (omega (arith, at)) in
    record {
      at = omega (arith, at, few);
      touched = omega (arith, at, few, within, scratch.touched);
      touched_stamp = subst (λ (n : ℕ). n ≤ 3_155_378_975_999_999_999) (sym scratch.stamp)
          (stamp_fits (take s.at cs) (fronts_lawful cs s.at catalog.lawful) (touched (commits_of (take s.at cs)) key));
      names = texts;
      entries = subst AreEntryValues (sym (scratch.entries ∙ ap (λ (l : Catalog). entries_of f.keeps (items_of (commits_of l) key)) whole)) (entries_values f.keeps cs key catalog);
    }

-- names that are among texts are texts
pub texts_of : (names : List (List ℕ)) → ((name : List ℕ) → Contains names name → IsUtf8 name) → All IsUtf8 names
texts_of names texts k d within = texts _ (All-contains_itself names k d within)

pub text_in : (names : List (List ℕ)) (name : List ℕ) → All IsUtf8 names → Contains names name → IsUtf8 name
text_in names name texts is = All-contains IsUtf8 names name texts is
