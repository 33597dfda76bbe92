-- A state that has taken in the items behind a sound id's state is from scratch at the catalog's end.
use Rattle.std.proofs.Common.{◌≡◌, ◌≤◌, ℕ, List, [], ◌∷◌, ◌++◌, length, take, drop, Option, Some, None, refl, sym, ap, ◌∙◌, arith}
use Rattle.std.proofs.lemmas.List.{take_all, take-append-drop, take-map}
use Rattle.pkg_meta.specs.Catalog.{Catalog}
use Rattle.pkg_meta.specs.Lawful.{IsLawful, Placed, or_earlier}
use Rattle.pkg_meta.specs.declared.commit.Commit.{Commit}
use Rattle.pkg_meta.specs.declared.commit.Stored.{Stored}
use Rattle.pkg_meta.specs.declared.state.StateDoc.{StateDoc}
use Rattle.fold_core.specs.Entries.{Keeps, entries_of}
use Rattle.fold_core.specs.Folds.{Fold, Look}
use Rattle.fold_core.specs.Items.{commits_of, items_of, last_placed, moment_in, number_in, touched, touched_at, touched_stamp}
use Rattle.fold_core.specs.Places.{all_applied}
use Rattle.fold_core.specs.Sound.{HasState, IsScratch}
use Rattle.fold_core.proofs.Applied.{entries_none}
use Rattle.fold_core.proofs.Carries.{carries}
use Rattle.fold_core.proofs.Gathered.{items_joined}
use Rattle.fold_core.proofs.Numbers.{number_is_last, stamp_is_last}
use Rattle.hive_laws.proofs.Fronts.{fronts_lawful}
use Rattle.id_pass.specs.Passes.{IsTakenIn, entries_in, number_after, stamp_after}
use Rattle.pass_laws.specs.Starting.{state_at}
use Rattle.pass_laws.proofs.Behind.{AreBehind}

pub fronts : (cs : Catalog) (j : ℕ) → commits_of (take j cs) ≡ take j (commits_of cs)
fronts cs j = sym (take-map (λ (c : Stored). c.commit) j cs)

or_none : (o : Option Placed) → or_earlier o None ≡ o
or_none None = refl
or_none (Some x) = refl

or_or : (o p q : Option Placed) → or_earlier o (or_earlier p q) ≡ or_earlier (or_earlier o p) q
or_or None p q = refl
or_or (Some x) p q = refl

last_joined : (xs ys : List Placed) → last_placed (xs ++ ys) ≡ or_earlier (last_placed ys) (last_placed xs)
last_joined [] ys = sym (or_none (last_placed ys))
last_joined (x ∷ xs) ys =
    ap (λ (o : Option Placed). or_earlier o (Some x)) (last_joined xs ys) ∙ sym (or_or (last_placed ys) (last_placed xs) (Some x))

number_by : (old : Option StateDoc) (o was : Option Placed) → number_after old None ≡ number_in was → number_after old o ≡ number_in (or_earlier o was)
number_by old None was is = is
number_by None (Some x) was is = refl
number_by (Some s) (Some x) was is = refl

stamp_by : (old : Option StateDoc) (o was : Option Placed) → stamp_after old None ≡ moment_in was → stamp_after old o ≡ moment_in (or_earlier o was)
stamp_by old None was is = is
stamp_by None (Some x) was is = refl
stamp_by (Some s) (Some x) was is = refl

-- a stored state tells what the commits up to its `at` make
pub record IsOld (keeps : Keeps) (cs : Catalog) (key : List ℕ) (old : Option StateDoc) : Type 0 where
  pub number : number_after old None ≡ touched (commits_of (take (state_at old) cs)) key
  pub stamp : stamp_after old None ≡ touched_stamp (commits_of (take (state_at old) cs)) key
  pub entries : entries_in old ≡ entries_of keeps (items_of (take (state_at old) (commits_of cs)) key)

pub is_old : (f : Fold) (cs : Catalog) (c : ℕ) (key : List ℕ) (old : Option StateDoc) (held : Look (List ℕ)) → HasState f cs c key old held → IsOld f.keeps cs key old
is_old f cs c key None held state = record { number = refl; stamp = refl; entries = sym (entries_none f.keeps) }
is_old f cs c key (Some s) held state = record {
  number = state.0.scratch.touched ∙ ap (λ (l : List Commit). touched l key) (sym (fronts cs s.at));
  stamp = state.0.scratch.stamp;
  entries = state.0.scratch.entries ∙ ap (λ (l : List Commit). entries_of f.keeps (items_of l key)) (fronts cs s.at);
}

pub last_item : (f : Fold) (cs : Catalog) (c : ℕ) (key : List ℕ) (old : Option StateDoc) (held : Look (List ℕ)) → HasState f cs c key old held
    → touched_at (commits_of cs) key c ≤ state_at old
last_item f cs c key None held state = let none : touched_at (commits_of cs) key c ≡ 0 = state.0 in omega (arith, none)
last_item f cs c key (Some s) held state = state.1.recent

module _ (f : Fold) (cs : Catalog) (key : List ℕ) (lawful : IsLawful cs) (old : Option StateDoc) (was : IsOld f.keeps cs key old)
    (items : List Placed) (behind : AreBehind cs key (state_at old) items) where
  abbrev commits : List Commit
  commits = commits_of cs

  abbrev first : List Placed
  first = items_of (take behind.from commits) key

  abbrev last : List Placed
  last = items_of (drop behind.from commits) key

  all_items : items_of commits key ≡ first ++ last
  all_items = ap (λ (l : List Commit). items_of l key) (sym (take-append-drop behind.from commits)) ∙ items_joined (take behind.from commits) (drop behind.from commits) key

  all_last : last_placed (items_of commits key) ≡ or_earlier (last_placed items) (last_placed first)
  all_last = ap last_placed all_items ∙ last_joined first last ∙ ap (λ (l : List Placed). or_earlier (last_placed l) (last_placed first)) (sym behind.items_are)

  first_is : items_of (commits_of (take (state_at old) cs)) key ≡ first
  first_is = ap (λ (l : List Commit). items_of l key) (fronts cs (state_at old)) ∙ sym behind.before

  pub number_is : number_after old (last_placed items) ≡ touched commits key
  number_is =
      number_by old (last_placed items) (last_placed first)
      (was.number ∙ number_is_last (take (state_at old) cs) key (fronts_lawful cs (state_at old) lawful) ∙ ap (λ (l : List Placed). number_in (last_placed l)) first_is)
      ∙ sym (number_is_last cs key lawful ∙ ap number_in all_last)

  pub stamp_is : stamp_after old (last_placed items) ≡ touched_stamp commits key
  stamp_is =
      stamp_by old (last_placed items) (last_placed first)
      (was.stamp ∙ stamp_is_last (take (state_at old) cs) key (fronts_lawful cs (state_at old) lawful) ∙ ap (λ (l : List Placed). moment_in (last_placed l)) first_is)
      ∙ sym (stamp_is_last cs key lawful ∙ ap moment_in all_last)

  pub entries_are : all_applied f.keeps (entries_in old) items ≡ entries_of f.keeps (items_of commits key)
  entries_are =
      (λ i. all_applied f.keeps (was.entries i) (behind.items_are i))
      ∙ ap (λ (l : List Placed). all_applied f.keeps (entries_of f.keeps l) last) (sym behind.before)
      ∙ carries f.keeps commits key behind.from

  pub scratch_of : (s : StateDoc) → IsTakenIn f.keeps old items (length cs) s → IsScratch f cs key s
  scratch_of s taken =
      let whole : cs ≡ take s.at cs = sym (ap (λ (n : ℕ). take n cs) taken.at ∙ take_all (length cs) cs (omega arith)) in record {
        touched = taken.touched ∙ number_is ∙ ap (λ (l : Catalog). touched (commits_of l) key) whole ∙ ap (λ (l : List Commit). touched l key) (fronts cs s.at);
        stamp = taken.stamp ∙ stamp_is ∙ ap (λ (l : Catalog). touched_stamp (commits_of l) key) whole;
        entries = taken.entries ∙ entries_are ∙ ap (λ (l : Catalog). entries_of f.keeps (items_of (commits_of l) key)) whole;
      }
