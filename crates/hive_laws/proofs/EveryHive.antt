-- The laws of a hive's documents, of those that the trait has.
use Rattle.std.proofs.Common.{◌≡◌, ◌<◌, ℕ, List, [], ◌∷◌, take, Bool, true, false, ◌||◌, Some, None, refl, sym, ap, ◌∙◌, subst, arith}
use Rattle.std.proofs.lemmas.List.{take-map}
use Rattle.std.proofs.lemmas.Bool.{false_from_ne_true}
use Rattle.std.proofs.lemmas.Slice.Eq.{bytes_eq-Decides}
use Rattle.std.specs.List.{list_all, list_any}
use Rattle.std.specs.Prelude.{IsSome, not, ◌==◌}
use Rattle.package_id.specs.declared.id.PackageId.{PackageId}
use Rattle.package_id.proofs.Bytes.{IsSegment-key}
use Rattle.pkg_meta.specs.Catalog.{Catalog}
use Rattle.pkg_meta.specs.Items.{id_of}
use Rattle.pkg_meta.specs.Lawful.{IsLawful}
use Rattle.pkg_meta.specs.declared.commit.Commit.{Commit}
use Rattle.pkg_meta.specs.declared.commit.Stored.{Stored}
use Rattle.pkg_meta.specs.declared.entry.Entry.{Entry}
use Rattle.pkg_meta.specs.declared.item.Item.{Item}
use Rattle.fold_core.specs.Docs.{MakesDocs, owner}
use Rattle.fold_core.specs.Entries.{Keeps}
use Rattle.fold_core.specs.Folds.{Fold, fold_of, made_at, touched_by}
use Rattle.fold_core.specs.Items.{commits_of, counted, is_of, touched}
use Rattle.fold_core.specs.Laws.{AreOfEntries, AreOwned, IsWhole}
use Rattle.fold_core.proofs.Stays.{docs_none, docs_owned, docs_same}
use Rattle.hive_laws.specs.FoldLaws.{FoldLaws}
use Rattle.hive_laws.proofs.Looks.{no_some}

whole_key : (id : PackageId) → IsWhole id.key
whole_key id = subst IsWhole (sym id.lowered) (IsSegment-key id.text id.spelled).whole

module _ (key : List ℕ) (unwhole : list_all (λ (b : ℕ). not (b == 47)) key ≡ false) where
  not_of : (it : Item) → is_of key it ≡ false
  not_of it = false_from_ne_true (is_of key it) (λ is.
      let whole : IsWhole key = subst IsWhole (sym ((bytes_eq-Decides key (id_of it).key).0 is)) (whole_key (id_of it)) in
      let not_ : list_all (λ (b : ℕ). not (b == 47)) key ≡ true = whole in
      cc)

  none_of : (items : List Item) → list_any (is_of key) items ≡ false
  none_of [] = refl
  none_of (it ∷ items) = ap (λ (b : Bool). b || list_any (is_of key) items) (not_of it) ∙ none_of items

  -- a key with a `/` has no item
  untouched : (cs : List Commit) → touched cs key ≡ 0
  untouched [] = refl
  untouched (c ∷ cs) = ap (λ (b : Bool). counted b (touched cs key)) (none_of c.items) ∙ ap (counted false) (untouched cs)

-- an id with an item has a key without a `/`
pub item_whole : (cs : List Commit) (key : List ℕ) → 0 < touched cs key → IsWhole key
item_whole cs key item = whole_or (list_all (λ (b : ℕ). not (b == 47)) key) refl
  where
    whole_or : (b : Bool) → list_all (λ (x : ℕ). not (x == 47)) key ≡ b → IsWhole key
    whole_or true is = is
    whole_or false is = absurd (let none : touched cs key ≡ 0 = untouched key is cs in omega arith)

module _
    (keeps : Keeps) (makes : MakesDocs) (base : List ℕ)
    (empty : (base key : List ℕ) (number stamp : ℕ) → makes base key number stamp [] ≡ [])
    (owned : (base key : List ℕ) (number stamp : ℕ) (es : List Entry) → IsWhole key → AreOwned key (makes base key number stamp es))
    (staged : (base key : List ℕ) (number stamp : ℕ) (es : List Entry) → AreOfEntries es (makes base key number stamp es))
    (cs : Catalog) where
  abbrev f : Fold
  f = fold_of keeps makes base

  none_made : (key : List ℕ) (k : ℕ) → touched_by cs key k ≡ 0 → (name : List ℕ) → made_at f cs key k name ≡ None
  none_made key k none name =
      docs_none keeps makes base key (empty base key) (take k cs) (ap (λ (l : List Commit). touched l key) (sym (take-map (λ (c : Stored). c.commit) k cs)) ∙ none) name

  owned_or : (key : List ℕ) (k : ℕ) (name : List ℕ) (b : Bool) → list_all (λ (x : ℕ). not (x == 47)) key ≡ b → IsSome (made_at f cs key k name) → owner name ≡ Some key
  owned_or key k name true is made = docs_owned keeps makes base key (λ number stamp es. owned base key number stamp es is) (take k cs) name made
  owned_or key k name false is made = absurd (no_some (made_at f cs key k name) (none_made key k (untouched key is (take k (commits_of cs))) name) made)

  pub fold_laws : IsLawful cs → FoldLaws f cs
  fold_laws lawful = record {
    same = λ key j k le last. docs_same keeps makes base key (staged base key) cs j k lawful le last;
    none = none_made;
    owned = λ key k name made. owned_or key k name (list_all (λ (x : ℕ). not (x == 47)) key) refl made;
  }
