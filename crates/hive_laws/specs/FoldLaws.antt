-- What a hive's documents owe to the catalog.
use Rattle.std.specs.Prelude.{◌≡◌, ◌≤◌, ℕ, List, Some, None, IsSome}
use Rattle.pkg_meta.specs.Catalog.{Catalog}
use Rattle.fold_core.specs.Docs.{owner}
use Rattle.fold_core.specs.Folds.{Fold, made_at, touched_by}

-- The documents of an id change only with an item of it, without an item there are none, and the id owns their names.
pub record FoldLaws (f : Fold) (cs : Catalog) : Type 0 where
  pub same : (key : List ℕ) (j k : ℕ) → j ≤ k → touched_by cs key k ≤ j → (name : List ℕ)
      → made_at f cs key j name ≡ made_at f cs key k name
  pub none : (key : List ℕ) (k : ℕ) → touched_by cs key k ≡ 0 → (name : List ℕ) → made_at f cs key k name ≡ None
  pub owned : (key : List ℕ) (k : ℕ) (name : List ℕ) → IsSome (made_at f cs key k name) → owner name ≡ Some key
