-- What the laws say of a feed beside that it is sound.
use Rattle.std.specs.Prelude.{◌≡◌, ◌≤◌, ℕ, zero, suc, List, [], ◌∷◌, length, if◌then◌else◌, Option, None, Some, IsSome, ⊤}
use Rattle.pkg_meta.specs.Catalog.{Catalog}
use Rattle.fold_core.specs.Docs.{owner}
use Rattle.fold_core.specs.Folds.{Fold, Settled, made_at}
use Rattle.feed_laws.specs.Happenings.{Catalogs, Happening, PutPage, took}
use Rattle.feed_laws.specs.Worlds.{HiveNow}

-- a hive is exactly what the first k commits make of it
pub record IsSettledNow (f : Fold) (cs : Catalog) (k : ℕ) (h : HiveNow) : Type 0 where
  pub ids : Settled f cs k h.states h.held
  pub known : (name : List ℕ) → IsSome (h.held name) → IsSome (owner name)

-- the rule of the hive with this number
abbrev pub fold_at : ℕ → List Fold → Option Fold
fold_at k [] = None
fold_at zero (f ∷ fs) = Some f
fold_at (suc k) (f ∷ fs) = fold_at k fs

-- no cursor falls
abbrev pub CursorsRise : List HiveNow → List HiveNow → Type 0
CursorsRise [] [] = ⊤
CursorsRise (h ∷ hs) (g ∷ gs) = (h.cursor ≤ g.cursor) × CursorsRise hs gs
CursorsRise [] (g ∷ gs) = ⊥
CursorsRise (h ∷ hs) [] = ⊥

-- what is found under a name is what a prefix that reaches the cursor has there
abbrev pub IsFromScratch : Fold → Catalog → ℕ → List ℕ → List ℕ → Option (List ℕ) → Type 0
IsFromScratch f cs c key name found = (j : ℕ) × (c ≤ j) × (j ≤ length cs) × (found ≡ made_at f cs key j name)

-- the hive with this number
abbrev pub hive_at : ℕ → List HiveNow → Option HiveNow
hive_at k [] = None
hive_at zero (h ∷ hs) = Some h
hive_at (suc k) (h ∷ hs) = hive_at k hs

-- the commits of the page puts that took effect, in order
abbrev pub commits_in : List Happening → Catalog
commits_in [] = []
commits_in (Catalogs (PutPage c name bytes fate) ∷ es) = if took fate then c ∷ commits_in es else commits_in es
commits_in (e ∷ es) = commits_in es
