-- A feed as a whole: the catalog with its area, the hives with their rounds, and whether it is up.
use Rattle.std.specs.Prelude.{ℕ, List, Bool, Option}
use Rattle.blob_store.specs.Area.{Area}
use Rattle.pkg_meta.specs.Catalog.{Catalog}
use Rattle.pkg_meta.specs.declared.state.StateDoc.{StateDoc}
use Rattle.fold_core.specs.Folds.{Look}

-- a standing round of a hive: its target, and the keys of the ids that it takes up, each in one of four lists
pub record Round : Type 0 where
  pub target : ℕ
  pub waiting : List (List ℕ)
  pub claimed : List (List ℕ)
  pub finished : List (List ℕ)
  pub resting : List (List ℕ)

-- a hive: its documents by name, its states by key, its cursor, and the round that stands
pub record HiveNow : Type 0 where
  pub held : Look (List ℕ)
  pub states : Look StateDoc
  pub cursor : ℕ
  pub round : Option Round

-- a feed below a base address
pub record World : Type 0 where
  pub base : List ℕ
  pub commits : Catalog
  pub area : Area
  pub hives : List HiveNow
  pub up : Bool
