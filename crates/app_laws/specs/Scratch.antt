-- What a hive makes of a catalog from scratch.
use Rattle.std.specs.Prelude.{◌≡◌, ℕ, List, length, Option, Some, IsSome}
use Rattle.std.specs.FinMap.{get}
use Rattle.std.specs.Option.{option_and_then}
use Rattle.blob_store.specs.Area.{Area}
use Rattle.pkg_meta.specs.Catalog.{Catalog}
use Rattle.cursor_doc.specs.Cursor.{cursor_name}
use Rattle.fold_core.specs.Docs.{id_doc, owner}
use Rattle.fold_core.specs.declared.hive.HiveName.{HiveName}
use Rattle.hive_laws.specs.Areas.{IsHiveName, cursor_at}
use Rattle.feed_app.specs.Hives.{keeps_in, makes_in}

-- the bytes of the document of this name that a hive makes of a catalog below a base address, or nothing
abbrev pub from_scratch : HiveName → List ℕ → Catalog → List ℕ → Option (List ℕ)
from_scratch hive base cs name = option_and_then (λ (key : List ℕ). id_doc (keeps_in hive) (makes_in hive) base cs key name) (owner name)

-- An area is what the hive makes of a catalog: each document that an id owns, and no other, and the cursor of the last commit. Beside
-- these it holds states alone.
pub record IsFromScratchOf (hive : HiveName) (base : List ℕ) (cs : Catalog) (m : Area) : Type 0 where
  pub documents : (key name : List ℕ) → owner name ≡ Some key → get m name ≡ from_scratch hive base cs name
  pub cursor : get m cursor_name ≡ cursor_at cs (length cs)
  pub others : (name : List ℕ) → IsSome (get m name) → IsHiveName name
