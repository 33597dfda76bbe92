-- What a blob lacks that is told as damaged.
use Rattle.std.specs.Prelude.{◌≡◌, ◌⊎◌, ℕ, List, length, Option, None, Some, IfSome}
use Rattle.std.specs.FinMap.{get}
use Rattle.blob_store.specs.Area.{Area}
use Rattle.pkg_meta.specs.Catalog.{Catalog}
use Rattle.catalog_doc.specs.Names.{leaf_name}
use Rattle.catalog_opening.specs.Openings.{IsDamagedOf}
use Rattle.cursor_doc.specs.Cursor.{cursor_name}
use Rattle.hive_state.specs.State.{state_name}
use Rattle.job_round.specs.Cursors.{IsDamagedCursor}
use Rattle.job_round.specs.Items.{IsNoStaged}
use Rattle.job_round.specs.States.{IsNoState}

-- the name is that of a leaf
abbrev pub NamesLeaf : List ℕ → Type 0
NamesLeaf name = (number place : ℕ) × (name ≡ leaf_name number place)

-- The blob isn't as an opening needs it; or, behind an opening that did well, it isn't held, or it is a leaf.
abbrev pub IsLostOfCatalog : (before after : Option Area) → List ℕ → Type 0
IsLostOfCatalog before after name = (m later : Area) → before ≡ Some m → after ≡ Some later
    → IsDamagedOf m name ⊎ ((get later name ≡ None) ⊎ NamesLeaf name)

-- the name is that of a leaf, or of a publish's file that the catalog's area doesn't hold
abbrev pub IsUnread : Option Area → List ℕ → Type 0
IsUnread catalog name = (m : Area) → catalog ≡ Some m → NamesLeaf name ⊎ IsNoStaged m name

-- The hive's area has no cursor of any such catalog under this name, or no state of an id that it may have at the last commit.
abbrev pub IsLostOfHive : (Catalog → Type 0) → Option Area → List ℕ → Type 0
IsLostOfHive Is held name = IfSome held (λ m. ((name ≡ cursor_name) × IsDamagedCursor Is (get m cursor_name))
    ⊎ ((key : List ℕ) × (target : ℕ) × ((cs : Catalog) → Is cs → target ≡ length cs) × (name ≡ state_name key)
    × IsNoState key target (get m name)))
