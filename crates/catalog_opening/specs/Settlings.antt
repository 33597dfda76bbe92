-- What settling answers, what it calls, and what it leaves.
use Rattle.std.specs.Prelude.{◌≡◌, ◌<◌, ◌⊎◌, ℕ, List, [], ◌∷◌, ◌++◌, length, Option, None, Some, Result, ⊤}
use Rattle.std.specs.declared.result.Result.TheVariants.{Ok, Err}
use Rattle.blob_store.specs.Area.{Area}
use Rattle.blob_store.specs.Events.{Act, Change}
use Rattle.pkg_meta.specs.Catalog.{Catalog}
use Rattle.pkg_meta.specs.declared.commit.Stored.{Stored}
use Rattle.catalog_doc.specs.CatDocs.{heads_of, rows_of}
use Rattle.catalog_doc.specs.Catalogs.{IsCatalog}
use Rattle.catalog_doc.specs.Commits.{index_put}
use Rattle.catalog_doc.specs.Names.{index_name}
use Rattle.catalog_doc.specs.declared.head.PageHead.{PageHead}
use Rattle.catalog_doc.specs.declared.row.Row.{Row}
use Rattle.catalog_opening.specs.Pages.{IsDamagedIn}
use Rattle.catalog_opening.specs.Plans.{last_gets}
use Rattle.catalog_opening.specs.Reads.{pages_at_most}
use Rattle.catalog_opening.specs.declared.error.ReadErr.{ReadErr}
use Rattle.catalog_opening.specs.declared.error.ReadErr.TheVariants.{Damaged, Fault, Memory}

-- a catalog with one commit more, or without
abbrev pub with_more : Catalog → Option Stored → Catalog
with_more cs None = cs
with_more cs (Some c) = cs ++ c ∷ []

-- the rows of that commit
abbrev pub more_rows : Option Stored → List Row
more_rows None = []
more_rows (Some c) = rows_of c

-- what an index says of these pages is known, and the catalog may have one commit more
pub record IsKnownBefore (cs : Catalog) (more : Option Stored) (pages : List PageHead) : Type 0 where
  pub whole : IsCatalog (with_more cs more)
  pub known : heads_of cs ≡ pages

-- the last page known is got, and the page behind it, and then the index is put
abbrev pub settling_plan : List ℕ → Catalog → Option Stored → List Act
settling_plan base cs more = last_gets (length (heads_of cs)) ++ Change (index_put base (with_more cs more)) ∷ []

-- these rows were read, unless a call failed or memory ran out; nothing is told as damaged
abbrev pub AreReadRows : List Row → Result (List Row) ReadErr → Type 0
AreReadRows rows (Ok read) = read ≡ rows
AreReadRows rows (Err (Damaged name)) = ⊥
AreReadRows rows (Err Fault) = ⊤
AreReadRows rows (Err Memory) = ⊤

-- a page known, or the page behind them, isn't held as is known; or more pages are known than a catalog may have
abbrev pub IsDamagedOrTooMany : Area → List ℕ → List PageHead → List ℕ → Type 0
IsDamagedOrTooMany m base pages name = IsDamagedIn m base pages name ⊎ ((name ≡ index_name) × (pages_at_most < length pages))
