-- The commits that the verdict lets onto a catalog.
use Rattle.std.specs.Prelude.{◌≡◌, ◌≤◌, ℕ, List}
use Rattle.std.specs.declared.result.Result.TheVariants.{Ok}
use Rattle.pkg_meta.specs.Catalog.{Catalog}
use Rattle.pkg_meta.specs.declared.commit.Stored.{Stored}
use Rattle.catalog_doc.specs.Catalogs.{IsCatalog}
use Rattle.catalog_doc.specs.Verdict.{verdict}
use Rattle.catalog_doc.specs.declared.change.Change.{Change}
use Rattle.catalog_laws.specs.Values.{AreChangeValues}

-- the verdict's commit of changes of the code's types onto a catalog, on a clock that shows a moment
pub record IsCommitOnto (cs : Catalog) (changes : List Change) (now : ℕ) (c : Stored) : Type 0 where
  pub whole : IsCatalog cs
  pub values : AreChangeValues changes
  pub moment : now ≤ 3_155_378_975_999_999_999
  pub taken : verdict cs changes now ≡ Ok c
