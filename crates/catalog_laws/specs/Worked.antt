-- A version from its publish on.
use Rattle.std.specs.Prelude.{◌≡◌, ◌≤◌, ℕ, [], ◌∷◌, ◌++◌}
use Rattle.std.specs.declared.result.Result.TheVariants.{Ok}
use Rattle.nuget_version.specs.Printed.{key_text}
use Rattle.pkg_meta.specs.Catalog.{Catalog}
use Rattle.pkg_meta.specs.declared.meta.Meta.{Meta}
use Rattle.catalog_doc.specs.Commits.{changed_id, changed_version, made}
use Rattle.catalog_doc.specs.Verdict.{verdict}
use Rattle.catalog_doc.specs.declared.change.Change.{Change}
use Rattle.catalog_doc.specs.declared.change.Change.TheVariants.{Publish}

-- a catalog with the commit that one change makes
abbrev pub with_change : Catalog → Change → ℕ → Catalog
with_change cs change now = cs ++ made cs (change ∷ []) now ∷ []

-- the catalog of one publish
abbrev pub one_publish : Meta → ℕ → Catalog
one_publish meta now = with_change [] (Publish meta [] []) now

-- the change speaks of the version of this metadata, whatever the case of its letters
pub record IsChangeOf (meta : Meta) (change : Change) : Type 0 where
  pub id : (changed_id change).key ≡ meta.id.key
  pub version : key_text (changed_version change) ≡ key_text meta.version

-- the verdict lets this one change onto the catalog
abbrev pub IsLetOn : Catalog → Change → ℕ → Type 0
IsLetOn cs change now = verdict cs (change ∷ []) now ≡ Ok (made cs (change ∷ []) now)

-- two moments, behind which there are two more
pub record AreInTime (now next : ℕ) : Type 0 where
  pub first : now ≤ 3_155_378_975_999_999_997
  pub second : next ≤ 3_155_378_975_999_999_998
