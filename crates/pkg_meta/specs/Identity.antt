-- The id and the version that an object says.
use Rattle.std.specs.Prelude.{◌≡◌, codes}
use Rattle.serde_json.specs.Data.{Data}
use Rattle.nuget_version.specs.Grammar.{Spells}
use Rattle.pkg_meta.specs.Values.{text_or_empty}
use Rattle.pkg_meta.specs.declared.meta.Identity.{Identity}

-- they are those of the object
pub record IsIdentityOf (d : Data) (i : Identity) : Type 0 where
  pub id : i.id.text ≡ text_or_empty (codes "id") d
  pub verbatim : i.verbatim ≡ text_or_empty (codes "version") d
  pub version : Spells i.verbatim i.version
