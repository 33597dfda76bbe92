-- What an item says, and the item that a publish makes.
use Rattle.std.specs.Prelude.{ℕ, List, Bool, true, false}
use Rattle.nuget_version.specs.declared.version.Version.{Version}
use Rattle.package_id.specs.declared.id.PackageId.{PackageId}
use Rattle.pkg_meta.specs.declared.meta.Meta.{Meta}
use Rattle.pkg_meta.specs.declared.item.Details.{Details}
use Rattle.pkg_meta.specs.declared.item.Item.{Item}
use Rattle.pkg_meta.specs.declared.item.Item.TheVariants as the

-- the package that the item speaks of
abbrev pub id_of : Item → PackageId
id_of (the.Details d) = d.meta.id
id_of (the.Gone i v) = i

-- the version that an item is of
abbrev pub version_of : Item → Version
version_of (the.Details d) = d.meta.version
version_of (the.Gone i v) = v

-- whether it says that the version was deleted
abbrev pub is_gone : Item → Bool
is_gone (the.Details d) = false
is_gone (the.Gone i v) = true

-- the listed item of a publish, whose origin is itself
abbrev pub published : Meta → ℕ → ℕ → ℕ → ℕ → List ℕ → Details
published meta number place stamp size hash = record {
  meta = meta;
  listed = true;
  created = stamp;
  origin_number = number;
  origin_place = place;
  size = size;
  hash = hash;
}
