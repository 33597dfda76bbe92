-- The leaf of a row's item.
use Rattle.std.specs.Prelude.{◌≡◌, ℕ, List}
use Rattle.pkg_meta.specs.Items.{id_of, version_of, is_gone}
use Rattle.pkg_meta.specs.declared.item.Item.{Item}
use Rattle.catalog_doc.specs.Documents.{leaf_text}
use Rattle.catalog_doc.specs.declared.row.Row.{Row}

-- the row says of the item what it is
pub record TellsOf (row : Row) (it : Item) : Type 0 where
  pub id : id_of it ≡ row.id
  pub version : version_of it ≡ row.version
  pub kind : is_gone it ≡ row.gone

-- the bytes are the leaf, at the row's place, of an item of the row
pub record IsLeafOf (base : List ℕ) (row : Row) (bytes : List ℕ) (it : Item) : Type 0 where
  pub own : TellsOf row it
  pub text : bytes ≡ leaf_text base row.number row.place row.stamp it
