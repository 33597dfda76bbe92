-- What the data of a leaf shows beside its details.
use Rattle.std.proofs.Common.{◌≡◌, ℕ, List, [], ◌∷◌, true, false, codes, map, slice_get, Some, refl, ◌∙◌, ap}
use Rattle.std.specs.Option.{option_and_then}
use Rattle.serde_json.specs.Data.{Data, string}
use Rattle.serde_json.specs.Find.{as_str}
use Rattle.serde_json.specs.View.{view}
use Rattle.serde_json.specs.declared.value.Value.{Value}
use Rattle.nuget_version.specs.Printed.{full_text}
use Rattle.nuget_version.specs.declared.version.Version.{Version}
use Rattle.package_id.specs.declared.id.PackageId.{PackageId}
use Rattle.ticks.specs.Stamp.{stamp_text}
use Rattle.pkg_meta.specs.Items.{is_gone}
use Rattle.pkg_meta.specs.Values.{items_at, text_at}
use Rattle.pkg_meta.specs.declared.item.Details.{Details}
use Rattle.pkg_meta.specs.declared.item.Item.{Item}
use Rattle.pkg_meta.specs.declared.item.Item.TheVariants as the
use Rattle.catalog_doc.specs.Documents.{details_leaf_table, leaf_data}
use Rattle.catalog_doc.proofs.Slotted.{table_get}
use Rattle.catalog_reading.specs.Shown.{leaf_kind}

pub leaf_stamp : (base : List ℕ) (n p stamp : ℕ) (it : Item) (x : Data) → x ≡ leaf_data base n p stamp it → text_at (codes "catalog:commitTimeStamp") x ≡ Some (stamp_text stamp)
leaf_stamp base n p stamp (the.Details d) x is =
    ap (text_at (codes "catalog:commitTimeStamp")) is ∙ ap (option_and_then as_str) (table_get (codes "catalog:commitTimeStamp") (details_leaf_table base n p stamp d) refl)
leaf_stamp base n p stamp (the.Gone i v) x is = ap (text_at (codes "catalog:commitTimeStamp")) is

pub leaf_type : (base : List ℕ) (n p stamp : ℕ) (it : Item) (x : Data) → x ≡ leaf_data base n p stamp it → items_at (codes "@type") x ≡ string (leaf_kind (is_gone it)) ∷ []
leaf_type base n p stamp (the.Details d) x is = ap (items_at (codes "@type")) is
leaf_type base n p stamp (the.Gone i v) x is = ap (items_at (codes "@type")) is

pub gone_id : (base : List ℕ) (n p stamp : ℕ) (i : PackageId) (v : Version) (x : Data) → x ≡ leaf_data base n p stamp (the.Gone i v) → text_at (codes "id") x ≡ Some i.text
gone_id base n p stamp i v x is = ap (text_at (codes "id")) is

pub gone_version : (base : List ℕ) (n p stamp : ℕ) (i : PackageId) (v : Version) (x : Data) → x ≡ leaf_data base n p stamp (the.Gone i v) → text_at (codes "version") x ≡ Some (full_text v)
gone_version base n p stamp i v x is = ap (text_at (codes "version")) is

-- the first of the values whose data are this alone
pub first_of_one : (vs : List Value) (d : Data) → map view vs ≡ d ∷ [] → (y : Value) × (slice_get vs 0 ≡ Some y) × (view y ≡ d)
first_of_one [] d e = absurd (let no_way : ⊥ = cc in no_way)
first_of_one (v ∷ vs) d e = (v, refl, (let own : view v ≡ d = cc in own))

-- an item is a delete, or details
pub if_gone : (P : Item → Type 0) (it : Item) → is_gone it ≡ true → ((i : PackageId) (v : Version) → P (the.Gone i v)) → P it
if_gone P (the.Details d) e gone = cc
if_gone P (the.Gone i v) e gone = gone i v

pub if_details : (P : Item → Type 0) (it : Item) → is_gone it ≡ false → ((d : Details) → P (the.Details d)) → P it
if_details P (the.Details d) e details = details d
if_details P (the.Gone i v) e details = cc
