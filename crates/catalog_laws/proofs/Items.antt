-- The items of changes that fit a catalog are lawful there.
use Rattle.std.proofs.Common.{◌≡◌, ℕ, suc, List, [], ◌∷◌, ◌++◌, map, true, Option, Some, None, refl, sym, ◌∙◌, ap, subst}
use Rattle.nuget_version.specs.Printed.{key_text}
use Rattle.nuget_version.specs.declared.version.Version.{Version}
use Rattle.package_id.specs.declared.id.PackageId.{PackageId}
use Rattle.pkg_meta.specs.Catalog.{Catalog}
use Rattle.pkg_meta.specs.Items.{is_gone}
use Rattle.pkg_meta.specs.Lawful.{all_placed, AreLawfulItems, IsFree, IsLawfulItem, IsOfDetails, last_of, Placed}
use Rattle.pkg_meta.specs.declared.item.Details.{Details}
use Rattle.pkg_meta.specs.declared.item.Item.{Item}
use Rattle.pkg_meta.specs.declared.item.Item.TheVariants as the
use Rattle.catalog_doc.specs.Commits.{deleted_item, details_of, last_changed, live_details, made_from, relisted_item, staged_of}
use Rattle.catalog_doc.specs.Verdict.{absent, existing, first_reason, id_full, last_number_of, unfit}
use Rattle.catalog_doc.specs.declared.change.Change.{Change}
use Rattle.catalog_doc.specs.declared.change.Change.TheVariants.{Publish, Unlist, Relist, Delete}
use Rattle.catalog_laws.proofs.Pairs.{IsOfKeys, item_by, keys_of, last_at}
use Rattle.catalog_laws.proofs.Reasons.{both_none}

-- a version that isn't there is free
gone_item : (place number : ℕ) (it : Item) → existing place number (details_of it) ≡ None → is_gone it ≡ true
gone_item place number (the.Details d) e = cc
gone_item place number (the.Gone i v) e = refl

free : (place number : ℕ) (found : Option Placed) → existing place number (live_details found) ≡ None → IsFree found
free place number None e = tt
free place number (Some x) e = gone_item place number x.what e

-- a version that is there has a last item with its details
pub record IsThere (found : Option Placed) : Type 0 where
  pub item : Placed
  pub details : Details
  pub found_is : found ≡ Some item
  pub item_is : item.what ≡ the.Details details

details_there : (place number : ℕ) (it : Item) → absent place number (details_of it) ≡ None → (d : Details) × (it ≡ the.Details d)
details_there place number (the.Details d) e = (d, refl)
details_there place number (the.Gone i v) e = cc

pub there : (place number : ℕ) (found : Option Placed) → absent place number (live_details found) ≡ None → IsThere found
there place number None e = cc
there place number (Some x) e =
    let own = details_there place number x.what e in
    record { item = x; details = own.0; found_is = refl; item_is = own.1 }

module _ (i : PackageId) (v : Version) (before : List Placed) (is : IsThere (last_of i.key (key_text v) before)) where
  abbrev old : Details
  old = is.details

  -- its details are of the version
  old_keys : IsOfKeys i.key (key_text v) (the.Details old)
  old_keys = subst (IsOfKeys i.key (key_text v)) is.item_is
      (keys_of i.key (key_text v) is.item.what (last_at i.key (key_text v) before is.item is.found_is).own)

  pub live_is : live_details (last_of i.key (key_text v) before) ≡ Some old
  live_is = ap live_details is.found_is ∙ ap details_of is.item_is

  -- and its last item is found by their keys
  pub found_by_old : IsOfDetails (last_of old.meta.id.key (key_text old.meta.version) before) old
  found_by_old = subst (λ (found : Option Placed). IsOfDetails found old)
      (sym ((λ j. last_of (old_keys.id_is j) (old_keys.version_is j) before) ∙ is.found_is)) is.item_is

  pub lawful_relisting : (number stamp place : ℕ)
      → IsLawfulItem before number stamp place (relisted_item i v (live_details (last_of i.key (key_text v) before))) None
  lawful_relisting number stamp place =
      subst (λ (o : Option Details). IsLawfulItem before number stamp place (relisted_item i v o) None) (sym live_is) (old, refl, found_by_old)

  pub lawful_delete : (number stamp place : ℕ)
      → IsLawfulItem before number stamp place (deleted_item i v (live_details (last_of i.key (key_text v) before))) None
  lawful_delete number stamp place =
      subst (λ (o : Option Details). IsLawfulItem before number stamp place (deleted_item i v o) None) (sym live_is) (old, refl, refl, found_by_old)

lawful_item : (cs : Catalog) (number stamp place n : ℕ) (earlier : List Change) (change : Change) → unfit cs n earlier change ≡ None
    → IsLawfulItem (all_placed cs) number stamp place (item_by cs number stamp place change) (staged_of change)
lawful_item cs number stamp place n earlier (Publish meta nuspec nupkg) fits =
    let last = last_changed cs (Publish meta nuspec nupkg) in
    let parts = both_none (existing n (last_number_of last) (live_details last)) (id_full cs n earlier meta.id.key) fits in
    record { itself = refl; free = free n (last_number_of last) last parts.0 }
lawful_item cs number stamp place n earlier (Unlist i v) fits =
    let last = last_changed cs (Unlist i v) in
    lawful_relisting i v (all_placed cs) (there n (last_number_of last) last fits) number stamp place
lawful_item cs number stamp place n earlier (Relist i v) fits =
    let last = last_changed cs (Relist i v) in
    lawful_relisting i v (all_placed cs) (there n (last_number_of last) last fits) number stamp place
lawful_item cs number stamp place n earlier (Delete i v) fits =
    let last = last_changed cs (Delete i v) in
    lawful_delete i v (all_placed cs) (there n (last_number_of last) last fits) number stamp place

pub lawful_items : (cs : Catalog) (number stamp place n : ℕ) (earlier changes : List Change) → first_reason (unfit cs) earlier n changes ≡ None
    → AreLawfulItems (all_placed cs) number stamp place (made_from cs number stamp place changes) (map staged_of changes)
lawful_items cs number stamp place n earlier [] fit = tt
lawful_items cs number stamp place n earlier (change ∷ changes) fit =
    let parts = both_none (unfit cs n earlier change) (first_reason (unfit cs) (earlier ++ change ∷ []) (suc n) changes) fit in
    (lawful_item cs number stamp place n earlier change parts.0, lawful_items cs number stamp (suc place) (suc n) (earlier ++ change ∷ []) changes parts.1)
