-- One place more of a commit that is planned.
use Rattle.std.proofs.Common.{◌≡◌, ◌<◌, ◌+◌, ◌∙◌, ℕ, suc, List, [], ◌∷◌, ◌++◌, length, map, drop, get_or, Option, refl, sym, ap, ap₂, add-one, append_assoc, arith}
use Rattle.std.proofs.lemmas.List.{drop_more}
use Rattle.nuget_version.specs.declared.version.Version.{Version}
use Rattle.package_id.specs.declared.id.PackageId.{PackageId}
use Rattle.blob_store.specs.declared.call.Call.{Call}
use Rattle.blob_store.specs.declared.call.Call.TheVariants.{Put}
use Rattle.pkg_meta.specs.Catalog.{Catalog}
use Rattle.pkg_meta.specs.Lawful.{Placed}
use Rattle.pkg_meta.specs.declared.item.Item.{Item}
use Rattle.pkg_meta.specs.declared.item.Item.TheVariants as the
use Rattle.catalog_doc.specs.CatDocs.{rows_from}
use Rattle.catalog_doc.specs.Commits.{deleted_item, last_changed, live_details, made_from, made_of, place_puts, relisted_item, staged_of, staged_puts}
use Rattle.catalog_doc.specs.Documents.{leaf_text}
use Rattle.catalog_doc.specs.Names.{leaf_name}
use Rattle.catalog_doc.specs.declared.change.Change.{Change}
use Rattle.catalog_doc.specs.declared.change.Change.TheVariants.{Publish, Unlist, Relist, Delete}
use Rattle.catalog_doc.specs.declared.row.Row.{Row}
use Rattle.commit_plan.specs.Plans.{AreKnownFor, deleted_by, IsKnownFor, IsListingOf, IsWrittenOf, made_by, made_with, relisted_by}
use Rattle.commit_plan.specs.declared.last.LastItem.{LastItem}
use Rattle.commit_plan.specs.declared.last.LastItem.TheVariants as the_last

-- the item that a change makes by what is known of a last item is the one made of the catalog
relisted_same : (i : PackageId) (v : Version) (last : Option Placed) (known : LastItem) → IsListingOf last known → relisted_by i v known ≡ relisted_item i v (live_details last)
relisted_same i v last the_last.Unneeded is = absurd is
relisted_same i v last (the_last.Listing number details) is = sym (ap (relisted_item i v) is.1)
relisted_same i v last (the_last.Written id version) is = absurd is

deleted_same : (i : PackageId) (v : Version) (last : Option Placed) (known : LastItem) → IsWrittenOf last known → deleted_by i v known ≡ deleted_item i v (live_details last)
deleted_same i v last the_last.Unneeded is = absurd is
deleted_same i v last (the_last.Listing number details) is = absurd is
deleted_same i v last (the_last.Written id version) is = sym (ap (deleted_item i v) is.1 ∙ ap₂ the.Gone is.2 is.3)

item_same : (cs : Catalog) (number stamp place : ℕ) (change : Change) (known : LastItem) → IsKnownFor cs change known
    → made_by number stamp place known change ≡ made_of number stamp place (live_details (last_changed cs change)) change
item_same cs number stamp place (Publish meta nuspec nupkg) known is = refl
item_same cs number stamp place (Unlist i v) known is = relisted_same i v (last_changed cs (Unlist i v)) known is
item_same cs number stamp place (Relist i v) known is = relisted_same i v (last_changed cs (Relist i v)) known is
item_same cs number stamp place (Delete i v) known is = deleted_same i v (last_changed cs (Delete i v)) known is

-- the items made with the last items of a catalog's versions are those made of it
pub made_same : (cs : Catalog) (number stamp place : ℕ) (changes : List Change) (lasts : List LastItem) → AreKnownFor cs changes lasts
    → made_with number stamp place lasts changes ≡ made_from cs number stamp place changes
made_same cs number stamp place [] lasts are = refl
made_same cs number stamp place (change ∷ changes) [] are = absurd are
made_same cs number stamp place (change ∷ changes) (last ∷ lasts) are =
    ap₂ (λ (it : Item) (items : List Item). it ∷ items) (item_same cs number stamp place change last are.0) (made_same cs number stamp (suc place) changes lasts are.1)

-- as many items are made as there are changes
pub length-made_with : (number stamp place : ℕ) (lasts : List LastItem) (changes : List Change) → length lasts ≡ length changes → length (made_with number stamp place lasts changes) ≡ length changes
length-made_with number stamp place lasts [] are = refl
length-made_with number stamp place [] (change ∷ changes) are = absurd (omega (arith, are))
length-made_with number stamp place (last ∷ lasts) (change ∷ changes) are =
    let rest : length lasts ≡ length changes = omega (arith, are) in
    omega (arith, length-made_with number stamp (suc place) lasts changes rest)

-- the changes and the last items from a place on
pub record IsAt (changes : List Change) (lasts : List LastItem) (i : ℕ) (change : Change) (last : LastItem) : Type 0 where
  pub changes_on : drop i changes ≡ change ∷ drop (i + 1) changes
  pub lasts_on : drop i lasts ≡ last ∷ drop (i + 1) lasts

pub is_at : (changes : List Change) (lasts : List LastItem) (i : ℕ) (change : Change) (last : LastItem) → i < length changes → i < length lasts
    → change ≡ get_or changes i change → last ≡ get_or lasts i last → IsAt changes lasts i change last
is_at changes lasts i change last lt below is told = record {
  changes_on = drop_more changes i change lt ∙ ap (λ (x : Change). x ∷ drop (i + 1) changes) (sym is);
  lasts_on = drop_more lasts i last below ∙ ap (λ (x : LastItem). x ∷ drop (i + 1) lasts) (sym told);
}

pub rows_on : (number stamp i : ℕ) (changes : List Change) (lasts : List LastItem) (change : Change) (last : LastItem) (so_far later whole : List Row) → IsAt changes lasts i change last
    → later ≡ so_far ++ rows_from number stamp i (made_by number stamp i last change ∷ [])
    → so_far ++ rows_from number stamp i (made_with number stamp i (drop i lasts) (drop i changes)) ≡ whole
    → later ++ rows_from number stamp (i + 1) (made_with number stamp (i + 1) (drop (i + 1) lasts) (drop (i + 1) changes)) ≡ whole
rows_on number stamp i changes lasts change last so_far later whole at pushed before =
    let rest = rows_from number stamp (suc i) (made_with number stamp (suc i) (drop (i + 1) lasts) (drop (i + 1) changes)) in
    let own = rows_from number stamp i (made_by number stamp i last change ∷ []) in
    ap (λ (k : ℕ). later ++ rows_from number stamp k (made_with number stamp k (drop (i + 1) lasts) (drop (i + 1) changes))) (add-one i)
    ∙ ap (λ (l : List Row). l ++ rest) pushed
    ∙ append_assoc so_far own rest
    ∙ sym (ap₂ (λ (ls : List LastItem) (xs : List Change). so_far ++ rows_from number stamp i (made_with number stamp i ls xs)) at.lasts_on at.changes_on)
    ∙ before

-- the puts at a place, and those behind it
put_on : (base : List ℕ) (number stamp i : ℕ) (it : Item) (items : List Item) (change : Change) (changes : List Change)
    → place_puts base number stamp i (it ∷ []) (staged_of change ∷ []) ++ place_puts base number stamp (suc i) items (map staged_of changes)
    ≡ place_puts base number stamp i (it ∷ items) (map staged_of (change ∷ changes))
put_on base number stamp i it items change changes =
    append_assoc (staged_puts number i (staged_of change)) (Put (leaf_name number i) (leaf_text base number i stamp it) ∷ []) (place_puts base number stamp (suc i) items (map staged_of changes))

pub calls_on : (base : List ℕ) (number stamp i : ℕ) (changes : List Change) (lasts : List LastItem) (change : Change) (last : LastItem) (so_far later whole : List Call)
    → IsAt changes lasts i change last
    → later ≡ so_far ++ place_puts base number stamp i (made_by number stamp i last change ∷ []) (staged_of change ∷ [])
    → so_far ++ place_puts base number stamp i (made_with number stamp i (drop i lasts) (drop i changes)) (map staged_of (drop i changes)) ≡ whole
    → later ++ place_puts base number stamp (i + 1) (made_with number stamp (i + 1) (drop (i + 1) lasts) (drop (i + 1) changes)) (map staged_of (drop (i + 1) changes)) ≡ whole
calls_on base number stamp i changes lasts change last so_far later whole at pushed before =
    let items = made_with number stamp (suc i) (drop (i + 1) lasts) (drop (i + 1) changes) in
    let rest = place_puts base number stamp (suc i) items (map staged_of (drop (i + 1) changes)) in
    let it = made_by number stamp i last change in
    ap (λ (k : ℕ). later ++ place_puts base number stamp k (made_with number stamp k (drop (i + 1) lasts) (drop (i + 1) changes)) (map staged_of (drop (i + 1) changes))) (add-one i)
    ∙ ap (λ (l : List Call). l ++ rest) pushed
    ∙ append_assoc so_far (place_puts base number stamp i (it ∷ []) (staged_of change ∷ [])) rest
    ∙ ap (λ (l : List Call). so_far ++ l) (put_on base number stamp i it items change (drop (i + 1) changes))
    ∙ sym (ap₂ (λ (ls : List LastItem) (xs : List Change). so_far ++ place_puts base number stamp i (made_with number stamp i ls xs) (map staged_of xs)) at.lasts_on at.changes_on)
    ∙ before
