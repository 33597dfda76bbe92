use Rattle.std.proofs.Common.{◌≡◌, ◌∙◌, ℕ, List, Err, Some, Option, option_map, ap, ap₂, subst, sym}
use Rattle.std.specs.Option.{option_copied}
use Rattle.std.proofs.lemmas.Result.{err_from_is_err_and}
use Rattle.nuget_version.specs.Printed.{key_text}
use Rattle.blob_store.specs.Plans.{Makes}
use Rattle.blob_store.proofs.OneCall.{none}
use Rattle.pkg_meta.specs.Lawful.{all_placed, last_of, Placed}
use Rattle.pkg_meta.specs.declared.item.Item.{Item}
use Rattle.catalog_doc.specs.declared.row.Row.{Row}
use Rattle.catalog_opening.specs.declared.error.ReadErr.TheVariants.{Memory}
use Rattle.catalog_opening.proofs.Halting.{damaged_told, halts_unstarted, reading_told}
use Rattle.catalog_rows.specs.Last.{last_row, placed_row}
use Rattle.catalog_items.specs.Leaves.{HoldsLeaf, IsNoLeafOf, leaf_gets}
use Rattle.commit_plan.specs.Lookups.{IsLastDamaged, listing_in}
use Rattle.commit_plan.proofs.LastLeaf.{last_leaf}
use Rattle.commit_plan.proofs.Lasts.{read_err}
use Rattle.commit_plan.proofs.known.listing_at.Goals as goal

pub returns-in_err-row-clause-runs : goal.returns-in_err-row-clause-runs
returns-in_err-row-clause-runs g c =
    let p = err_from_is_err_and c.from_residual.result c.from_residual.ensures.1 in
    reading_told _ (g.B.Blobs.seen c.args.area.now) (g.B.Blobs.seen c.args.area.now) c.from_residual.result Memory (p.1 ∙ ap Err p.2)
    (halts_unstarted _ (g.B.Blobs.seen c.args.area.now) (g.met.B.Blobs.now c.args.area.now))

pub returns-in_default-clause-runs : goal.returns-in_default-clause-runs
returns-in_default-clause-runs g c =
    subst (λ (found : Option Row). Makes (leaf_gets found) (g.B.Blobs.seen c.args.area.now) (g.B.Blobs.seen c.args.area.now))
    (sym (ap option_copied c.in_default.is) ∙ c.in_ok-row.ensures.row)
    (none (g.B.Blobs.seen c.args.area.now) (g.met.B.Blobs.now c.args.area.now))

-- the row is that of the last item
row_is : (id version : List ℕ) (placed : List Placed) (found : Option Row) (row : Row) (last : Placed) → found ≡ Some row → found ≡ option_map placed_row (last_of id version placed)
    → last_of id version placed ≡ Some last → row ≡ placed_row last
row_is id version placed found row last here told is =
    let same : Some row ≡ Some (placed_row last) = sym here ∙ told ∙ ap (option_map placed_row) is in
    cc

pub returns-in_err-item-clause-known : goal.returns-in_err-item-clause-known
returns-in_err-item-clause-known g c = λ cs last known is.
    let p = err_from_is_err_and c.from_residual-in_err-item.result c.from_residual-in_err-item.ensures.1 in
    let held = last_leaf c.args.rows.now (g.B.Blobs.seen c.args.area.now) c.args.base.now cs known c.args.id.now.key (key_text c.args.version.now) last is in
    let own = row_is c.args.id.now.key (key_text c.args.version.now) (all_placed cs) _ c.in-Some.row.now last (ap option_copied c.in-Some.is) (c.in_ok-row.ensures.item cs known.keeps.rows) is in
    read_err last.what (listing_in last.number last.what) c.in_err-item.field-0.0 c.from_residual-in_err-item.result (p.1 ∙ ap Err p.2)
    (c.in_err-item.ensures.exact held.area last.what held.area_is held.value (subst (λ (row : Row). HoldsLeaf held.area c.args.base.now row last.what) (sym own) held.leaf))

pub returns-in_err-item-clause-damaged : goal.returns-in_err-item-clause-damaged
returns-in_err-item-clause-damaged g c = λ m is.
    let p = err_from_is_err_and c.from_residual-in_err-item.result c.from_residual-in_err-item.ensures.1 in
    let found : last_row c.args.id.now.key (key_text c.args.version.now) c.args.rows.now.rows ≡ Some c.in-Some.row.now = sym c.in_ok-row.ensures.row ∙ ap option_copied c.in-Some.is in
    damaged_told (IsNoLeafOf m c.args.base.now c.in-Some.row.now) (IsLastDamaged m c.args.base.now c.args.rows.now.rows) c.from_residual-in_err-item.result c.in_err-item.field-0.0
    (p.1 ∙ ap Err p.2) (λ name no_leaf. (c.args.id.now.key, key_text c.args.version.now, c.in-Some.row.now, found, no_leaf)) (c.in_err-item.ensures.damaged m is)

pub returns-clause-known : goal.returns-clause-known
returns-clause-known g c = λ cs last known is.
    let held = last_leaf c.args.rows.now (g.B.Blobs.seen c.args.area.now) c.args.base.now cs known c.args.id.now.key (key_text c.args.version.now) last is in
    let own = row_is c.args.id.now.key (key_text c.args.version.now) (all_placed cs) _ c.in-Some.row.now last (ap option_copied c.in-Some.is) (c.in_ok-row.ensures.item cs known.keeps.rows) is in
    let item : c.in_ok-item.item ≡ last.what =
    c.in_ok-item.ensures.exact held.area last.what held.area_is held.value (subst (λ (row : Row). HoldsLeaf held.area c.args.base.now row last.what) (sym own) held.leaf) in
    c.listing_of.ensures ∙ ap₂ (λ (n : ℕ) (it : Item). listing_in n it) (ap (λ (row : Row). row.number) own) item
