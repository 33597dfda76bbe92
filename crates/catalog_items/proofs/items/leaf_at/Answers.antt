use Rattle.std.proofs.Common.{◌≡◌, ◌∙◌, ℕ, List, [], Option, Some, None, IfOk, IfSome, ap, sym, subst}
use Rattle.std.specs.Option.{option_copied}
use Rattle.blob_store.proofs.OneCall.{none}
use Rattle.pkg_meta.specs.declared.item.Item.{Item}
use Rattle.catalog_doc.specs.Names.{leaf_name}
use Rattle.catalog_doc.specs.declared.row.Row.{Row}
use Rattle.catalog_opening.specs.Plans.{HaltsAt}
use Rattle.catalog_opening.proofs.Halting.{halts_made, never_fault}
use Rattle.catalog_items.specs.Leaves.{HasNoLeaf, HoldsLeaf, IsNoLeafOf, leaf_gets, row_with}
use Rattle.catalog_items.proofs.Absent.{read_weaker}
use Rattle.catalog_items.proofs.LeafReads.{found_has}
use Rattle.catalog_items.proofs.items.leaf_at.Goals as goal

pub returns-in-Some-clause-ok : goal.returns-in-Some-clause-ok
returns-in-Some-clause-ok g c = λ m is.
    let found : row_with c.args.number c.args.place c.args.rows.now ≡ Some c.in-Some.row.now = sym c.row_with.ensures ∙ ap option_copied c.in-Some.is in
    subst (λ (o : Option Row). IfOk c.item_at.result (λ (it : Item). IfSome o (λ (row : Row). HoldsLeaf m c.args.base.now row it))) (sym found) (c.item_at.ensures.ok m is)

pub returns-in-Some-clause-damaged : goal.returns-in-Some-clause-damaged
returns-in-Some-clause-damaged g c = λ m is.
    let found : row_with c.args.number c.args.place c.args.rows.now ≡ Some c.in-Some.row.now = sym c.row_with.ensures ∙ ap option_copied c.in-Some.is in
    read_weaker (IsNoLeafOf m c.args.base.now c.in-Some.row.now)
    (λ (n : List ℕ). (n ≡ leaf_name c.args.number c.args.place) × IfSome (row_with c.args.number c.args.place c.args.rows.now) (HasNoLeaf m c.args.base.now)) c.item_at.result
    (λ n told. (
      told.0 ∙ found_has c.args.number c.args.place c.args.rows.now c.in-Some.row.now found,
      subst (λ (o : Option Row). IfSome o (HasNoLeaf m c.args.base.now)) (sym found) told.1,
    ))
    (c.item_at.ensures.damaged m is)

pub returns-in-None-clause-runs : goal.returns-in-None-clause-runs
returns-in-None-clause-runs g c =
    let found : row_with c.args.number c.args.place c.args.rows.now ≡ None = sym c.row_with.ensures ∙ ap option_copied c.in-None.is in
    let a = g.B.Blobs.seen c.args.area.now in
    subst (λ (o : Option Row). HaltsAt (leaf_gets o) c.no_leaf.result a a) (sym found)
    (halts_made [] c.no_leaf.result a a (none a (g.met.B.Blobs.now c.args.area.now))
    (never_fault (λ (n : List ℕ). n ≡ leaf_name c.args.number c.args.place) c.no_leaf.result c.no_leaf.ensures))
