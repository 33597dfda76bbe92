use Rattle.std.proofs.Common.{◌≡◌, ◌∙◌, ℕ, List, Err, IfOk, IfSome, ap, inl, inr, refl, subst, sym}
use Rattle.std.proofs.lemmas.Result.{err_from_is_err_and}
use Rattle.pkg_meta.specs.declared.item.Item.{Item}
use Rattle.catalog_doc.specs.Names.{leaf_name}
use Rattle.catalog_doc.specs.declared.row.Row.{Row}
use Rattle.catalog_opening.proofs.Halting.{damaged_told}
use Rattle.catalog_items.specs.Leaves.{HasNoLeaf, HoldsLeaf, leaf_gets, row_with}
use Rattle.catalog_items.proofs.Absent.{read_weaker}
use Rattle.catalog_items.proofs.Getting.{only_gets}
use Rattle.catalog_opening.specs.Plans.{RunsReading}
use Rattle.catalog_core.specs.Opened.{IsUnsettled, Opened}
use Rattle.catalog_core.proofs.Frames.{ready_of, stays_gets}
use Rattle.catalog_core.proofs.Reading.{below, leaf_gets_are, leaf_read, settled_runs}
use Rattle.catalog_core.proofs.catalog.Catalog.leaf.Goals as goal

pub returns-in_err-settle-clause-damaged : goal.returns-in_err-settle-clause-damaged
returns-in_err-settle-clause-damaged g c = λ m now held at.
    let p = err_from_is_err_and c.from_residual.result c.from_residual.ensures.1 in
    damaged_told (IsUnsettled m c.args.self.now) _ c.from_residual.result c.in_err-settle.field-0.0 (p.1 ∙ ap Err p.2) (λ name told. inl told) (c.in_err-settle.ensures.damaged m held)

pub returns-clause-reads : goal.returns-clause-reads
returns-clause-reads g c = λ cs commit it open_for there at is.
    let stays = c.in_ok-settle.ensures.stays in
    let opened = rw (← c.self.view_is) at (stays.open_for cs open_for).open_for in
    let ready = ready_of _ _ cs (rw (← c.self.view_is) at c.in_ok-settle.ensures.settled) opened in
    leaf_read _ _ cs ready commit it c.args.number c.args.place c.as_str.result.now c.as_slice.result.now c.as_str.ensures c.as_slice.ensures there at is
    c.leaf_at.result c.leaf_at.ensures.exact

pub returns-clause-stays : goal.returns-clause-stays
returns-clause-stays g c =
    stays_gets _ _ _ _ (g.B.Blobs.seen c.self.inside.area) _ _ _ (rw (← c.self.view_is) at c.in_ok-settle.ensures.stays) (λ is. let no : ⊥ = cc in no)
    (only_gets _ _ _ (leaf_gets_are _) c.leaf_at.result c.leaf_at.ensures.runs) refl refl refl

pub returns-clause-held : goal.returns-clause-held
returns-clause-held g c = λ now at.
    let gets = only_gets _ _ _ (leaf_gets_are _) c.leaf_at.result c.leaf_at.ensures.runs in
    below (λ (base : List ℕ) (rows : List Row). IfOk c.leaf_at.result (λ (it : Item). IfSome (row_with c.args.number c.args.place rows) (λ (row : Row). HoldsLeaf now base row it)))
    c.as_str.ensures c.as_slice.ensures (c.leaf_at.ensures.ok now (sym gets.area ∙ at))

pub returns-clause-damaged : goal.returns-clause-damaged
returns-clause-damaged g c = λ m now held at.
    let gets = only_gets _ _ _ (leaf_gets_are _) c.leaf_at.result c.leaf_at.ensures.runs in
    read_weaker (λ (name : List ℕ). (name ≡ leaf_name c.args.number c.args.place) × IfSome (row_with c.args.number c.args.place c.as_slice.result.now) (HasNoLeaf now c.as_str.result.now)) _ c.leaf_at.result
    (λ name told. inr (told.0, below (λ (base : List ℕ) (rows : List Row). IfSome (row_with c.args.number c.args.place rows) (HasNoLeaf now base)) c.as_str.ensures c.as_slice.ensures told.1))
    (c.leaf_at.ensures.damaged now (sym gets.area ∙ at))

pub returns-in_err-settle-clause-runs : goal.returns-in_err-settle-clause-runs
returns-in_err-settle-clause-runs g c = λ settled. absurd (c.in_err-settle.ensures.same settled).1

pub returns-clause-runs : goal.returns-clause-runs
returns-clause-runs g c = λ settled.
    settled_runs g.B.Blobs.seen c.args.self.now _ (λ (o : Opened _). leaf_gets (row_with c.args.number c.args.place o.kept.rows)) (g.B.Blobs.seen c.leaf_at.new.area) c.leaf_at.result
    (c.self.view_is ∙ (c.in_ok-settle.ensures.same settled).0)
    (subst (λ (rows : List Row). RunsReading (leaf_gets (row_with c.args.number c.args.place rows)) (g.B.Blobs.seen c.self.inside.area) (g.B.Blobs.seen c.leaf_at.new.area) c.leaf_at.result)
    c.as_slice.ensures c.leaf_at.ensures.runs)
