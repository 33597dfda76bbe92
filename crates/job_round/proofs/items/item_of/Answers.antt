use Rattle.std.proofs.Common.{Err, [], ◌∷◌, Bool, cond, IfSome, ap, refl, subst, sym, ◌∙◌, ℕ, Some, ◌≡◌}
use Rattle.std.proofs.lemmas.Result.{err_from_is_err_and}
use Rattle.std.specs.List.{slice_get}
use Rattle.blob_store.specs.Area.{Area}
use Rattle.blob_store.specs.Plans.{Makes}
use Rattle.blob_store.proofs.OneCall.{none}
use Rattle.catalog_doc.specs.declared.row.Row.{Row}
use Rattle.catalog_items.specs.Leaves.{HasNoLeaf, row_with}
use Rattle.catalog_rows.specs.Kept.{Kept}
use Rattle.job_round.specs.Reads.{RunsReads, leaf_get}
use Rattle.job_round.specs.declared.stop.Stop.TheVariants.{Memory}
use Rattle.job_round.specs.Stops.{IsElse}
use Rattle.job_round.proofs.Placing.{in_catalog, leaf_lost}
use Rattle.job_round.proofs.Reading.{leaf_done, leaf_halts, reads_behind, reads_told, stands}
use Rattle.job_round.proofs.Staying.{else_of_read, memory_quiet, quiet_ok, stays_still}
use Rattle.job_round.proofs.items.item_of.Goals as goal

pub returns-in_err-item-clause-stays : goal.returns-in_err-item-clause-stays
returns-in_err-item-clause-stays g c =
    let p = err_from_is_err_and c.from_residual.result c.from_residual.ensures.1 in
    stays_still _ _ c.from_residual.result (g.met.B.Blobs.now c.args.catalog.now.area) (memory_quiet c.from_residual.result (p.1 ∙ ap Err p.2))

pub returns-then-row-clause-stays : goal.returns-then-row-clause-stays
returns-then-row-clause-stays g c = stays_still _ _ _ (g.met.B.Blobs.now c.args.catalog.now.area) (quiet_ok c.in_ok-item.item)

pub returns-in-Ok-clause-item : goal.returns-in-Ok-clause-item
returns-in-Ok-clause-item g c = λ cs x is_open there same.
    let at = in_catalog cs x there in
    c.in-Ok.ensures.reads cs at.0 x.what is_open at.1 (at.2 ∙ sym (ap (λ (r : Row). r.number) same))
    (subst (λ (n : ℕ). slice_get at.0.commit.items n ≡ Some x.what) (sym (ap (λ (r : Row). r.place) same)) at.3)

pub returns-in-Err-clause-cause : goal.returns-in-Err-clause-cause
returns-in-Err-clause-cause g c = λ settled kept.
    let at = stands c.args.row.now.number c.args.row.now.place c.args.catalog.now.kept.rows c.args.row.now refl refl kept in
    leaf_lost c.args.catalog.now c.leaf.new.self (g.B.Blobs.seen c.args.catalog.now.area) (g.B.Blobs.seen c.leaf.new.self.area) c.args.row.now.number c.args.row.now.place
    c.in-Err.error c.catalog_stop.result c.catalog_stop.ensures c.in-Err.ensures.damaged settled (c.in-Err.ensures.stays.settled settled).1
    at.0 (ap (λ (k : Kept). row_with c.args.row.now.number c.args.row.now.place k.rows) (c.in-Err.ensures.stays.kept settled) ∙ at.1)

pub returns-in_err-item-clause-reads : goal.returns-in_err-item-clause-reads
returns-in_err-item-clause-reads g c = λ settled kept.
    let p = err_from_is_err_and c.from_residual.result c.from_residual.ensures.1 in
    subst (λ (b : Bool). RunsReads (cond b [] (leaf_get c.args.row.now ∷ [])) (g.B.Blobs.seen c.args.catalog.now.area) (g.B.Blobs.seen c.args.catalog.now.area) c.from_residual.result)
    (sym c.if-row.true)
    (reads_told [] (g.B.Blobs.seen c.args.catalog.now.area) (g.B.Blobs.seen c.args.catalog.now.area) Memory c.from_residual.result (p.1 ∙ ap Err p.2)
    (reads_behind [] (g.B.Blobs.seen c.args.catalog.now.area) (g.B.Blobs.seen c.args.catalog.now.area)
    (none (g.B.Blobs.seen c.args.catalog.now.area) (g.met.B.Blobs.now c.args.catalog.now.area)) (λ n. ⊥) Memory tt))

pub returns-then-row-clause-reads : goal.returns-then-row-clause-reads
returns-then-row-clause-reads g c = λ settled kept.
    subst (λ (b : Bool). Makes (cond b [] (leaf_get c.args.row.now ∷ [])) (g.B.Blobs.seen c.args.catalog.now.area) (g.B.Blobs.seen c.args.catalog.now.area))
    (sym c.if-row.true) (none (g.B.Blobs.seen c.args.catalog.now.area) (g.met.B.Blobs.now c.args.catalog.now.area))

pub returns-in-Ok-clause-reads : goal.returns-in-Ok-clause-reads
returns-in-Ok-clause-reads g c = λ settled kept.
    leaf_done c.args.catalog.now (g.B.Blobs.seen c.args.catalog.now.area) (g.B.Blobs.seen c.leaf.new.self.area) c.args.row.now kept c.if-row.false (c.in-Ok.ensures.runs settled)

pub returns-in-Err-clause-reads : goal.returns-in-Err-clause-reads
returns-in-Err-clause-reads g c = λ settled kept.
    leaf_halts c.args.catalog.now (g.B.Blobs.seen c.args.catalog.now.area) (g.B.Blobs.seen c.leaf.new.self.area) c.args.row.now kept c.if-row.false
    c.in-Err.error c.catalog_stop.result c.catalog_stop.ensures settled (c.in-Err.ensures.stays.settled settled).1
    (λ (now : Area). IfSome (row_with c.args.row.now.number c.args.row.now.place c.leaf.new.self.kept.rows) (HasNoLeaf now c.leaf.new.self.base)) (c.in-Err.ensures.runs settled)
    (λ m now held at. c.in-Err.ensures.damaged m now held at)

pub returns-in-Err-clause-other : goal.returns-in-Err-clause-other
returns-in-Err-clause-other g c = subst IsElse (sym c.catalog_stop.ensures) (else_of_read c.in-Err.error)
