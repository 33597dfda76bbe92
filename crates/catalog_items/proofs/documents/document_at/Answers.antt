use Rattle.std.proofs.Common.{◌∙◌, [], ◌∷◌, Bool, Err, ap, subst, sym}
use Rattle.std.specs.Prelude.{if◌then◌else◌}
use Rattle.std.proofs.lemmas.Result.{err_from_is_err_and}
use Rattle.blob_store.specs.Events.{Get}
use Rattle.blob_store.specs.Plans.{Makes}
use Rattle.blob_store.proofs.OneCall.{none}
use Rattle.catalog_opening.specs.Plans.{HaltsAt}
use Rattle.catalog_opening.specs.declared.error.ReadErr.TheVariants.{Memory}
use Rattle.catalog_opening.proofs.Halting.{halts_unstarted, reading_told}
use Rattle.catalog_items.proofs.documents.document_at.Goals as goal

pub returns-in_err-there-clause-runs : goal.returns-in_err-there-clause-runs
returns-in_err-there-clause-runs g c =
    let p = err_from_is_err_and c.from_residual.result c.from_residual.ensures.1 in
    reading_told _ (g.B.Blobs.seen c.args.area.now) (g.B.Blobs.seen c.args.area.now) c.from_residual.result Memory (p.1 ∙ ap Err p.2)
    (halts_unstarted _ (g.B.Blobs.seen c.args.area.now) (g.met.B.Blobs.now c.args.area.now))

pub returns-then-not-there-clause-runs : goal.returns-then-not-there-clause-runs
returns-then-not-there-clause-runs g c =
    subst (λ (there : Bool). Makes (if there then Get c.args.name.now ∷ [] else []) (g.B.Blobs.seen c.args.area.now) (g.B.Blobs.seen c.args.area.now))
    (sym c.if-not-there.true ∙ c.in_ok-there.ensures)
    (none (g.B.Blobs.seen c.args.area.now) (g.met.B.Blobs.now c.args.area.now))

pub returns-in_err-bytes-clause-runs : goal.returns-in_err-bytes-clause-runs
returns-in_err-bytes-clause-runs g c =
    let p = err_from_is_err_and c.from_residual-in_err-bytes.result c.from_residual-in_err-bytes.ensures.1 in
    reading_told _ (g.B.Blobs.seen c.args.area.now) (g.B.Blobs.seen c.bytes_at.new.area) c.from_residual-in_err-bytes.result c.in_err-bytes.field-0.0 (p.1 ∙ ap Err p.2)
    (subst (λ (there : Bool). HaltsAt (if there then Get c.args.name.now ∷ [] else []) c.in_err-bytes.field-0.0 (g.B.Blobs.seen c.args.area.now) (g.B.Blobs.seen c.bytes_at.new.area))
    (sym c.if-not-there.false ∙ c.in_ok-there.ensures) c.in_err-bytes.ensures.runs)

pub returns-clause-runs : goal.returns-clause-runs
returns-clause-runs g c =
    subst (λ (there : Bool). Makes (if there then Get c.args.name.now ∷ [] else []) (g.B.Blobs.seen c.args.area.now) (g.B.Blobs.seen c.bytes_at.new.area))
    (sym c.if-not-there.false ∙ c.in_ok-there.ensures) c.in_ok-bytes.ensures.runs
