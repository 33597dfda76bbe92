use Rattle.std.proofs.Common.{◌∙◌, ℕ, List, [], ◌∷◌, Err, ap, subst}
use Rattle.std.proofs.lemmas.Result.{err_from_is_err_and}
use Rattle.blob_store.specs.Events.{Get}
use Rattle.blob_store.specs.Plans.{Makes}
use Rattle.catalog_opening.specs.Plans.{page_gets}
use Rattle.catalog_opening.specs.declared.error.ReadErr.TheVariants.{Memory}
use Rattle.catalog_opening.proofs.Halting.{halts_made, halts_unstarted, reading_told}
use Rattle.catalog_opening.proofs.reading.get_page.Goals as goal

pub returns-in_err-name-clause-runs : goal.returns-in_err-name-clause-runs
returns-in_err-name-clause-runs g c =
    let p = err_from_is_err_and c.from_residual.result c.from_residual.ensures.1 in
    reading_told (page_gets c.args.page 1) (g.B.Blobs.seen c.args.area.now) (g.B.Blobs.seen c.args.area.now) c.from_residual.result Memory (p.1 ∙ ap Err p.2)
    (halts_unstarted (page_gets c.args.page 1) (g.B.Blobs.seen c.args.area.now) (g.met.B.Blobs.now c.args.area.now))

pub returns-in_err-read-clause-runs : goal.returns-in_err-read-clause-runs
returns-in_err-read-clause-runs g c =
    let p = err_from_is_err_and c.from_residual-in_err-read.result c.from_residual-in_err-read.ensures.1 in
    reading_told (page_gets c.args.page 1) (g.B.Blobs.seen c.args.area.now) (g.B.Blobs.seen c.get_one.new.area) c.from_residual-in_err-read.result c.in_err-read.field-0.0 (p.1 ∙ ap Err p.2)
    (halts_made (page_gets c.args.page 1) c.in_err-read.field-0.0 (g.B.Blobs.seen c.args.area.now) (g.B.Blobs.seen c.get_one.new.area)
    (subst (λ (name : List ℕ). Makes (Get name ∷ []) (g.B.Blobs.seen c.args.area.now) (g.B.Blobs.seen c.get_one.new.area)) (c.as_str.ensures.value ∙ c.in_ok-name.ensures) c.in_ok-found.ensures.runs)
    (λ fault. c.in_err-read.ensures.fault (ap Err fault)))
