use Rattle.std.proofs.Common.{◌∙◌, [], ◌∷◌, ◌++◌, Err, ap, length}
use Rattle.std.proofs.lemmas.Result.{err_from_is_err_and}
use Rattle.catalog_opening.specs.Pages.{IsDamagedIn}
use Rattle.catalog_opening.specs.Plans.{page_gets}
use Rattle.catalog_opening.specs.Reads.{IsEndDamaged, end_pages, heads_on}
use Rattle.catalog_opening.specs.declared.error.ReadErr.TheVariants.{Memory}
use Rattle.catalog_opening.proofs.Ends.{ends_settled}
use Rattle.catalog_opening.proofs.Fitting.{damaged_end}
use Rattle.catalog_opening.proofs.Halting.{damaged_told, halts_made, reading_told}
use Rattle.catalog_opening.proofs.pages.read_end.Goals as goal

pub returns-in_err-end-clause-damaged : goal.returns-in_err-end-clause-damaged
returns-in_err-end-clause-damaged g c = λ m is.
    let p = err_from_is_err_and c.from_residual.result c.from_residual.ensures.1 in
    damaged_told (IsEndDamaged m c.args.base.now (length c.args.front.now) c.args.last.now) (IsDamagedIn m c.args.base.now (c.args.front.now ++ c.args.last.now ∷ []))
    c.from_residual.result c.in_err-end.field-0.0 (p.1 ∙ ap Err p.2) (λ name told. damaged_end m c.args.base.now c.args.front.now c.args.last.now name told) (c.in_err-end.ensures.damaged m is)

pub returns-in_err-found-clause-runs : goal.returns-in_err-found-clause-runs
returns-in_err-found-clause-runs g c =
    let p = err_from_is_err_and c.from_residual-in_err-found.result c.from_residual-in_err-found.ensures.1 in
    reading_told (page_gets (length c.args.front.now) 2) (g.B.Blobs.seen c.args.area.now) (g.B.Blobs.seen c.read_last.new.area) c.from_residual-in_err-found.result Memory (p.1 ∙ ap Err p.2)
    (halts_made (page_gets (length c.args.front.now) 2) Memory (g.B.Blobs.seen c.args.area.now) (g.B.Blobs.seen c.read_last.new.area) c.in_ok-end.ensures.runs (λ is. let no : ⊥ = cc in no))

pub returns-clause-settled : goal.returns-clause-settled
returns-clause-settled g c = ends_settled c.in_ok-found.found.settled c.in_ok-end.end.settled c.in_ok-found.found.heads c.args.front.now (heads_on (end_pages c.in_ok-end.end)) (c.args.last.now ∷ [])
    c.in_ok-found.ensures.settled c.in_ok-found.ensures.heads c.in_ok-end.ensures.settled
