use Rattle.std.proofs.Common.{◌≡◌, ◌∙◌, ℕ, List, Err, ap}
use Rattle.std.proofs.lemmas.Result.{err_from_is_err_and}
use Rattle.std.specs.FinMap.{get}
use Rattle.catalog_doc.specs.Names.{page_name}
use Rattle.catalog_doc.specs.declared.row.Row.{Row}
use Rattle.catalog_opening.specs.Pages.{HoldsPage}
use Rattle.catalog_opening.specs.Plans.{page_gets}
use Rattle.catalog_opening.specs.Reads.{Fits, IsNoPage}
use Rattle.catalog_opening.proofs.Halting.{damaged_told, halts_made, never_fault}
use Rattle.catalog_opening.proofs.reading.get_fitting.Goals as goal

pub returns-in_err-rows-clause-damaged : goal.returns-in_err-rows-clause-damaged
returns-in_err-rows-clause-damaged g c = λ m is.
    let p = err_from_is_err_and c.from_residual.result c.from_residual.ensures.1 in
    damaged_told (λ (name : List ℕ). (name ≡ page_name c.args.page) × IsNoPage c.args.base.now c.args.page (get m (page_name c.args.page)))
    (λ (name : List ℕ). (name ≡ page_name c.args.page) × ((rows : List Row) → HoldsPage m c.args.base.now c.args.page rows → Fits c.args.fit c.args.head.now rows → ⊥))
    c.from_residual.result c.in_err-rows.field-0.0 (p.1 ∙ ap Err p.2)
    (λ name told. (told.0, λ rows held fits. told.1.1 rows held)) (c.in_err-rows.ensures.damaged m is)

pub returns-in_default-clause-runs : goal.returns-in_default-clause-runs
returns-in_default-clause-runs g c =
    halts_made (page_gets c.args.page 1) c.damaged_page.result (g.B.Blobs.seen c.args.area.now) (g.B.Blobs.seen c.get_page.new.area) c.in_ok-rows.ensures.runs
    (never_fault (λ (name : List ℕ). name ≡ page_name c.args.page) c.damaged_page.result c.damaged_page.ensures)

pub returns-in-None-clause-runs : goal.returns-in-None-clause-runs
returns-in-None-clause-runs g c =
    halts_made (page_gets c.args.page 1) c.damaged_page-in-None.result (g.B.Blobs.seen c.args.area.now) (g.B.Blobs.seen c.get_page.new.area) c.in_ok-rows.ensures.runs
    (never_fault (λ (name : List ℕ). name ≡ page_name c.args.page) c.damaged_page-in-None.result c.damaged_page-in-None.ensures)
