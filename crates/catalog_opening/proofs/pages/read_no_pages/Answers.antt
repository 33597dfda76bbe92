use Rattle.std.proofs.Common.{◌≡◌, ◌≤◌, ◌∙◌, ℕ, List, [], Err, IsSome, ap, inr, length, subst, sym}
use Rattle.std.proofs.lemmas.Result.{err_from_is_err_and}
use Rattle.std.specs.FinMap.{get}
use Rattle.catalog_doc.specs.Names.{page_name}
use Rattle.catalog_doc.specs.declared.head.PageHead.{PageHead}
use Rattle.catalog_doc.specs.declared.row.Row.{Row}
use Rattle.catalog_opening.specs.Pages.{HoldsPage, IsDamagedIn, IsOneCommit}
use Rattle.catalog_opening.specs.Plans.{page_gets}
use Rattle.catalog_opening.specs.declared.error.ReadErr.TheVariants.{Memory}
use Rattle.catalog_opening.proofs.Ends.{one_end}
use Rattle.catalog_opening.proofs.Halting.{damaged_told, halts_made, reading_told}
use Rattle.catalog_opening.proofs.pages.read_no_pages.Goals as goal

pub returns-in_err-end-clause-damaged : goal.returns-in_err-end-clause-damaged
returns-in_err-end-clause-damaged g c = λ m is.
    let p = err_from_is_err_and c.from_residual.result c.from_residual.ensures.1 in
    damaged_told (λ (name : List ℕ). (name ≡ page_name 0) × IsSome (get m (page_name 0)) × ((rows : List Row) → HoldsPage m c.args.base.now 0 rows → IsOneCommit rows → ⊥))
    (IsDamagedIn m c.args.base.now []) c.from_residual.result c.in_err-end.field-0.0 (p.1 ∙ ap Err p.2)
    (λ name told. inr (told.0, (told.1, λ pages next holds held heads one. told.2 next held one))) (c.in_err-end.ensures.damaged m is)

pub returns-in_err-found-clause-runs : goal.returns-in_err-found-clause-runs
returns-in_err-found-clause-runs g c =
    let p = err_from_is_err_and c.from_residual-in_err-found.result c.from_residual-in_err-found.ensures.1 in
    reading_told (page_gets 0 1) (g.B.Blobs.seen c.args.area.now) (g.B.Blobs.seen c.read_first.new.area) c.from_residual-in_err-found.result Memory (p.1 ∙ ap Err p.2)
    (halts_made (page_gets 0 1) Memory (g.B.Blobs.seen c.args.area.now) (g.B.Blobs.seen c.read_first.new.area) c.in_ok-end.ensures.runs (λ is. let no : ⊥ = cc in no))

pub returns-clause-few : goal.returns-clause-few
returns-clause-few g c = subst (λ (heads : List PageHead). length heads ≤ 1) (sym c.in_ok-found.ensures.heads) (one_end c.in_ok-end.end c.in_ok-end.ensures.first)
