use Rattle.std.proofs.Common.{◌≡◌, ◌∙◌, ℕ, List, Err, IsSome, ap, refl, true}
use Rattle.std.specs.Prelude.{IsTrue}
use Rattle.std.proofs.lemmas.Result.{err_from_is_err_and}
use Rattle.std.specs.FinMap.{get}
use Rattle.catalog_doc.specs.Names.{page_name}
use Rattle.catalog_doc.specs.declared.row.Row.{Row}
use Rattle.catalog_opening.specs.Pages.{HoldsPage, IsOneCommit}
use Rattle.catalog_opening.proofs.Halting.{damaged_told}
use Rattle.catalog_opening.proofs.reading.read_first.Goals as goal

pub returns-in_err-next-clause-damaged : goal.returns-in_err-next-clause-damaged
returns-in_err-next-clause-damaged g c = λ m is.
    let p = err_from_is_err_and c.from_residual.result c.from_residual.ensures.1 in
    damaged_told (λ (name : List ℕ). (name ≡ page_name 0) × IsSome (get m (page_name 0)) × ((rows : List Row) → HoldsPage m c.args.base.now 0 rows → IsTrue true → IsOneCommit rows → ⊥))
    (λ (name : List ℕ). (name ≡ page_name 0) × IsSome (get m (page_name 0)) × ((rows : List Row) → HoldsPage m c.args.base.now 0 rows → IsOneCommit rows → ⊥))
    c.from_residual.result c.in_err-next.field-0.0 (p.1 ∙ ap Err p.2)
    (λ name told. (told.0, told.1, λ rows held one. told.2 rows held refl one)) (c.in_err-next.ensures.damaged m is)
