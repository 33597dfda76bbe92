use Rattle.std.proofs.Common.{◌≡◌, ◌∙◌, ◌+◌, ℕ, suc, List, Err, IsSome, ap, inl, inr, subst, add-one}
use Rattle.std.specs.Prelude.{IsTrue}
use Rattle.std.proofs.lemmas.Result.{err_from_is_err_and}
use Rattle.std.specs.FinMap.{get}
use Rattle.blob_store.specs.Plans.{Makes}
use Rattle.blob_store.proofs.Following.{makes_then}
use Rattle.catalog_doc.specs.Documents.{head_of}
use Rattle.catalog_doc.specs.Names.{page_name}
use Rattle.catalog_doc.specs.declared.row.Row.{Row}
use Rattle.catalog_opening.specs.Pages.{FitsLast, HoldsPage, IsOneCommit}
use Rattle.catalog_opening.specs.Plans.{HaltsAt, page_gets}
use Rattle.catalog_opening.specs.Reads.{IsEndDamaged}
use Rattle.catalog_opening.specs.declared.page.Page.{Page}
use Rattle.catalog_opening.proofs.Halting.{damaged_told, gets_keep, halts_behind, halts_early, page_gets-gets, reading_told}
use Rattle.catalog_opening.proofs.reading.read_last.Goals as goal

pub returns-in_err-last-clause-runs : goal.returns-in_err-last-clause-runs
returns-in_err-last-clause-runs g c =
    let p = err_from_is_err_and c.from_residual.result c.from_residual.ensures.1 in
    reading_told (page_gets c.args.page 2) (g.B.Blobs.seen c.args.area.now) (g.B.Blobs.seen c.get_fitting.new.area) c.from_residual.result c.in_err-last.field-0.0 (p.1 ∙ ap Err p.2)
    (halts_early (page_gets c.args.page 1) (page_gets (suc c.args.page) 1) (g.B.Blobs.seen c.args.area.now) (g.B.Blobs.seen c.get_fitting.new.area) c.in_err-last.field-0.0 c.in_err-last.ensures.runs)

pub returns-in_err-last-clause-damaged : goal.returns-in_err-last-clause-damaged
returns-in_err-last-clause-damaged g c = λ m is.
    let p = err_from_is_err_and c.from_residual.result c.from_residual.ensures.1 in
    damaged_told (λ (name : List ℕ). (name ≡ page_name c.args.page) × ((rows : List Row) → HoldsPage m c.args.base.now c.args.page rows → FitsLast c.args.head.now rows → ⊥))
    (IsEndDamaged m c.args.base.now c.args.page c.args.head.now) c.from_residual.result c.in_err-last.field-0.0 (p.1 ∙ ap Err p.2)
    (λ name told. inl told) (c.in_err-last.ensures.damaged m is)

pub returns-in_err-next-clause-runs : goal.returns-in_err-next-clause-runs
returns-in_err-next-clause-runs g c =
    let p = err_from_is_err_and c.from_residual-in_err-next.result c.from_residual-in_err-next.ensures.1 in
    reading_told (page_gets c.args.page 2) (g.B.Blobs.seen c.args.area.now) (g.B.Blobs.seen c.get_next.new.area) c.from_residual-in_err-next.result c.in_err-next.field-0.0 (p.1 ∙ ap Err p.2)
    (halts_behind (page_gets c.args.page 1) (page_gets (suc c.args.page) 1) (g.B.Blobs.seen c.args.area.now) (g.B.Blobs.seen c.get_fitting.new.area) (g.B.Blobs.seen c.get_next.new.area) c.in_ok-last.ensures.runs c.in_err-next.field-0.0
    (subst (λ (n : ℕ). HaltsAt (page_gets n 1) c.in_err-next.field-0.0 (g.B.Blobs.seen c.get_fitting.new.area) (g.B.Blobs.seen c.get_next.new.area)) (add-one c.args.page) c.in_err-next.ensures.runs))

pub returns-in_err-next-clause-damaged : goal.returns-in_err-next-clause-damaged
returns-in_err-next-clause-damaged g c = λ m is.
    let p = err_from_is_err_and c.from_residual-in_err-next.result c.from_residual-in_err-next.ensures.1 in
    let kept = gets_keep (page_gets c.args.page 1) (g.B.Blobs.seen c.args.area.now) (g.B.Blobs.seen c.get_fitting.new.area) (page_gets-gets c.args.page 1) c.in_ok-last.ensures.runs ∙ is in
    damaged_told (λ (name : List ℕ). (name ≡ page_name (c.args.page + 1)) × IsSome (get m (page_name (c.args.page + 1))) × ((rows : List Row) → HoldsPage m c.args.base.now (c.args.page + 1) rows → IsTrue c.agrees-as_is.result → IsOneCommit rows → ⊥))
    (IsEndDamaged m c.args.base.now c.args.page c.args.head.now) c.from_residual-in_err-next.result c.in_err-next.field-0.0 (p.1 ∙ ap Err p.2)
    (λ name told. inr (
      told.0,
      told.1,
      λ rows next held there heads one.
          told.2 next there (c.agrees-as_is.ensures.1 (ap head_of (c.as_slice.ensures ∙ ap (λ (p : Page). p.rows) (c.in_ok-last.ensures.exact m rows is held)) ∙ heads)) one,
    ))
    (c.in_err-next.ensures.damaged m kept)

pub returns-clause-runs : goal.returns-clause-runs
returns-clause-runs g c =
    makes_then (page_gets c.args.page 1) (page_gets (suc c.args.page) 1) (g.B.Blobs.seen c.args.area.now) (g.B.Blobs.seen c.get_fitting.new.area) (g.B.Blobs.seen c.get_next.new.area) c.in_ok-last.ensures.runs
    (subst (λ (n : ℕ). Makes (page_gets n 1) (g.B.Blobs.seen c.get_fitting.new.area) (g.B.Blobs.seen c.get_next.new.area)) (add-one c.args.page) c.in_ok-next.ensures.runs)
