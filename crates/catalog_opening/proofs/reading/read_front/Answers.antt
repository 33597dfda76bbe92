use Rattle.std.proofs.Common.{◌≡◌, ◌∙◌, ◌+◌, ◌<◌, ℕ, List, Err, ap, get_or, length, refl, subst, sym}
use Rattle.std.proofs.lemmas.Result.{err_from_is_err_and}
use Rattle.blob_store.specs.Plans.{Makes}
use Rattle.blob_store.proofs.OneCall.{none}
use Rattle.catalog_doc.specs.Documents.{head_of}
use Rattle.catalog_doc.specs.Names.{page_name}
use Rattle.catalog_doc.specs.declared.row.Row.{Row}
use Rattle.catalog_opening.specs.Pages.{HoldsPage}
use Rattle.catalog_opening.specs.Plans.{HaltsAt, page_gets}
use Rattle.catalog_opening.specs.Reads.{IsFrontDamaged}
use Rattle.catalog_opening.specs.declared.page.Page.{Page}
use Rattle.catalog_opening.specs.declared.error.ReadErr.TheVariants.{Memory}
use Rattle.catalog_opening.proofs.Fitting.{front_damaged, next_rows}
use Rattle.catalog_opening.proofs.Gets.{next_get_cut, next_get_halts, next_get_made}
use Rattle.catalog_opening.proofs.Halting.{damaged_told, gets_keep, page_gets-gets, reading_told}
use Rattle.catalog_opening.proofs.reading.read_front.Goals as goal

pub loop-head-init : goal.loop-head-init
loop-head-init g c = record {
  counted = refl;
  made = none (g.B.Blobs.seen c.args.area.now) (g.met.B.Blobs.now c.args.area.now);
  rows = λ m pages is holds same. c.new-rows.ensures.items;
}

pub returns-in_err-found-clause-runs : goal.returns-in_err-found-clause-runs
returns-in_err-found-clause-runs g c =
    let p = err_from_is_err_and c.from_residual.result c.from_residual.ensures.1 in
    reading_told (page_gets 0 (length c.args.heads.now)) (g.B.Blobs.seen c.args.area.now) (g.B.Blobs.seen c.get_fitting.new.area) c.from_residual.result c.in_err-found.field-0.0 (p.1 ∙ ap Err p.2)
    (next_get_halts c.loop-head.head-index (length c.args.heads.now) c.in_err-found.field-0.0 (g.B.Blobs.seen c.args.area.now) (g.B.Blobs.seen c.loop-head.area) (g.B.Blobs.seen c.get_fitting.new.area) c.loop-head-test.true c.loop-head.invariant.made
    (subst (λ (n : ℕ). HaltsAt (page_gets n 1) c.in_err-found.field-0.0 (g.B.Blobs.seen c.loop-head.area) (g.B.Blobs.seen c.get_fitting.new.area)) c.loop-head.invariant.counted c.in_err-found.ensures.runs))

pub returns-in_err-found-clause-damaged : goal.returns-in_err-found-clause-damaged
returns-in_err-found-clause-damaged g c = λ m is.
    let p = err_from_is_err_and c.from_residual.result c.from_residual.ensures.1 in
    let kept = gets_keep (page_gets 0 c.loop-head.head-index) (g.B.Blobs.seen c.args.area.now) (g.B.Blobs.seen c.loop-head.area) (page_gets-gets 0 c.loop-head.head-index) c.loop-head.invariant.made ∙ is in
    damaged_told (λ (name : List ℕ). (name ≡ page_name c.loop-head.page) × ((rows : List Row) → HoldsPage m c.args.base.now c.loop-head.page rows → head_of rows ≡ c.head-item.result → ⊥))
    (λ (name : List ℕ). (k : ℕ) × (name ≡ page_name k) × IsFrontDamaged m c.args.base.now c.args.heads.now k) c.from_residual.result c.in_err-found.field-0.0 (p.1 ∙ ap Err p.2)
    (λ name told. (
      c.loop-head.page,
      told.0,
      front_damaged m c.args.base.now c.args.heads.now c.loop-head.page c.head-item.result
          (subst (λ (n : ℕ). n < length c.args.heads.now) (sym c.loop-head.invariant.counted) c.loop-head-test.true)
          (subst (λ (n : ℕ). c.head-item.result ≡ get_or c.args.heads.now n c.head-item.result) (sym c.loop-head.invariant.counted) c.head-item.is) told.1,
    ))
    (c.in_err-found.ensures.damaged m kept)

pub returns-in_err-append-clause-runs : goal.returns-in_err-append-clause-runs
returns-in_err-append-clause-runs g c =
    let p = err_from_is_err_and c.from_residual-in_err-append.result c.from_residual-in_err-append.ensures.1 in
    reading_told (page_gets 0 (length c.args.heads.now)) (g.B.Blobs.seen c.args.area.now) (g.B.Blobs.seen c.get_fitting.new.area) c.from_residual-in_err-append.result Memory (p.1 ∙ ap Err p.2)
    (next_get_cut c.loop-head.head-index (length c.args.heads.now) (g.B.Blobs.seen c.args.area.now) (g.B.Blobs.seen c.loop-head.area) (g.B.Blobs.seen c.get_fitting.new.area) c.loop-head-test.true c.loop-head.invariant.made
    (subst (λ (n : ℕ). Makes (page_gets n 1) (g.B.Blobs.seen c.loop-head.area) (g.B.Blobs.seen c.get_fitting.new.area)) c.loop-head.invariant.counted c.in_ok-found.ensures.runs))

pub loop-head-preserved : goal.loop-head-preserved
loop-head-preserved g c = record {
  counted = ap (λ (n : ℕ). n + 1) c.loop-head.invariant.counted;
  made = next_get_made c.loop-head.head-index (g.B.Blobs.seen c.args.area.now) (g.B.Blobs.seen c.loop-head.area) (g.B.Blobs.seen c.get_fitting.new.area) c.loop-head.invariant.made
      (subst (λ (n : ℕ). Makes (page_gets n 1) (g.B.Blobs.seen c.loop-head.area) (g.B.Blobs.seen c.get_fitting.new.area)) c.loop-head.invariant.counted c.in_ok-found.ensures.runs);
  rows = λ m pages is holds same.
      let kept = gets_keep (page_gets 0 c.loop-head.head-index) (g.B.Blobs.seen c.args.area.now) (g.B.Blobs.seen c.loop-head.area) (page_gets-gets 0 c.loop-head.head-index) c.loop-head.invariant.made ∙ is in
      c.in_ok-append.ensures.items
      ∙ next_rows m c.args.base.now pages c.loop-head.head-index c.loop-head.rows.items c.into_vec-own.result.items
      (subst (λ (n : ℕ). c.loop-head.head-index < n) (sym same) c.loop-head-test.true) holds (c.loop-head.invariant.rows m pages is holds same)
      (λ rows held. c.into_vec-own.ensures ∙ ap (λ (p : Page). p.rows)
      (c.in_ok-found.ensures.exact m rows kept (subst (λ (n : ℕ). HoldsPage m c.args.base.now n rows) (sym c.loop-head.invariant.counted) held)));
}
