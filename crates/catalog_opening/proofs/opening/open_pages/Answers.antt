use Rattle.std.proofs.Common.{◌∙◌, ◌+◌, ◌++◌, List, Err, ap, length, map, subst, sym}
use Rattle.std.proofs.lemmas.Result.{err_from_is_err_and}
use Rattle.blob_store.specs.Events.{Act}
use Rattle.blob_store.specs.Plans.{Makes}
use Rattle.blob_store.proofs.Following.{makes_then}
use Rattle.catalog_doc.specs.Documents.{head_of}
use Rattle.catalog_doc.specs.declared.head.PageHead.{PageHead}
use Rattle.catalog_opening.specs.Openings.{mending}
use Rattle.catalog_opening.specs.Plans.{HaltsAt, page_gets}
use Rattle.catalog_opening.specs.declared.error.ReadErr.TheVariants.{Fault}
use Rattle.catalog_opening.proofs.Halting.{halts_behind, halts_early, page_gets-gets, reading_told}
use Rattle.catalog_opening.proofs.Mended.{mends_behind, mends_halted, mends_made, mends_reading, mends_told}
use Rattle.catalog_opening.proofs.OpenSteps.{held_as, mending_is, mends_same}
use Rattle.catalog_opening.proofs.opening.open_pages.Goals as goal

pub returns-in_err-found-clause-runs : goal.returns-in_err-found-clause-runs
returns-in_err-found-clause-runs g c = λ m pages acts is held mends.
    let p = err_from_is_err_and c.from_residual.result c.from_residual.ensures.1 in
    reading_told (page_gets 0 (length c.args.index.heads + 1) ++ acts) (g.B.Blobs.seen c.args.area.now) (g.B.Blobs.seen c.read_pages.new.area) c.from_residual.result c.in_err-found.field-0.0 (p.1 ∙ ap Err p.2)
    (halts_early (page_gets 0 (length c.args.index.heads + 1)) acts (g.B.Blobs.seen c.args.area.now) (g.B.Blobs.seen c.read_pages.new.area) c.in_err-found.field-0.0
    (subst (λ (heads : List PageHead). HaltsAt (page_gets 0 (length heads + 1)) c.in_err-found.field-0.0 (g.B.Blobs.seen c.args.area.now) (g.B.Blobs.seen c.read_pages.new.area)) c.as_slice.ensures c.in_err-found.ensures.runs))

pub returns-in_err-found-clause-mends : goal.returns-in_err-found-clause-mends
returns-in_err-found-clause-mends g c =
    let p = err_from_is_err_and c.from_residual.result c.from_residual.ensures.1 in
    mends_told (g.B.Blobs.seen c.args.area.now) (g.B.Blobs.seen c.read_pages.new.area) c.from_residual.result c.in_err-found.field-0.0 Fault (p.1 ∙ ap Err p.2)
    (mends_reading (page_gets 0 (length c.as_slice.result.now + 1)) c.in_err-found.field-0.0 (g.B.Blobs.seen c.args.area.now) (g.B.Blobs.seen c.read_pages.new.area) (page_gets-gets 0 (length c.as_slice.result.now + 1)) c.in_err-found.ensures.runs)

pub returns-in_err-mend-clause-runs : goal.returns-in_err-mend-clause-runs
returns-in_err-mend-clause-runs g c = λ m pages acts is held mends.
    let p = err_from_is_err_and c.from_residual-in_err-mend.result c.from_residual-in_err-mend.ensures.1 in
    let read = c.in_ok-found.ensures.exact m pages is (held_as m c.args.index.base c.as_str.result.now c.args.index.heads c.as_slice.result.now pages c.as_str.ensures c.as_slice.ensures held) in
    let put = mending_is c.as_str-2.result.now c.as_slice.result.now c.in_ok-found.found.heads c.in_ok-found.found.settled (map head_of pages) acts read.1 c.in_ok-found.ensures.settled
    (mends_same c.args.index.base c.as_str-2.result.now c.args.index.heads c.as_slice.result.now (map head_of pages) acts c.as_str-2.ensures c.as_slice.ensures mends) in
    reading_told (page_gets 0 (length c.args.index.heads + 1) ++ acts) (g.B.Blobs.seen c.args.area.now) (g.B.Blobs.seen c.mend.new.area) c.from_residual-in_err-mend.result c.in_err-mend.field-0.0 (p.1 ∙ ap Err p.2)
    (subst (λ (l : List Act). HaltsAt (page_gets 0 (length c.args.index.heads + 1) ++ l) c.in_err-mend.field-0.0 (g.B.Blobs.seen c.args.area.now) (g.B.Blobs.seen c.mend.new.area)) (sym put)
    (halts_behind (page_gets 0 (length c.args.index.heads + 1)) (mending c.as_str-2.result.now c.in_ok-found.found.settled c.in_ok-found.found.heads) (g.B.Blobs.seen c.args.area.now) (g.B.Blobs.seen c.read_pages.new.area) (g.B.Blobs.seen c.mend.new.area)
    (subst (λ (heads : List PageHead). Makes (page_gets 0 (length heads + 1)) (g.B.Blobs.seen c.args.area.now) (g.B.Blobs.seen c.read_pages.new.area)) c.as_slice.ensures c.in_ok-found.ensures.runs)
    c.in_err-mend.field-0.0 c.in_err-mend.ensures.runs))

pub returns-in_err-mend-clause-mends : goal.returns-in_err-mend-clause-mends
returns-in_err-mend-clause-mends g c =
    let p = err_from_is_err_and c.from_residual-in_err-mend.result c.from_residual-in_err-mend.ensures.1 in
    mends_behind (page_gets 0 (length c.as_slice.result.now + 1)) (g.B.Blobs.seen c.args.area.now) (g.B.Blobs.seen c.read_pages.new.area) (g.B.Blobs.seen c.mend.new.area) _ (page_gets-gets 0 (length c.as_slice.result.now + 1)) c.in_ok-found.ensures.runs
    (mends_told (g.B.Blobs.seen c.read_pages.new.area) (g.B.Blobs.seen c.mend.new.area) c.from_residual-in_err-mend.result c.in_err-mend.field-0.0 Fault (p.1 ∙ ap Err p.2)
    (mends_halted c.as_str-2.result.now c.in_ok-found.found.settled c.in_ok-found.found.heads c.in_err-mend.field-0.0 (g.B.Blobs.seen c.read_pages.new.area) (g.B.Blobs.seen c.mend.new.area) c.in_err-mend.ensures.runs))

pub returns-clause-runs : goal.returns-clause-runs
returns-clause-runs g c = λ m pages acts is held mends.
    let read = c.in_ok-found.ensures.exact m pages is (held_as m c.args.index.base c.as_str.result.now c.args.index.heads c.as_slice.result.now pages c.as_str.ensures c.as_slice.ensures held) in
    let put = mending_is c.as_str-2.result.now c.as_slice.result.now c.in_ok-found.found.heads c.in_ok-found.found.settled (map head_of pages) acts read.1 c.in_ok-found.ensures.settled
    (mends_same c.args.index.base c.as_str-2.result.now c.args.index.heads c.as_slice.result.now (map head_of pages) acts c.as_str-2.ensures c.as_slice.ensures mends) in
    subst (λ (l : List Act). Makes (page_gets 0 (length c.args.index.heads + 1) ++ l) (g.B.Blobs.seen c.args.area.now) (g.B.Blobs.seen c.mend.new.area)) (sym put)
    (makes_then (page_gets 0 (length c.args.index.heads + 1)) (mending c.as_str-2.result.now c.in_ok-found.found.settled c.in_ok-found.found.heads) (g.B.Blobs.seen c.args.area.now) (g.B.Blobs.seen c.read_pages.new.area) (g.B.Blobs.seen c.mend.new.area)
    (subst (λ (heads : List PageHead). Makes (page_gets 0 (length heads + 1)) (g.B.Blobs.seen c.args.area.now) (g.B.Blobs.seen c.read_pages.new.area)) c.as_slice.ensures c.in_ok-found.ensures.runs)
    c.in_ok-mend.ensures.runs)

pub returns-clause-mends : goal.returns-clause-mends
returns-clause-mends g c =
    mends_behind (page_gets 0 (length c.as_slice.result.now + 1)) (g.B.Blobs.seen c.args.area.now) (g.B.Blobs.seen c.read_pages.new.area) (g.B.Blobs.seen c.mend.new.area) _ (page_gets-gets 0 (length c.as_slice.result.now + 1)) c.in_ok-found.ensures.runs
    (mends_made c.as_str-2.result.now c.in_ok-found.found.settled c.in_ok-found.found.heads (g.B.Blobs.seen c.read_pages.new.area) (g.B.Blobs.seen c.mend.new.area) _ (λ is. let no : ⊥ = cc in no) c.in_ok-mend.ensures.runs)
