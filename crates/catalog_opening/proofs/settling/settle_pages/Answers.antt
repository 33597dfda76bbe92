use Rattle.std.proofs.Common.{◌∙◌, ◌++◌, ℕ, List, [], ◌∷◌, Err, ap, drop, false, length, map, subst, sym}
use Rattle.std.proofs.lemmas.List.{drop-drop}
use Rattle.std.proofs.lemmas.Result.{err_from_is_err_and}
use Rattle.blob_store.specs.Plans.{Makes}
use Rattle.blob_store.proofs.Following.{makes_then}
use Rattle.catalog_doc.specs.Documents.{head_of, last_head}
use Rattle.catalog_doc.specs.declared.head.PageHead.{PageHead}
use Rattle.catalog_doc.specs.declared.row.Row.{Row}
use Rattle.catalog_opening.specs.Pages.{rows_on}
use Rattle.catalog_opening.specs.Plans.{HaltsAt, index_change, last_gets}
use Rattle.catalog_opening.specs.Reads.{rows_before_last}
use Rattle.catalog_opening.specs.declared.error.ReadErr.TheVariants.{Fault}
use Rattle.catalog_opening.proofs.CatalogSettle.{last_counted, last_gets-gets}
use Rattle.catalog_opening.proofs.Halting.{halts_behind, halts_early, reading_told}
use Rattle.catalog_opening.proofs.Mended.{mends_behind, mends_halted, mends_made, mends_reading, mends_told}
use Rattle.catalog_opening.proofs.settling.settle_pages.Goals as goal

pub returns-in_err-found-clause-runs : goal.returns-in_err-found-clause-runs
returns-in_err-found-clause-runs g c = λ m held is as_held.
    let p = err_from_is_err_and c.from_residual.result c.from_residual.ensures.1 in
    reading_told (last_gets (length c.args.pages.now) ++ index_change c.args.base.now (map head_of held) ∷ []) (g.B.Blobs.seen c.args.area.now) (g.B.Blobs.seen c.read_ending.new.area) c.from_residual.result c.in_err-found.field-0.0 (p.1 ∙ ap Err p.2)
    (halts_early (last_gets (length c.args.pages.now)) (index_change c.args.base.now (map head_of held) ∷ []) (g.B.Blobs.seen c.args.area.now) (g.B.Blobs.seen c.read_ending.new.area) c.in_err-found.field-0.0 c.in_err-found.ensures.runs)

pub returns-in_err-found-clause-mends : goal.returns-in_err-found-clause-mends
returns-in_err-found-clause-mends g c =
    let p = err_from_is_err_and c.from_residual.result c.from_residual.ensures.1 in
    mends_told (g.B.Blobs.seen c.args.area.now) (g.B.Blobs.seen c.read_ending.new.area) c.from_residual.result c.in_err-found.field-0.0 Fault (p.1 ∙ ap Err p.2)
    (mends_reading (last_gets (length c.args.pages.now)) c.in_err-found.field-0.0 (g.B.Blobs.seen c.args.area.now) (g.B.Blobs.seen c.read_ending.new.area) (last_gets-gets (length c.args.pages.now)) c.in_err-found.ensures.runs)

pub returns-in_err-put_index-clause-runs : goal.returns-in_err-put_index-clause-runs
returns-in_err-put_index-clause-runs g c = λ m held is as_held.
    let p = err_from_is_err_and c.from_residual-in_err-put_index.result c.from_residual-in_err-put_index.ensures.1 in
    let heads = c.as_slice.ensures ∙ (c.in_ok-found.ensures.exact m held is as_held).heads_are in
    reading_told (last_gets (length c.args.pages.now) ++ index_change c.args.base.now (map head_of held) ∷ []) (g.B.Blobs.seen c.args.area.now) (g.B.Blobs.seen c.put_index.new.area) c.from_residual-in_err-put_index.result c.in_err-put_index.field-0.0 (p.1 ∙ ap Err p.2)
    (halts_behind (last_gets (length c.args.pages.now)) (index_change c.args.base.now (map head_of held) ∷ []) (g.B.Blobs.seen c.args.area.now) (g.B.Blobs.seen c.read_ending.new.area) (g.B.Blobs.seen c.put_index.new.area) c.in_ok-found.ensures.runs c.in_err-put_index.field-0.0
    (subst (λ (l : List PageHead). HaltsAt (index_change c.args.base.now l ∷ []) c.in_err-put_index.field-0.0 (g.B.Blobs.seen c.read_ending.new.area) (g.B.Blobs.seen c.put_index.new.area)) heads c.in_err-put_index.ensures.runs))

pub returns-in_err-put_index-clause-mends : goal.returns-in_err-put_index-clause-mends
returns-in_err-put_index-clause-mends g c =
    let p = err_from_is_err_and c.from_residual-in_err-put_index.result c.from_residual-in_err-put_index.ensures.1 in
    mends_behind (last_gets (length c.args.pages.now)) (g.B.Blobs.seen c.args.area.now) (g.B.Blobs.seen c.read_ending.new.area) (g.B.Blobs.seen c.put_index.new.area) _ (last_gets-gets (length c.args.pages.now)) c.in_ok-found.ensures.runs
    (mends_told (g.B.Blobs.seen c.read_ending.new.area) (g.B.Blobs.seen c.put_index.new.area) c.from_residual-in_err-put_index.result c.in_err-put_index.field-0.0 Fault (p.1 ∙ ap Err p.2)
    (mends_halted c.args.base.now false c.as_slice.result.now c.in_err-put_index.field-0.0 (g.B.Blobs.seen c.read_ending.new.area) (g.B.Blobs.seen c.put_index.new.area) c.in_err-put_index.ensures.runs))

pub returns-clause-more : goal.returns-clause-more
returns-clause-more g c = λ m held is as_held.
    let read = (c.in_ok-found.ensures.exact m held is as_held).rows in
    c.in_ok-more.ensures
    ∙ ap (λ (n : ℕ). drop n c.in_ok-found.found.rows) c.last_count.ensures
    ∙ ap (λ (l : List Row). drop (last_head c.args.pages.now).count l) read
    ∙ drop-drop (last_head c.args.pages.now).count (rows_before_last c.args.pages.now) (rows_on held)
    ∙ ap (λ (n : ℕ). drop n (rows_on held)) (sym (last_counted c.args.pages.now))

pub returns-clause-runs : goal.returns-clause-runs
returns-clause-runs g c = λ m held is as_held.
    let heads = c.as_slice.ensures ∙ (c.in_ok-found.ensures.exact m held is as_held).heads_are in
    makes_then (last_gets (length c.args.pages.now)) (index_change c.args.base.now (map head_of held) ∷ []) (g.B.Blobs.seen c.args.area.now) (g.B.Blobs.seen c.read_ending.new.area) (g.B.Blobs.seen c.put_index.new.area) c.in_ok-found.ensures.runs
    (subst (λ (l : List PageHead). Makes (index_change c.args.base.now l ∷ []) (g.B.Blobs.seen c.read_ending.new.area) (g.B.Blobs.seen c.put_index.new.area)) heads c.in_ok-put_index.ensures.runs)

pub returns-clause-mends : goal.returns-clause-mends
returns-clause-mends g c =
    mends_behind (last_gets (length c.args.pages.now)) (g.B.Blobs.seen c.args.area.now) (g.B.Blobs.seen c.read_ending.new.area) (g.B.Blobs.seen c.put_index.new.area) _ (last_gets-gets (length c.args.pages.now)) c.in_ok-found.ensures.runs
    (mends_made c.args.base.now false c.as_slice.result.now (g.B.Blobs.seen c.read_ending.new.area) (g.B.Blobs.seen c.put_index.new.area) _ (λ is. let no : ⊥ = cc in no) c.in_ok-put_index.ensures.runs)
