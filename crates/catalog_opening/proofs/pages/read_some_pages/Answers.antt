use Rattle.std.proofs.Common.{◌≡◌, ◌∙◌, ◌+◌, ℕ, List, [], ◌∷◌, ◌++◌, Err, ap, length, subst, sym}
use Rattle.std.proofs.lemmas.Result.{err_from_is_err_and}
use Rattle.blob_store.specs.Events.{Act}
use Rattle.blob_store.specs.Plans.{Makes}
use Rattle.blob_store.proofs.Following.{makes_then}
use Rattle.catalog_doc.specs.Names.{page_name}
use Rattle.catalog_doc.specs.declared.row.Row.{Row}
use Rattle.catalog_opening.specs.Pages.{IsDamagedIn, rows_on}
use Rattle.catalog_opening.specs.Plans.{HaltsAt, page_gets}
use Rattle.catalog_opening.specs.Reads.{IsFrontDamaged}
use Rattle.catalog_opening.proofs.Fitting.{damaged_front, held_ends, joined_read}
use Rattle.catalog_opening.proofs.Gets.{from_start}
use Rattle.catalog_opening.proofs.Halting.{damaged_told, gets_keep, halts_behind, halts_early, page_gets-gets, reading_told}
use Rattle.catalog_opening.proofs.pages.read_some_pages.Goals as goal

pub returns-in_err-rows-clause-runs : goal.returns-in_err-rows-clause-runs
returns-in_err-rows-clause-runs g c =
    let p = err_from_is_err_and c.from_residual.result c.from_residual.ensures.1 in
    reading_told (page_gets 0 (length c.args.front.now + 2)) (g.B.Blobs.seen c.args.area.now) (g.B.Blobs.seen c.read_front.new.area) c.from_residual.result c.in_err-rows.field-0.0 (p.1 ∙ ap Err p.2)
    (subst (λ (l : List Act). HaltsAt l c.in_err-rows.field-0.0 (g.B.Blobs.seen c.args.area.now) (g.B.Blobs.seen c.read_front.new.area)) (sym (from_start (length c.args.front.now) 2))
    (halts_early (page_gets 0 (length c.args.front.now)) (page_gets (length c.args.front.now) 2) (g.B.Blobs.seen c.args.area.now) (g.B.Blobs.seen c.read_front.new.area) c.in_err-rows.field-0.0 c.in_err-rows.ensures.runs))

pub returns-in_err-rows-clause-damaged : goal.returns-in_err-rows-clause-damaged
returns-in_err-rows-clause-damaged g c = λ m is.
    let p = err_from_is_err_and c.from_residual.result c.from_residual.ensures.1 in
    damaged_told (λ (name : List ℕ). (k : ℕ) × (name ≡ page_name k) × IsFrontDamaged m c.args.base.now c.args.front.now k) (IsDamagedIn m c.args.base.now (c.args.front.now ++ c.args.last.now ∷ []))
    c.from_residual.result c.in_err-rows.field-0.0 (p.1 ∙ ap Err p.2) (λ name told. damaged_front m c.args.base.now c.args.front.now c.args.last.now name told) (c.in_err-rows.ensures.damaged m is)

pub returns-in_err-found-clause-runs : goal.returns-in_err-found-clause-runs
returns-in_err-found-clause-runs g c =
    let p = err_from_is_err_and c.from_residual-in_err-found.result c.from_residual-in_err-found.ensures.1 in
    reading_told (page_gets 0 (length c.args.front.now + 2)) (g.B.Blobs.seen c.args.area.now) (g.B.Blobs.seen c.read_end.new.area) c.from_residual-in_err-found.result c.in_err-found.field-0.0 (p.1 ∙ ap Err p.2)
    (subst (λ (l : List Act). HaltsAt l c.in_err-found.field-0.0 (g.B.Blobs.seen c.args.area.now) (g.B.Blobs.seen c.read_end.new.area)) (sym (from_start (length c.args.front.now) 2))
    (halts_behind (page_gets 0 (length c.args.front.now)) (page_gets (length c.args.front.now) 2) (g.B.Blobs.seen c.args.area.now) (g.B.Blobs.seen c.read_front.new.area) (g.B.Blobs.seen c.read_end.new.area) c.in_ok-rows.ensures.runs c.in_err-found.field-0.0 c.in_err-found.ensures.runs))

pub returns-in_err-found-clause-damaged : goal.returns-in_err-found-clause-damaged
returns-in_err-found-clause-damaged g c = λ m is.
    let p = err_from_is_err_and c.from_residual-in_err-found.result c.from_residual-in_err-found.ensures.1 in
    let kept = gets_keep (page_gets 0 (length c.args.front.now)) (g.B.Blobs.seen c.args.area.now) (g.B.Blobs.seen c.read_front.new.area) (page_gets-gets 0 (length c.args.front.now)) c.in_ok-rows.ensures.runs ∙ is in
    damaged_told (IsDamagedIn m c.args.base.now (c.args.front.now ++ c.args.last.now ∷ [])) (IsDamagedIn m c.args.base.now (c.args.front.now ++ c.args.last.now ∷ []))
    c.from_residual-in_err-found.result c.in_err-found.field-0.0 (p.1 ∙ ap Err p.2) (λ name told. told) (c.in_err-found.ensures.damaged m kept)

pub returns-clause-runs : goal.returns-clause-runs
returns-clause-runs g c =
    subst (λ (l : List Act). Makes l (g.B.Blobs.seen c.args.area.now) (g.B.Blobs.seen c.read_end.new.area)) (sym (from_start (length c.args.front.now) 2))
    (makes_then (page_gets 0 (length c.args.front.now)) (page_gets (length c.args.front.now) 2) (g.B.Blobs.seen c.args.area.now) (g.B.Blobs.seen c.read_front.new.area) (g.B.Blobs.seen c.read_end.new.area) c.in_ok-rows.ensures.runs c.in_ok-found.ensures.runs)

pub returns-clause-exact : goal.returns-clause-exact
returns-clause-exact g c = λ m pages is held.
    let kept = gets_keep (page_gets 0 (length c.args.front.now)) (g.B.Blobs.seen c.args.area.now) (g.B.Blobs.seen c.read_front.new.area) (page_gets-gets 0 (length c.args.front.now)) c.in_ok-rows.ensures.runs ∙ is in
    let parts = held_ends m c.args.base.now c.args.front.now c.args.last.now pages held in
    let rows = c.in_ok-rows.ensures.exact m parts.part.before is parts.before parts.as_many in
    let ends = c.in_ok-found.ensures.exact m parts.part.ends kept parts.ending in
    joined_read c.args.front.now c.args.last.now pages parts.part c.in_ok-found.found.rows c.in_ok-found.found.heads
    (ends.0 ∙ ap (λ (l : List Row). l ++ rows_on parts.part.ends) rows) ends.1
