use Rattle.std.proofs.Common.{◌∙◌, ℕ, List, Err, IfOk, ap, inl, inr, refl, sym}
use Rattle.std.specs.Prelude.{Contains}
use Rattle.std.proofs.lemmas.Result.{err_from_is_err_and}
use Rattle.catalog_doc.specs.declared.row.Row.{Row}
use Rattle.catalog_opening.proofs.Halting.{damaged_told}
use Rattle.catalog_items.specs.Leaves.{AreCommitsAt, IsNoLeafOf}
use Rattle.catalog_items.proofs.Absent.{read_weaker}
use Rattle.catalog_core.specs.Opened.{IsUnsettled}
use Rattle.catalog_core.proofs.Frames.{ready_of, stays_gets}
use Rattle.catalog_core.proofs.Reading.{below, commits_read}
use Rattle.catalog_core.proofs.catalog.Catalog.commits.Goals as goal

pub returns-in_err-settle-clause-damaged : goal.returns-in_err-settle-clause-damaged
returns-in_err-settle-clause-damaged g c = λ m now held at.
    let p = err_from_is_err_and c.from_residual.result c.from_residual.ensures.1 in
    damaged_told (IsUnsettled m c.args.self.now) _ c.from_residual.result c.in_err-settle.field-0.0 (p.1 ∙ ap Err p.2) (λ name told. inl told) (c.in_err-settle.ensures.damaged m held)

pub returns-clause-reads : goal.returns-clause-reads
returns-clause-reads g c = λ cs open_for.
    let stays = c.in_ok-settle.ensures.stays in
    let opened = rw (← c.self.view_is) at (stays.open_for cs open_for).open_for in
    let ready = ready_of _ _ cs (rw (← c.self.view_is) at c.in_ok-settle.ensures.settled) opened in
    commits_read _ _ cs ready c.as_str.result.now c.as_slice.result.now c.as_str.ensures c.as_slice.ensures c.commits_at.result c.commits_at.ensures.exact

pub returns-clause-stays : goal.returns-clause-stays
returns-clause-stays g c =
    stays_gets _ _ _ _ (g.B.Blobs.seen c.self.inside.area) _ _ _ (rw (← c.self.view_is) at c.in_ok-settle.ensures.stays) (λ is. let no : ⊥ = cc in no)
    c.commits_at.ensures.gets refl refl refl

pub returns-clause-held : goal.returns-clause-held
returns-clause-held g c = λ now at.
    below (λ (base : List ℕ) (rows : List Row). IfOk c.commits_at.result (AreCommitsAt now base rows)) c.as_str.ensures c.as_slice.ensures (c.commits_at.ensures.ok now (sym c.commits_at.ensures.gets.area ∙ at))

pub returns-clause-damaged : goal.returns-clause-damaged
returns-clause-damaged g c = λ m now held at.
    read_weaker (λ (name : List ℕ). (row : Row) × Contains c.as_slice.result.now row × IsNoLeafOf now c.as_str.result.now row name) _ c.commits_at.result
    (λ name told. inr (below (λ (base : List ℕ) (rows : List Row). (row : Row) × Contains rows row × IsNoLeafOf now base row name) c.as_str.ensures c.as_slice.ensures told))
    (c.commits_at.ensures.damaged now (sym c.commits_at.ensures.gets.area ∙ at))
