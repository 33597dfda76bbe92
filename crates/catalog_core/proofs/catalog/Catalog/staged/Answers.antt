use Rattle.std.proofs.Common.{◌≡◌, ◌∙◌, ℕ, List, [], ◌∷◌, Err, ap, inl, inr, refl, subst, sym}
use Rattle.std.proofs.lemmas.Result.{err_from_is_err_and}
use Rattle.blob_store.specs.Events.{Get}
use Rattle.catalog_doc.specs.Names.{staged_name}
use Rattle.catalog_opening.proofs.Halting.{damaged_told}
use Rattle.catalog_items.specs.Reads.{IsAbsent}
use Rattle.catalog_items.proofs.Absent.{read_weaker}
use Rattle.catalog_items.proofs.Getting.{only_gets}
use Rattle.catalog_opening.specs.Plans.{RunsReading}
use Rattle.catalog_core.specs.Opened.{IsUnsettled, Opened}
use Rattle.catalog_core.proofs.Frames.{ready_of, stays_gets}
use Rattle.catalog_core.proofs.Reading.{settled_quiet, settled_runs, staged_read}
use Rattle.catalog_core.proofs.catalog.Catalog.staged.Goals as goal

pub returns-in_err-settle-clause-damaged : goal.returns-in_err-settle-clause-damaged
returns-in_err-settle-clause-damaged g c = λ m now held at.
    let p = err_from_is_err_and c.from_residual.result c.from_residual.ensures.1 in
    damaged_told (IsUnsettled m c.args.self.now) _ c.from_residual.result c.in_err-settle.field-0.0 (p.1 ∙ ap Err p.2) (λ name told. inl told) (c.in_err-settle.ensures.damaged m held)

pub returns-clause-reads : goal.returns-clause-reads
returns-clause-reads g c = λ cs commit brought open_for there at is.
    let stays = c.in_ok-settle.ensures.stays in
    let opened = rw (← c.self.view_is) at (stays.open_for cs open_for).open_for in
    let ready = ready_of _ _ cs (rw (← c.self.view_is) at c.in_ok-settle.ensures.settled) opened in
    staged_read _ _ cs ready commit brought c.args.number c.args.place c.args.nuspec c.deref.result.now (c.deref.ensures ∙ c.in_ok-name.ensures) there at is
    c.bytes_at.result c.bytes_at.ensures.found c.bytes_at.ensures.damaged

pub returns-clause-stays : goal.returns-clause-stays
returns-clause-stays g c =
    stays_gets _ _ _ _ (g.B.Blobs.seen c.self.inside.area) _ _ _ (rw (← c.self.view_is) at c.in_ok-settle.ensures.stays) (λ is. let no : ⊥ = cc in no)
    (only_gets (Get c.deref.result.now ∷ []) _ _ tt c.bytes_at.result c.bytes_at.ensures.runs) refl refl refl

pub returns-clause-damaged : goal.returns-clause-damaged
returns-clause-damaged g c = λ m now held at.
    let gets = only_gets (Get c.deref.result.now ∷ []) _ _ tt c.bytes_at.result c.bytes_at.ensures.runs in
    let named : c.deref.result.now ≡ staged_name c.args.number c.args.place c.args.nuspec = c.deref.ensures ∙ c.in_ok-name.ensures in
    read_weaker (IsAbsent c.deref.result.now now) _ c.bytes_at.result
    (λ name told. inr (subst (λ (n : List ℕ). IsAbsent n now name) named told)) (c.bytes_at.ensures.damaged now (sym gets.area ∙ at))

pub returns-in_err-settle-clause-runs : goal.returns-in_err-settle-clause-runs
returns-in_err-settle-clause-runs g c = λ settled. absurd (c.in_err-settle.ensures.same settled).1

pub returns-in_err-name-clause-runs : goal.returns-in_err-name-clause-runs
returns-in_err-name-clause-runs g c = λ settled.
    let p = err_from_is_err_and c.from_residual-in_err-name.result c.from_residual-in_err-name.ensures.1 in
    settled_quiet g.B.Blobs.seen c.args.self.now c.settle.new.self (Get (staged_name c.args.number c.args.place c.args.nuspec) ∷ []) c.from_residual-in_err-name.result
    (c.in_ok-settle.ensures.same settled).0 (g.met.B.Blobs.now c.settle.new.self.area) (p.1 ∙ ap Err p.2)

pub returns-clause-runs : goal.returns-clause-runs
returns-clause-runs g c = λ settled.
    settled_runs g.B.Blobs.seen c.args.self.now _ (λ (o : Opened _). Get (staged_name c.args.number c.args.place c.args.nuspec) ∷ []) (g.B.Blobs.seen c.bytes_at.new.area) c.bytes_at.result
    (c.self.view_is ∙ (c.in_ok-settle.ensures.same settled).0)
    (subst (λ (n : List ℕ). RunsReading (Get n ∷ []) (g.B.Blobs.seen c.self.inside.area) (g.B.Blobs.seen c.bytes_at.new.area) c.bytes_at.result)
    (c.deref.ensures ∙ c.in_ok-name.ensures) c.bytes_at.ensures.runs)
