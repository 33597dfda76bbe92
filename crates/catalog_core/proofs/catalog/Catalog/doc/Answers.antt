use Rattle.std.proofs.Common.{◌≡◌, ◌∙◌, ℕ, List, Err, ap, arith, length, inl, inr, refl, subst, sym}
use Rattle.std.specs.Option.{is_some}
use Rattle.std.proofs.lemmas.Result.{err_from_is_err_and}
use Rattle.catalog_doc.specs.CatDocs.{doc_at}
use Rattle.catalog_opening.proofs.Halting.{damaged_told}
use Rattle.catalog_items.specs.ByRows.{has_doc}
use Rattle.catalog_items.specs.Reads.{IsAbsent, IsRead}
use Rattle.catalog_items.proofs.Absent.{read_weaker}
use Rattle.catalog_items.proofs.Getting.{only_gets}
use Rattle.catalog_core.specs.Framing.{doc_gets}
use Rattle.catalog_core.specs.Opened.{IsUnsettled, Opened}
use Rattle.catalog_core.proofs.Frames.{ready_of, stays_gets}
use Rattle.catalog_core.proofs.Reading.{doc_gets_are, doc_read, few_pages, has_by, settled_runs}
use Rattle.catalog_core.proofs.catalog.Catalog.doc.Goals as goal

pub returns-in_err-settle-clause-damaged : goal.returns-in_err-settle-clause-damaged
returns-in_err-settle-clause-damaged g c = λ m now held at.
    let p = err_from_is_err_and c.from_residual.result c.from_residual.ensures.1 in
    damaged_told (IsUnsettled m c.args.self.now) _ c.from_residual.result c.in_err-settle.field-0.0 (p.1 ∙ ap Err p.2) (λ name told. inl told) (c.in_err-settle.ensures.damaged m held)

pub returns-clause-reads : goal.returns-clause-reads
returns-clause-reads g c = λ cs open_for.
    let stays = c.in_ok-settle.ensures.stays in
    let opened = rw (← c.self.view_is) at (stays.open_for cs open_for).open_for in
    let ready = ready_of _ _ cs (rw (← c.self.view_is) at c.in_ok-settle.ensures.settled) opened in
    let few = few_pages _ _ cs ready in
    subst (λ (base : List ℕ). IsRead (doc_at base cs c.args.name.now) c.document_at.result) (rw (← c.self.view_is) at stays.base)
    (doc_read _ _ cs ready c.args.name.now c.as_slice.result.now c.page_count-pages.result c.as_slice.ensures
    (c.page_count-pages.ensures (omega (arith, few, ap length c.pages.ensures)) ∙ ap length c.pages.ensures)
    c.document_at.result c.document_at.ensures.none c.document_at.ensures.some c.document_at.ensures.found c.document_at.ensures.own c.document_at.ensures.damaged)

pub returns-clause-stays : goal.returns-clause-stays
returns-clause-stays g c =
    stays_gets _ _ _ _ (g.B.Blobs.seen c.self.inside.area) _ _ _ (rw (← c.self.view_is) at c.in_ok-settle.ensures.stays) (λ is. let no : ⊥ = cc in no)
    (only_gets _ _ _ (doc_gets_are _ c.args.name.now) c.document_at.result c.document_at.ensures.runs) refl refl refl

pub returns-clause-held : goal.returns-clause-held
returns-clause-held g c = λ now at.
    let gets = only_gets _ _ _ (doc_gets_are _ c.args.name.now) c.document_at.result c.document_at.ensures.runs in
    c.document_at.ensures.found now (sym gets.area ∙ at)

pub returns-clause-damaged : goal.returns-clause-damaged
returns-clause-damaged g c = λ m now held at.
    let gets = only_gets _ _ _ (doc_gets_are _ c.args.name.now) c.document_at.result c.document_at.ensures.runs in
    read_weaker (IsAbsent c.args.name.now now) _ c.document_at.result (λ name told. inr told) (c.document_at.ensures.damaged now (sym gets.area ∙ at))

pub returns-in_err-settle-clause-runs : goal.returns-in_err-settle-clause-runs
returns-in_err-settle-clause-runs g c = λ settled. absurd (c.in_err-settle.ensures.same settled).1

pub returns-clause-runs : goal.returns-clause-runs
returns-clause-runs g c = λ settled.
    let same = c.self.view_is ∙ (c.in_ok-settle.ensures.same settled).0 in
    let there = has_doc c.args.name.now c.as_slice.result.now c.page_count-pages.result in (
      there,
      (λ cs open_for.
          let stays = c.in_ok-settle.ensures.stays in
          let opened = rw (← c.self.view_is) at (stays.open_for cs open_for).open_for in
          let ready = ready_of _ _ cs (rw (← c.self.view_is) at c.in_ok-settle.ensures.settled) opened in
          let few = few_pages _ _ cs ready in
          subst (λ (base : List ℕ). is_some (doc_at base cs c.args.name.now) ≡ there) (rw (← c.self.view_is) at stays.base)
          (has_by _ _ cs ready c.args.name.now c.as_slice.result.now c.page_count-pages.result c.as_slice.ensures
          (c.page_count-pages.ensures (omega (arith, few, ap length c.pages.ensures)) ∙ ap length c.pages.ensures))),
      settled_runs g.B.Blobs.seen c.args.self.now _ (λ (o : Opened _). doc_gets there c.args.name.now) (g.B.Blobs.seen c.document_at.new.area) c.document_at.result
          same c.document_at.ensures.runs,
    )
