use Rattle.std.proofs.Common.{◌≡◌, [], ℕ, List, Option, Err, None, Ok, Some, refl, subst, sym}
use Rattle.std.specs.FinMap.{get}
use Rattle.feed_app.specs.Calls.{RunsBehind}
use Rattle.feed_app.specs.Causes.{IfCatalogDamaged}
use Rattle.feed_app.specs.declared.answer.Answer.{Answer}
use Rattle.feed_app.proofs.Behind.{absent_told, doc_told, made_all, read_told}
use Rattle.feed_app.proofs.get.catalog_document.Goals as goal

pub returns-in-Ok-Some-clause-runs : goal.returns-in-Ok-Some-clause-runs
returns-in-Ok-Some-clause-runs g c = λ cs ready.
    let a = g.B.Blobs.seen c.args.catalog.now.area in
    let b = g.B.Blobs.seen c.doc.new.self.area in
    doc_told {A = Option (List ℕ)} c.args.catalog.now c.args.name.now a b cs _ (Ok (Some c.in-Ok-Some.bytes)) (c.in-Ok-Some.ensures.runs ready.settled) ready.open_for
    (λ plan made. made_all plan a b _ refl made)

pub returns-in-Ok-None-clause-runs : goal.returns-in-Ok-None-clause-runs
returns-in-Ok-None-clause-runs g c = λ cs ready.
    let a = g.B.Blobs.seen c.args.catalog.now.area in
    let b = g.B.Blobs.seen c.doc.new.self.area in
    doc_told {A = Option (List ℕ)} c.args.catalog.now c.args.name.now a b cs _ (Ok None) (c.in-Ok-None.ensures.runs ready.settled) ready.open_for
    (λ plan made. made_all plan a b _ refl made)

pub returns-in-Err-clause-runs : goal.returns-in-Err-clause-runs
returns-in-Err-clause-runs g c = λ cs ready.
    let a = g.B.Blobs.seen c.args.catalog.now.area in
    let b = g.B.Blobs.seen c.doc.new.self.area in
    doc_told {A = Option (List ℕ)} c.args.catalog.now c.args.name.now a b cs _ (Err c.in-Err.error) (c.in-Err.ensures.runs ready.settled) ready.open_for
    (λ plan ran. subst (λ (x : Answer). RunsBehind [] plan x a b) (sym c.of_catalog_read.ensures) (read_told plan a b {A = Option (List ℕ)} c.in-Err.error (Err c.in-Err.error) refl ran))

pub returns-in-Err-clause-absent : goal.returns-in-Err-clause-absent
returns-in-Err-clause-absent g c = λ settled m later told left.
    subst (λ (x : Answer). IfCatalogDamaged x (λ blob. get later blob ≡ None)) (sym c.of_catalog_read.ensures)
    (absent_told c.args.catalog.now c.args.name.now m later c.in-Err.error settled (c.in-Err.ensures.damaged m later told left))
