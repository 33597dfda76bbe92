use Rattle.std.proofs.Common.{◌≡◌, ◌∙◌, ℕ, List, [], ◌∷◌, Err, Option, Some, ap, subst, sym}
use Rattle.std.proofs.lemmas.Result.{err_from_is_err_and}
use Rattle.std.specs.FinMap.{get}
use Rattle.feed_base.proofs.Options.{at_some}
use Rattle.blob_store.specs.Area.{Area}
use Rattle.blob_store.specs.Events.{Get}
use Rattle.catalog_doc.specs.Names.{index_name}
use Rattle.catalog_opening.specs.Reads.{IsNoIndex, IsReadIndex}
use Rattle.catalog_opening.proofs.Halting.{damaged_told, halts_made, reading_told}
use Rattle.catalog_opening.proofs.index.get_index.Goals as goal

pub returns-in_err-index-clause-runs : goal.returns-in_err-index-clause-runs
returns-in_err-index-clause-runs g c =
    let p = err_from_is_err_and c.from_residual-in_err-index.result c.from_residual-in_err-index.ensures.1 in
    reading_told (Get index_name ∷ []) (g.B.Blobs.seen c.args.area.now) (g.B.Blobs.seen c.get_one.new.area) c.from_residual-in_err-index.result c.in_err-index.field-0.0 (p.1 ∙ ap Err p.2)
    (halts_made (Get index_name ∷ []) c.in_err-index.field-0.0 (g.B.Blobs.seen c.args.area.now) (g.B.Blobs.seen c.get_one.new.area) c.in_ok-bytes.ensures.runs (λ fault. c.in_err-index.ensures.fault (ap Err fault)))

pub returns-in_err-index-clause-damaged : goal.returns-in_err-index-clause-damaged
returns-in_err-index-clause-damaged g c = λ m is.
    let p = err_from_is_err_and c.from_residual-in_err-index.result c.from_residual-in_err-index.ensures.1 in
    let held : get m index_name ≡ Some c.as_slice.result.now =
    sym (at_some (g.B.Blobs.seen c.args.area.now).held (λ (m : Area). c.in_ok-bytes.field-0 ≡ get m index_name) m is c.in_ok-bytes.ensures.found) ∙ c.in-Some.is ∙ ap Some (sym c.as_slice.ensures) in
    damaged_told (λ (name : List ℕ). (name ≡ index_name) × IsNoIndex (Some c.as_slice.result.now)) (λ (name : List ℕ). (name ≡ index_name) × IsNoIndex (get m index_name)) c.from_residual-in_err-index.result c.in_err-index.field-0.0 (p.1 ∙ ap Err p.2)
    (λ name told. (told.0, subst IsNoIndex (sym held) told.1)) c.in_err-index.ensures.damaged

pub returns-clause-ok : goal.returns-clause-ok
returns-clause-ok g c = λ m is.
    let held : get m index_name ≡ Some c.as_slice.result.now =
    sym (at_some (g.B.Blobs.seen c.args.area.now).held (λ (m : Area). c.in_ok-bytes.field-0 ≡ get m index_name) m is c.in_ok-bytes.ensures.found) ∙ c.in-Some.is ∙ ap Some (sym c.as_slice.ensures) in
    subst (λ (found : Option (List ℕ)). IsReadIndex found c.in_ok-index.index) (sym held) c.in_ok-index.ensures.ok
