use Rattle.std.proofs.Common.{◌≡◌, ◌∙◌, List, ℕ, [], ◌∷◌, Err, None, Option, ap, subst, sym}
use Rattle.std.proofs.lemmas.Result.{err_from_is_err_and}
use Rattle.std.specs.FinMap.{get}
use Rattle.feed_base.proofs.Options.{at_some}
use Rattle.blob_store.specs.Area.{Area}
use Rattle.blob_store.specs.Events.{Get, Change}
use Rattle.blob_store.specs.Plans.{Makes, StopsAt}
use Rattle.blob_store.specs.declared.call.Call.{Call}
use Rattle.blob_store.proofs.Following.{makes_then}
use Rattle.catalog_doc.specs.Commits.{index_put}
use Rattle.catalog_doc.specs.Names.{index_name}
use Rattle.catalog_core.specs.Errors.{init_err_of}
use Rattle.catalog_core.specs.Openings.{StopsInit}
use Rattle.catalog_core.specs.declared.error.InitErr.TheVariants.{Memory}
use Rattle.catalog_core.proofs.FirstIndex.{absent, behind_made, get_stopped, put_stopped, runs_told, stopped_counts, unstarted}
use Rattle.catalog_core.proofs.opening.put_first_index.Goals as goal

pub returns-in_err-call-clause-runs : goal.returns-in_err-call-clause-runs
returns-in_err-call-clause-runs g c = λ m is.
    let p = err_from_is_err_and c.from_residual.result c.from_residual.ensures.1 in
    let a = g.B.Blobs.seen c.args.area.now in
    runs_told c.args.base.now (get m index_name) a a c.from_residual.result Memory (p.1 ∙ ap Err p.2) (unstarted c.args.base.now (get m index_name) a (g.met.B.Blobs.now c.args.area.now))

pub returns-in_err-found-clause-runs : goal.returns-in_err-found-clause-runs
returns-in_err-found-clause-runs g c = λ m is.
    let p = err_from_is_err_and c.from_residual-in_err-found.result c.from_residual-in_err-found.ensures.1 in
    let error = c.in_err-found.field-0.0 in
    let a = g.B.Blobs.seen c.args.area.now in
    let b = g.B.Blobs.seen c.get_one.new.area in
    runs_told c.args.base.now (get m index_name) a b c.from_residual-in_err-found.result (init_err_of error) (p.1 ∙ ap Err p.2) (get_stopped c.args.base.now (get m index_name) error a b c.in_err-found.ensures.runs)

pub returns-in_err-found-clause-counted : goal.returns-in_err-found-clause-counted
returns-in_err-found-clause-counted g c =
    let p = err_from_is_err_and c.from_residual-in_err-found.result c.from_residual-in_err-found.ensures.1 in
    stopped_counts (Get index_name ∷ []) c.in_err-found.field-0.0 (g.B.Blobs.seen c.args.area.now) (g.B.Blobs.seen c.get_one.new.area) c.from_residual-in_err-found.result (p.1 ∙ ap Err p.2) c.in_err-found.ensures.runs

pub returns-in_err-call_one-clause-runs : goal.returns-in_err-call_one-clause-runs
returns-in_err-call_one-clause-runs g c = λ m is.
    let p = err_from_is_err_and c.from_residual-in_err-call_one.result c.from_residual-in_err-call_one.ensures.1 in
    let error = c.in_err-call_one.field-0.0 in
    let a = g.B.Blobs.seen c.args.area.now in
    let b = g.B.Blobs.seen c.get_one.new.area in
    let d = g.B.Blobs.seen c.call_one.new.area in
    let gone : get m index_name ≡ None =
    sym (at_some a.held (λ (x : Area). c.in_ok-found.found ≡ get x index_name) m is c.in_ok-found.ensures.found) ∙ absent c.in_ok-found.found (sym c.is_some.ensures ∙ c.if-is_some.false) in
    runs_told c.args.base.now (get m index_name) a d c.from_residual-in_err-call_one.result (init_err_of error) (p.1 ∙ ap Err p.2)
    (subst (λ (found : Option (List ℕ)). StopsInit c.args.base.now found (init_err_of error) a d) (sym gone)
    (put_stopped c.args.base.now error a b d c.in_ok-found.ensures.runs (subst (λ (call : Call). StopsAt (Change call ∷ []) error b d) c.in_ok-call.ensures c.in_err-call_one.ensures.runs)))

pub returns-in_err-call_one-clause-counted : goal.returns-in_err-call_one-clause-counted
returns-in_err-call_one-clause-counted g c =
    let p = err_from_is_err_and c.from_residual-in_err-call_one.result c.from_residual-in_err-call_one.ensures.1 in
    let a = g.B.Blobs.seen c.args.area.now in
    let b = g.B.Blobs.seen c.get_one.new.area in
    let d = g.B.Blobs.seen c.call_one.new.area in
    behind_made (Get index_name ∷ []) a b d _ c.in_ok-found.ensures.runs
    (stopped_counts (Change c.in_ok-call.call ∷ []) c.in_err-call_one.field-0.0 b d c.from_residual-in_err-call_one.result (p.1 ∙ ap Err p.2) c.in_err-call_one.ensures.runs)

pub returns-clause-runs : goal.returns-clause-runs
returns-clause-runs g c = λ m is.
    let a = g.B.Blobs.seen c.args.area.now in
    let b = g.B.Blobs.seen c.get_one.new.area in
    let d = g.B.Blobs.seen c.call_one.new.area in
    record {
      absent = sym (at_some a.held (λ (x : Area). c.in_ok-found.found ≡ get x index_name) m is c.in_ok-found.ensures.found) ∙ absent c.in_ok-found.found (sym c.is_some.ensures ∙ c.if-is_some.false);
      made = makes_then (Get index_name ∷ []) (Change (index_put c.args.base.now []) ∷ []) a b d c.in_ok-found.ensures.runs
          (subst (λ (call : Call). Makes (Change call ∷ []) b d) c.in_ok-call.ensures c.in_ok-call_one.ensures.runs);
    }
