use Rattle.std.proofs.Common.{[], ℕ, List, Err, inl, ap, subst, sym, ◌∙◌, Result}
use Rattle.std.proofs.lemmas.Result.{err_from_is_err_and}
use Rattle.blob_store.specs.Events.{Change}
use Rattle.blob_store.specs.declared.call.Call.TheVariants.{Put}
use Rattle.cursor_doc.specs.Cursor.{cursor_name}
use Rattle.job_round.specs.Rounds.{RunsLast, cursor_put}
use Rattle.job_round.specs.declared.stop.Stop.{Stop}
use Rattle.job_round.specs.declared.stop.Stop.TheVariants.{Memory}
use Rattle.job_round.proofs.Halting.{halts_before}
use Rattle.job_round.proofs.Lasting.{last_of}
use Rattle.job_round.proofs.cursor.put_cursor.Goals as goal

pub returns-in_err-bytes-clause-runs : goal.returns-in_err-bytes-clause-runs
returns-in_err-bytes-clause-runs g c =
    let p = err_from_is_err_and c.from_residual.result c.from_residual.ensures.1 in
    subst (λ (r : Result (Unit {0}) Stop). RunsLast (cursor_put c.args.mark.now.number c.args.mark.now.stamp) (g.B.Blobs.seen c.args.area.now) (g.B.Blobs.seen c.args.area.now) r)
    (sym (p.1 ∙ ap Err p.2)) (inl (halts_before [] Memory (g.B.Blobs.seen c.args.area.now) tt (g.met.B.Blobs.now c.args.area.now)))

pub returns-clause-runs : goal.returns-clause-runs
returns-clause-runs g c =
    last_of (cursor_put c.args.mark.now.number c.args.mark.now.stamp) (Change (Put cursor_name c.as_slice.result.now)) (g.B.Blobs.seen c.args.area.now) (g.B.Blobs.seen c.put.new.area) c.put.result
    (ap (λ (b : List ℕ). Change (Put cursor_name b)) (c.as_slice.ensures ∙ c.in_ok-bytes.ensures)) c.put.ensures.runs
