use Rattle.std.proofs.Common.{◌∷◌, [], ap, ◌∙◌, Err}
use Rattle.std.proofs.lemmas.Result.{err_from_is_err_and}
use Rattle.blob_store.specs.Events.{Get}
use Rattle.hive_state.specs.State.{state_name}
use Rattle.job_round.specs.declared.stop.Stop.TheVariants.{HiveDamaged, Memory}
use Rattle.job_round.proofs.Halting.{got_as, halts_before, halts_behind, halts_told}
use Rattle.job_round.proofs.states.state_of.Goals as goal

pub returns-in_err-name-clause-runs : goal.returns-in_err-name-clause-runs
returns-in_err-name-clause-runs g c =
    let p = err_from_is_err_and c.from_residual.result c.from_residual.ensures.1 in
    halts_told (Get (state_name c.args.key.now) ∷ []) c.from_residual.result Memory (g.B.Blobs.seen c.args.area.now) (g.B.Blobs.seen c.args.area.now) (p.1 ∙ ap Err p.2)
    (halts_before (Get (state_name c.args.key.now) ∷ []) Memory (g.B.Blobs.seen c.args.area.now) tt (g.met.B.Blobs.now c.args.area.now))

pub returns-in_err-state-clause-runs : goal.returns-in_err-state-clause-runs
returns-in_err-state-clause-runs g c =
    let p = err_from_is_err_and c.from_residual-in_err-state.result c.from_residual-in_err-state.ensures.1 in
    halts_told (Get (state_name c.args.key.now) ∷ []) c.from_residual-in_err-state.result Memory (g.B.Blobs.seen c.args.area.now) (g.B.Blobs.seen c.get.new.area) (p.1 ∙ ap Err p.2)
    (halts_behind (Get (state_name c.args.key.now) ∷ []) Memory (g.B.Blobs.seen c.args.area.now) (g.B.Blobs.seen c.get.new.area) tt
    (got_as c.as_str.result.now (state_name c.args.key.now) (g.B.Blobs.seen c.args.area.now) (g.B.Blobs.seen c.get.new.area) (c.as_str.ensures ∙ c.in_ok-name.ensures) c.in_ok-bytes.ensures.runs))

pub returns-in-None-clause-runs : goal.returns-in-None-clause-runs
returns-in-None-clause-runs g c =
    halts_behind (Get (state_name c.args.key.now) ∷ []) (HiveDamaged c.in_ok-name.name) (g.B.Blobs.seen c.args.area.now) (g.B.Blobs.seen c.get.new.area) tt
    (got_as c.as_str.result.now (state_name c.args.key.now) (g.B.Blobs.seen c.args.area.now) (g.B.Blobs.seen c.get.new.area) (c.as_str.ensures ∙ c.in_ok-name.ensures) c.in_ok-bytes.ensures.runs)
