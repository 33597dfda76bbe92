use Rattle.std.proofs.Common.{◌∙◌, [], ◌∷◌, Err, ap}
use Rattle.std.proofs.lemmas.Result.{err_from_is_err_and}
use Rattle.catalog_opening.specs.Plans.{index_change}
use Rattle.catalog_opening.specs.declared.error.ReadErr.TheVariants.{Memory}
use Rattle.catalog_opening.proofs.Halting.{halts_unstarted, reading_told}
use Rattle.catalog_opening.proofs.index.put_index.Goals as goal

pub returns-in_err-call-clause-runs : goal.returns-in_err-call-clause-runs
returns-in_err-call-clause-runs g c =
    let p = err_from_is_err_and c.from_residual.result c.from_residual.ensures.1 in
    reading_told (index_change c.args.base.now c.args.heads.now ∷ []) (g.B.Blobs.seen c.args.area.now) (g.B.Blobs.seen c.args.area.now) c.from_residual.result Memory (p.1 ∙ ap Err p.2)
    (halts_unstarted (index_change c.args.base.now c.args.heads.now ∷ []) (g.B.Blobs.seen c.args.area.now) (g.met.B.Blobs.now c.args.area.now))
