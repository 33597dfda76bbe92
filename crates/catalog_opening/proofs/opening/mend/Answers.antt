use Rattle.std.proofs.Common.{Bool, subst, sym}
use Rattle.blob_store.specs.Plans.{Makes}
use Rattle.blob_store.proofs.OneCall.{none}
use Rattle.catalog_opening.specs.Openings.{mending}
use Rattle.catalog_opening.proofs.opening.mend.Goals as goal

pub returns-then-found-clause-runs : goal.returns-then-found-clause-runs
returns-then-found-clause-runs g c =
    subst (λ (settled : Bool). Makes (mending c.args.base.now settled c.args.found.now.heads) (g.B.Blobs.seen c.args.area.now) (g.B.Blobs.seen c.args.area.now)) (sym c.if-found.true)
    (none (g.B.Blobs.seen c.args.area.now) (g.met.B.Blobs.now c.args.area.now))
