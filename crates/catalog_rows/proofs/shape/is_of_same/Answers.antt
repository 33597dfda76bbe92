use Rattle.std.proofs.Common.{◌∙◌, ap}
use Rattle.std.specs.Ordering.{is_eq}
use Rattle.catalog_rows.proofs.Places.{same_by_version}
use Rattle.catalog_rows.proofs.shape.is_of_same.Goals as goal

pub returns-then-same : goal.returns-then-same
returns-then-same c =
    c.is_eq.ensures ∙ ap is_eq c.compare.ensures
    ∙ same_by_version c.args.change.now c.args.other.now c.id_of.result.now c.id_of-2.result.now c.version_of.result.now c.version_of-then-same.result.now
    c.id_of.ensures c.id_of-2.ensures c.version_of.ensures c.version_of-then-same.ensures (c.same.ensures.0 c.if-same.true)
