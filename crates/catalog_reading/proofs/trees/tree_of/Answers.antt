use Rattle.std.proofs.Common.{sym, ◌∙◌}
use Rattle.catalog_reading.proofs.Outlines.{document-readable, not_refused}
use Rattle.catalog_reading.proofs.trees.tree_of.Goals as goal

pub returns-in-Ok : goal.returns-in-Ok
returns-in-Ok c = λ d readable is. sym c.in-Ok.ensures.ok.1 ∙ document-readable c.args.bytes.now d readable is

pub returns-in-Err : goal.returns-in-Err
returns-in-Err c = λ d readable is.
    let told = c.from_slice.ensures in
    not_refused c.args.bytes.now d readable is c.from_slice.result c.in-Err.error c.in-Err.is told.invalid told.never_too_long told.never_duplicate c.refused.result c.refused.ensures
