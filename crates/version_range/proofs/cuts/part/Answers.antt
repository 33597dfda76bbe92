use Rattle.version_range.proofs.Edges.{part_is}
use Rattle.version_range.proofs.cuts.part.Goals as goal

pub returns-clause-cut : goal.returns-clause-cut
returns-clause-cut c = part_is c.args.text.now c.split_once.result c.split_once.ensures.cases
