use Rattle.std.proofs.Common.{sym}
use Rattle.catalog_doc.proofs.Lists.{at_last_head}
use Rattle.catalog_doc.proofs.index.last_head.Goals as goal

pub returns-in-Some : goal.returns-in-Some
returns-in-Some c = sym (at_last_head c.args.heads.now c.in-Some.head.now c.in-Some.ensures.value)
