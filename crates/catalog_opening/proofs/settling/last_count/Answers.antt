use Rattle.std.proofs.Common.{ap, sym}
use Rattle.catalog_doc.specs.declared.head.PageHead.{PageHead}
use Rattle.catalog_doc.proofs.Lists.{at_last_head}
use Rattle.catalog_opening.proofs.settling.last_count.Goals as goal

pub returns-in-Some : goal.returns-in-Some
returns-in-Some c = ap (λ (head : PageHead). head.count) (sym (at_last_head c.args.pages.now c.in-Some.head.now c.in-Some.ensures.value))
