use Rattle.std.proofs.Common.{sym}
use Rattle.catalog_doc.proofs.Lists.{at_last_row}
use Rattle.catalog_doc.proofs.page.last_of.Goals as goal

pub returns-in-Some-clause-number : goal.returns-in-Some-clause-number
returns-in-Some-clause-number c = sym (at_last_row c.args.rows.now c.in-Some.row.now c.in-Some.ensures.value).0

pub returns-in-Some-clause-stamp : goal.returns-in-Some-clause-stamp
returns-in-Some-clause-stamp c = sym (at_last_row c.args.rows.now c.in-Some.row.now c.in-Some.ensures.value).1
