use Rattle.cursor_doc.proofs.Cursors.{cursors_differ}
use Rattle.cursor_doc.proofs.laws.different_cursors.Goals as goal

pub returns : goal.returns
returns c = cursors_differ
