use Rattle.cursor_doc.proofs.Cursors.{first_cursor_is}
use Rattle.cursor_doc.proofs.laws.first_document.Goals as goal

pub returns : goal.returns
returns c = first_cursor_is
