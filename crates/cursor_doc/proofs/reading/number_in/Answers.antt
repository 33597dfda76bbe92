use Rattle.catalog_reading.proofs.Readable.{is_read, not_read}
use Rattle.cursor_doc.proofs.reading.number_in.Goals as goal

pub returns-in-Some : goal.returns-in-Some
returns-in-Some c = λ number stamp fits seen. c.commit_number.ensures number fits (is_read _ _ _ _ c.in-Some.is (c.commit_text.ensures number stamp seen))

pub returns-in-None : goal.returns-in-None
returns-in-None c = λ number stamp fits seen. absurd (not_read _ _ _ c.in-None.is (c.commit_text.ensures number stamp seen))
