use Rattle.catalog_reading.proofs.Readable.{is_read, not_read}
use Rattle.catalog_reading.proofs.fields.number_in.Goals as goal

pub returns-in-Some : goal.returns-in-Some
returns-in-Some c = λ base k head fits seen. c.commit_number.ensures head.number fits.number (is_read _ _ _ _ c.in-Some.is (c.commit_text.ensures.head base k head seen))

pub returns-in-None : goal.returns-in-None
returns-in-None c = λ base k head fits seen. absurd (not_read _ _ _ c.in-None.is (c.commit_text.ensures.head base k head seen))
