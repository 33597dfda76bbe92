use Rattle.catalog_reading.proofs.Readable.{is_read, not_read}
use Rattle.catalog_reading.proofs.fields.count_in.Goals as goal

pub returns-in-Some : goal.returns-in-Some
returns-in-Some c = λ base k head fits seen.
    c.decimal_of.ensures head.count fits.count (is_read _ _ _ _ c.in-Some.is (c.count_text.ensures.head base k head seen))

pub returns-in-None : goal.returns-in-None
returns-in-None c = λ base k head fits seen. absurd (not_read _ _ _ c.in-None.is (c.count_text.ensures.head base k head seen))
