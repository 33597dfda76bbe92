use Rattle.catalog_reading.proofs.Parsed.{version_read}
use Rattle.catalog_reading.proofs.Readable.{is_read}
use Rattle.catalog_reading.proofs.fields.version_in.Goals as goal

pub returns-in-Some : goal.returns-in-Some
returns-in-Some c = λ base row seen.
    version_read c.read.result c.in-Some.text.now row.version (is_read _ _ _ _ c.in-Some.is (c.version_text.ensures.row base row seen)) c.read.ensures.found c.read.ensures.none
