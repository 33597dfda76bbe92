use Rattle.std.proofs.Common.{◌∙◌}
use Rattle.catalog_reading.proofs.Parsed.{id_read}
use Rattle.catalog_reading.proofs.Readable.{is_read, not_read}
use Rattle.catalog_reading.proofs.Shows.{dep_id}
use Rattle.catalog_reading.proofs.dependencies.id_in.Goals as goal

pub returns-in-Some : goal.returns-in-Some
returns-in-Some c = λ dep is.
    id_read c.read.result c.in-Some.text.now dep.id (is_read _ _ _ _ c.in-Some.is (c.text_in.ensures ∙ dep_id dep _ is)) c.read.ensures.found c.read.ensures.none

pub returns-in-None : goal.returns-in-None
returns-in-None c = λ dep is. absurd (not_read _ _ _ c.in-None.is (c.text_in.ensures ∙ dep_id dep _ is))
