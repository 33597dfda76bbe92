use Rattle.std.proofs.Common.{◌∙◌}
use Rattle.catalog_reading.proofs.Readable.{is_read, not_read}
use Rattle.catalog_reading.proofs.Shows.{dep_range}
use Rattle.catalog_reading.proofs.dependencies.range_in.Goals as goal

pub returns-in-Some : goal.returns-in-Some
returns-in-Some c = λ dep is. c.read_range.ensures dep.range (is_read _ _ _ _ c.in-Some.is (c.text_in.ensures ∙ dep_range dep _ is))

pub returns-in-None : goal.returns-in-None
returns-in-None c = λ dep is. absurd (not_read _ _ _ c.in-None.is (c.text_in.ensures ∙ dep_range dep _ is))
