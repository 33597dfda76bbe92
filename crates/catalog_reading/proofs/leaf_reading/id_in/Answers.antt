use Rattle.std.proofs.Common.{◌∙◌}
use Rattle.catalog_reading.proofs.Leaves.{gone_id}
use Rattle.catalog_reading.proofs.Parsed.{id_read}
use Rattle.catalog_reading.proofs.Readable.{is_read, not_read}
use Rattle.catalog_reading.proofs.leaf_reading.id_in.Goals as goal

pub returns-in-Some : goal.returns-in-Some
returns-in-Some c = λ base n p stamp i v is.
    id_read c.read.result c.in-Some.text.now i (is_read _ _ _ _ c.in-Some.is (c.text_in.ensures ∙ gone_id base n p stamp i v _ is)) c.read.ensures.found c.read.ensures.none

pub returns-in-None : goal.returns-in-None
returns-in-None c = λ base n p stamp i v is. absurd (not_read _ _ _ c.in-None.is (c.text_in.ensures ∙ gone_id base n p stamp i v _ is))
