use Rattle.std.proofs.Common.{◌∙◌}
use Rattle.catalog_reading.proofs.Leaves.{leaf_stamp}
use Rattle.catalog_reading.proofs.Readable.{is_read, not_read}
use Rattle.catalog_reading.proofs.leaf_reading.stamp_in.Goals as goal

pub returns-in-Some : goal.returns-in-Some
returns-in-Some c = λ base n p stamp it fits is. c.moment_of.ensures stamp fits (is_read _ _ _ _ c.in-Some.is (c.text_in.ensures ∙ leaf_stamp base n p stamp it _ is))

pub returns-in-None : goal.returns-in-None
returns-in-None c = λ base n p stamp it fits is. absurd (not_read _ _ _ c.in-None.is (c.text_in.ensures ∙ leaf_stamp base n p stamp it _ is))
