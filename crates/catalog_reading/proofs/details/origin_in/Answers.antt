use Rattle.std.proofs.Common.{◌∙◌}
use Rattle.serde_json.specs.View.{view}
use Rattle.catalog_reading.proofs.Readable.{is_read, not_read}
use Rattle.catalog_reading.proofs.Shows.{shows_origin}
use Rattle.catalog_reading.proofs.details.origin_in.Goals as goal

pub returns-in-Some : goal.returns-in-Some
returns-in-Some c = λ d v shows. c.origin_of.ensures d.origin_number d.origin_place v.origin_number v.origin_place (is_read _ _ _ _ c.in-Some.is (c.text_in.ensures ∙ shows_origin d (view c.args.value.now) shows))

pub returns-in-None : goal.returns-in-None
returns-in-None c = λ d v shows. absurd (not_read _ _ _ c.in-None.is (c.text_in.ensures ∙ shows_origin d (view c.args.value.now) shows))
