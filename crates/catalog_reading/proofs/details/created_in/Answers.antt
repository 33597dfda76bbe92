use Rattle.std.proofs.Common.{◌∙◌}
use Rattle.serde_json.specs.View.{view}
use Rattle.catalog_reading.proofs.Readable.{is_read, not_read}
use Rattle.catalog_reading.proofs.Shows.{shows_created}
use Rattle.catalog_reading.proofs.details.created_in.Goals as goal

pub returns-in-Some : goal.returns-in-Some
returns-in-Some c = λ d v shows. c.moment_of.ensures d.created v.created (is_read _ _ _ _ c.in-Some.is (c.text_in.ensures ∙ shows_created d (view c.args.value.now) shows))

pub returns-in-None : goal.returns-in-None
returns-in-None c = λ d v shows. absurd (not_read _ _ _ c.in-None.is (c.text_in.ensures ∙ shows_created d (view c.args.value.now) shows))
