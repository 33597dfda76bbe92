use Rattle.std.proofs.Common.{◌∙◌}
use Rattle.serde_json.specs.View.{view}
use Rattle.catalog_reading.proofs.Parsed.{version_read}
use Rattle.catalog_reading.proofs.Readable.{is_read, not_read}
use Rattle.catalog_reading.proofs.Shows.{shows_version}
use Rattle.catalog_reading.proofs.details.version_in.Goals as goal

pub returns-in-Some : goal.returns-in-Some
returns-in-Some c = λ d shows.
    version_read c.read.result c.in-Some.text.now d.meta.version (is_read _ _ _ _ c.in-Some.is (c.text_in.ensures ∙ shows_version d (view c.args.value.now) shows)) c.read.ensures.found c.read.ensures.none

pub returns-in-None : goal.returns-in-None
returns-in-None c = λ d shows. absurd (not_read _ _ _ c.in-None.is (c.text_in.ensures ∙ shows_version d (view c.args.value.now) shows))
