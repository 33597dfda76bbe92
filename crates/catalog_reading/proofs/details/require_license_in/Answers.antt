use Rattle.std.proofs.Common.{◌∙◌}
use Rattle.serde_json.specs.View.{view}
use Rattle.catalog_reading.proofs.Shows.{shows_require_license}
use Rattle.catalog_reading.proofs.details.require_license_in.Goals as goal

pub returns : goal.returns
returns c = λ d shows. c.flag_in.ensures ∙ shows_require_license d (view c.args.value.now) shows
