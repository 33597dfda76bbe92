use Rattle.std.proofs.Common.{◌∙◌}
use Rattle.serde_json.specs.View.{view}
use Rattle.catalog_reading.proofs.Shows.{shows_listed}
use Rattle.catalog_reading.proofs.details.listed_in.Goals as goal

pub returns : goal.returns
returns c = λ d shows. c.flag_in.ensures ∙ shows_listed d (view c.args.value.now) shows
