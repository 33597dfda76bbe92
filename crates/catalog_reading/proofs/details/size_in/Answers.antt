use Rattle.std.proofs.Common.{◌∙◌}
use Rattle.serde_json.specs.View.{view}
use Rattle.catalog_reading.proofs.Shows.{shows_size}
use Rattle.catalog_reading.proofs.details.size_in.Goals as goal

pub returns : goal.returns
returns c = λ d shows. c.number_in.ensures ∙ shows_size d (view c.args.value.now) shows
