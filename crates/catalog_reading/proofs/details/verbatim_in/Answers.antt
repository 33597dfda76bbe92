use Rattle.serde_json.specs.View.{view}
use Rattle.catalog_reading.proofs.Shows.{shows_verbatim, told}
use Rattle.catalog_reading.proofs.details.verbatim_in.Goals as goal

pub returns : goal.returns
returns c = λ d shows. told c.copy_text_in.result c.copy_text_in.ensures (shows_verbatim d (view c.args.value.now) shows)
