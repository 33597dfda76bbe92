use Rattle.serde_json.specs.View.{view}
use Rattle.catalog_reading.proofs.Shows.{shows_hash, told}
use Rattle.catalog_reading.proofs.details.hash_in.Goals as goal

pub returns : goal.returns
returns c = λ d shows. told c.copy_text_in.result c.copy_text_in.ensures (shows_hash d (view c.args.value.now) shows)
