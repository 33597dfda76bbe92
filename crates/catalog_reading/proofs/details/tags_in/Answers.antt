use Rattle.std.proofs.Common.{ap, ◌∙◌}
use Rattle.std.specs.List.{filter_map}
use Rattle.serde_json.specs.Find.{as_str}
use Rattle.serde_json.specs.View.{view}
use Rattle.catalog_reading.proofs.Shows.{shows_tags, told}
use Rattle.catalog_reading.proofs.details.tags_in.Goals as goal

pub returns : goal.returns
returns c = λ d shows. told c.copy_texts_of.result c.copy_texts_of.ensures (ap (filter_map as_str) c.items_in.ensures ∙ shows_tags d (view c.args.value.now) shows)
