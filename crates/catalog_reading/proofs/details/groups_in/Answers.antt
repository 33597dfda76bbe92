use Rattle.std.proofs.Common.{◌∙◌}
use Rattle.serde_json.specs.View.{view}
use Rattle.catalog_reading.proofs.Shows.{shows_groups}
use Rattle.catalog_reading.proofs.details.groups_in.Goals as goal

pub returns : goal.returns
returns c = λ d shows. c.groups_of.ensures d.meta.groups (c.items_in.ensures ∙ shows_groups d (view c.args.value.now) shows)
