use Rattle.std.proofs.Common.{ap, ◌∙◌}
use Rattle.std.specs.List.{filter_map}
use Rattle.serde_json.specs.Find.{as_str}
use Rattle.serde_json.specs.View.{view}
use Rattle.catalog_reading.proofs.Shows.{strings_back, told}
use Rattle.hive_state.proofs.Shown.{names_at}
use Rattle.hive_state.proofs.reading.names_in.Goals as goal

pub returns : goal.returns
returns c = λ s seen.
    told c.copy_texts_of.result c.copy_texts_of.ensures (ap (filter_map as_str) (c.items_in.ensures ∙ names_at s (view c.args.value.now) seen) ∙ strings_back s.names)
