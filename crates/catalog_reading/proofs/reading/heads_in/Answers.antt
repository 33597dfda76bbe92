use Rattle.std.proofs.Common.{◌∙◌, ap}
use Rattle.json.specs.Value.{items_view}
use Rattle.catalog_reading.proofs.Readable.{is_read}
use Rattle.catalog_reading.proofs.reading.heads_in.Goals as goal

pub returns-in-Some : goal.returns-in-Some
returns-in-Some c = λ base heads are seen.
    c.heads_of.ensures base heads are (ap items_view c.as_slice.ensures.value ∙ is_read _ _ _ _ c.in-Some.is (c.listed.ensures.index base heads seen))
