use Rattle.std.proofs.Common.{◌∙◌, ap}
use Rattle.json.specs.Value.{items_view}
use Rattle.catalog_reading.proofs.Readable.{is_read, not_read}
use Rattle.catalog_reading.proofs.reading.rows_in.Goals as goal

pub returns-in-Some : goal.returns-in-Some
returns-in-Some c = λ k rows are seen.
    c.rows_of.ensures rows are (ap items_view c.as_slice.ensures.value ∙ is_read _ _ _ _ c.in-Some.is (c.listed.ensures.page c.args.base.now k rows seen))

pub returns-in-None : goal.returns-in-None
returns-in-None c = λ k rows are seen. absurd (not_read _ _ _ c.in-None.is (c.listed.ensures.page c.args.base.now k rows seen))
