use Rattle.catalog_rows.proofs.Places.{parts}
use Rattle.catalog_rows.proofs.laws.refusals_have_parts.Goals as goal

pub returns : goal.returns
returns c = λ cs changes. parts cs changes
