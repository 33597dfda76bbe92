use Rattle.std.proofs.Common.{◌∙◌, ap, arith}
use Rattle.catalog_doc.specs.Documents.{last_number}
use Rattle.catalog_rows.proofs.Newest.{tells_last}
use Rattle.catalog_rows.proofs.rows.Rows.next_number.Goals as goal

pub returns : goal.returns
returns c = λ cs is are.
    let told = tells_last c.args.self.now.rows cs is are in
    let number = c.last_of-number.ensures.number ∙ ap last_number c.as_slice.ensures ∙ told.number in
    omega (arith, number, told.few, c.saturating_add.ensures)
