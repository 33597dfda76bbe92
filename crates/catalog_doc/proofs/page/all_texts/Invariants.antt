use Rattle.std.proofs.Common.{◌≡◌, ◌++◌, drop, map}
use Rattle.catalog_doc.specs.Documents.{row_data}
use Rattle.catalog_doc.specs.Texts.{told_row}
use Rattle.catalog_doc.proofs.page.all_texts.Given as goal

abbrev pub invariant-loop-row : goal.invariant-loop-row
invariant-loop-row l = map told_row l.texts.items ++ map (row_data l.base) (drop l.row-index l.rows) ≡ map (row_data l.base) l.rows
