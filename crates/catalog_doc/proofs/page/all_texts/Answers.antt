use Rattle.catalog_doc.specs.Documents.{row_data}
use Rattle.catalog_doc.specs.Texts.{told_row}
use Rattle.catalog_doc.proofs.Lists.{text_turn}
use Rattle.catalog_doc.proofs.page.all_texts.Goals as goal

pub loop-row-preserved : goal.loop-row-preserved
loop-row-preserved c = text_turn told_row (row_data _) _ _ _ _ _ _ _ c.loop-row-test.true c.row-item.is c.in_ok-row_texts.ensures c.in_ok-push.ensures.items c.loop-row.invariant
