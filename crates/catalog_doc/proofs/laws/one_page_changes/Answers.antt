use Rattle.catalog_doc.proofs.LookUps.{elsewhere_stays}
use Rattle.catalog_doc.proofs.laws.one_page_changes.Goals as goal

pub returns : goal.returns
returns c = elsewhere_stays
