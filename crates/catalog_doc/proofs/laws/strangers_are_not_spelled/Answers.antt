use Rattle.catalog_doc.proofs.Unspelled.{no_foreign, no_missing_page, no_old_index}
use Rattle.catalog_doc.proofs.laws.strangers_are_not_spelled.Goals as goal

pub returns-clause-foreign : goal.returns-clause-foreign
returns-clause-foreign c = no_foreign

pub returns-clause-page : goal.returns-clause-page
returns-clause-page c = no_missing_page

pub returns-clause-index : goal.returns-clause-index
returns-clause-index c = no_old_index
