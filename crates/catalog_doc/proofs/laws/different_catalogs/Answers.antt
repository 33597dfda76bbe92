use Rattle.catalog_doc.proofs.AllPages.{same_all_pages, same_any_index}
use Rattle.catalog_doc.proofs.OnePage.{same_first_page, same_index}
use Rattle.catalog_doc.proofs.laws.different_catalogs.Goals as goal

pub returns-clause-rows : goal.returns-clause-rows
returns-clause-rows c = same_first_page

pub returns-clause-pages : goal.returns-clause-pages
returns-clause-pages c = same_all_pages

pub returns-clause-base : goal.returns-clause-base
returns-clause-base c = same_index

pub returns-clause-any_base : goal.returns-clause-any_base
returns-clause-any_base c = same_any_index
