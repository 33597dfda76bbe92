use Rattle.catalog_doc.proofs.Prefixes.{prefix_is_catalog}
use Rattle.catalog_doc.proofs.laws.prefixes_are_catalogs.Goals as goal

pub returns : goal.returns
returns c = prefix_is_catalog
