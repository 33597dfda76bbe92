use Rattle.catalog_doc.proofs.Spelling.{all_spell, each_spells}
use Rattle.catalog_laws.proofs.Kept.{stays_catalog}
use Rattle.catalog_laws.proofs.laws.commits_lead_on.Goals as goal

pub returns-clause-whole : goal.returns-clause-whole
returns-clause-whole c = λ m base cs changes now commit onto. all_spell m base cs commit (stays_catalog cs changes now commit onto)

pub returns-clause-prefixes : goal.returns-clause-prefixes
returns-clause-prefixes c = λ m base cs changes now commit onto. each_spells m base cs commit (stays_catalog cs changes now commit onto)
