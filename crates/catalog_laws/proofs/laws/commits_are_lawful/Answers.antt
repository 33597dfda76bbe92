use Rattle.catalog_laws.proofs.Kept.{none_catalog, stays_catalog}
use Rattle.catalog_laws.proofs.Reasons.{made_only}
use Rattle.catalog_laws.proofs.laws.commits_are_lawful.Goals as goal

pub returns-clause-none : goal.returns-clause-none
returns-clause-none c = none_catalog

pub returns-clause-made : goal.returns-clause-made
returns-clause-made c = made_only

pub returns-clause-kept : goal.returns-clause-kept
returns-clause-kept c = stays_catalog
