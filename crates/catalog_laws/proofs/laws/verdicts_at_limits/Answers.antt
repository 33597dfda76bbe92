use Rattle.catalog_laws.proofs.Verdicts.{full_id_refused, full_refused, many_refused}
use Rattle.catalog_laws.proofs.laws.verdicts_at_limits.Goals as goal

pub returns-clause-changes : goal.returns-clause-changes
returns-clause-changes c = many_refused

pub returns-clause-id : goal.returns-clause-id
returns-clause-id c = full_id_refused

pub returns-clause-items : goal.returns-clause-items
returns-clause-items c = full_refused
