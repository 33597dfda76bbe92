use Rattle.catalog_doc.proofs.Spelling.{all_spell, each_spells}
use Rattle.catalog_doc.proofs.Unspelled.{none_spelled}
use Rattle.catalog_doc.proofs.laws.commits_are_spelled.Goals as goal

pub returns-clause-none : goal.returns-clause-none
returns-clause-none c = none_spelled

pub returns-clause-whole : goal.returns-clause-whole
returns-clause-whole c = all_spell

pub returns-clause-prefixes : goal.returns-clause-prefixes
returns-clause-prefixes c = each_spells
