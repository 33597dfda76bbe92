use Rattle.catalog_laws.proofs.Verdicts.{absent_refused, existing_refused, first_taken, late_refused, listed_refused, none_taken, other_refused, twice_refused, unlisting_taken}
use Rattle.catalog_laws.proofs.laws.first_verdicts.Goals as goal

pub returns-clause-first : goal.returns-clause-first
returns-clause-first c = first_taken

pub returns-clause-empty : goal.returns-clause-empty
returns-clause-empty c = none_taken

pub returns-clause-twice : goal.returns-clause-twice
returns-clause-twice c = twice_refused

pub returns-clause-absent : goal.returns-clause-absent
returns-clause-absent c = absent_refused

pub returns-clause-exists : goal.returns-clause-exists
returns-clause-exists c = existing_refused

pub returns-clause-other : goal.returns-clause-other
returns-clause-other c = other_refused

pub returns-clause-listed : goal.returns-clause-listed
returns-clause-listed c = listed_refused

pub returns-clause-ended : goal.returns-clause-ended
returns-clause-ended c = late_refused

pub returns-clause-unlisted : goal.returns-clause-unlisted
returns-clause-unlisted c = unlisting_taken
