use Rattle.pkg_meta.proofs.OneAnswer.{one_refusal, not_both}
use Rattle.pkg_meta.proofs.laws.reasons_exclude.Goals as goal

pub returns-clause-one : goal.returns-clause-one
returns-clause-one c = one_refusal

pub returns-clause-none : goal.returns-clause-none
returns-clause-none c = not_both
