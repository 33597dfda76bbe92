use Rattle.catalog_laws.proofs.Verdicts.{again_taken, gone_refused, hidden_refused, shown_taken}
use Rattle.catalog_laws.proofs.laws.later_verdicts.Goals as goal

pub returns-clause-gone : goal.returns-clause-gone
returns-clause-gone c = gone_refused

pub returns-clause-again : goal.returns-clause-again
returns-clause-again c = again_taken

pub returns-clause-hidden : goal.returns-clause-hidden
returns-clause-hidden c = hidden_refused

pub returns-clause-shown : goal.returns-clause-shown
returns-clause-shown c = shown_taken
