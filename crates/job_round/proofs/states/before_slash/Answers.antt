use Rattle.std.proofs.Common.{sym, ◌∙◌}
use Rattle.job_round.proofs.Owners.{cut_is, cut_none}
use Rattle.job_round.proofs.states.before_slash.Goals as goal

pub returns-in-Some : goal.returns-in-Some
returns-in-Some c = cut_is c.args.bytes.now c.in-Some.at (sym c.in-Some.is ∙ c.slash_at.ensures)

pub returns-in-None : goal.returns-in-None
returns-in-None c = cut_none c.args.bytes.now (sym c.in-None.is ∙ c.slash_at.ensures)
