use Rattle.std.proofs.Common.{sym, ◌∙◌}
use Rattle.nuget_version.proofs.Compared.{position_cut, position_none}
use Rattle.nuget_version.proofs.compare.first_part.Goals as goal

pub returns-in-Some-clause-more : goal.returns-in-Some-clause-more
returns-in-Some-clause-more c = position_cut c.args.text.now c.in-Some.at (sym c.in-Some.is ∙ c.dot_at.ensures)

pub returns-in-None-clause-last : goal.returns-in-None-clause-last
returns-in-None-clause-last c = position_none c.args.text.now (sym c.in-None.is ∙ c.dot_at.ensures)
