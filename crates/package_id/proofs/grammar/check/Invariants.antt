use Rattle.std.proofs.Common.{take}
use Rattle.package_id.proofs.Fronts.{LeadsTo}
use Rattle.package_id.proofs.grammar.check.Given as goal

-- what is left has to complete what was read
abbrev pub invariant-loop-at : goal.invariant-loop-at
invariant-loop-at l = LeadsTo (take l.at l.text) l.in_part
