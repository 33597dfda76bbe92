use Rattle.job_round.specs.Ids.{HasIds, keys_of}
use Rattle.job_round.proofs.ids.Ids.of.Given as goal

-- the rows so far are taken
abbrev pub invariant-loop-row : goal.invariant-loop-row
invariant-loop-row l = HasIds l.yielded (keys_of l.yielded) l.ids
