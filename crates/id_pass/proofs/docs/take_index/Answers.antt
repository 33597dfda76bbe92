use Rattle.std.proofs.Common.{sym, ◌∙◌}
use Rattle.id_pass.proofs.Named.{bodies_of-without, get-bodies_of}
use Rattle.id_pass.proofs.docs.take_index.Goals as goal

pub returns-clause-was : goal.returns-clause-was
returns-clause-was c = c.remove.ensures.value ∙ sym (get-bodies_of c.args.docs.now c.args.index.now)

pub returns-clause-others : goal.returns-clause-others
returns-clause-others c = bodies_of-without c.args.index.now c.args.docs.now c.remove.new.self c.remove.ensures.updates
