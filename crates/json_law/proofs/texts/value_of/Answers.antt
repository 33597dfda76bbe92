use Rattle.std.proofs.Common.{sym, ◌∙◌}
use Rattle.json_law.proofs.Readers.{read-readable, not_refused}
use Rattle.json_law.proofs.texts.value_of.Goals as goal

pub returns-in-Ok-clause-compact : goal.returns-in-Ok-clause-compact
returns-in-Ok-clause-compact c d readable is = sym c.in-Ok.ensures.ok.1 ∙ read-readable c.args.bytes.now d readable is

pub returns-in-Err-clause-compact : goal.returns-in-Err-clause-compact
returns-in-Err-clause-compact c d readable is =
    not_refused c.args.bytes.now d readable is c.in-Err.ensures.err c.none_unless_memory.result c.none_unless_memory.ensures
