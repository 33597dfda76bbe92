use Rattle.http_wire.proofs.PhraseLemmas.{phrase_of_status}
use Rattle.http_wire.proofs.response.code_of.Goals as goal

pub unreachable-requires : goal.unreachable-requires
unreachable-requires c = phrase_of_status c.args.status c.requires c.in-Err.ensures
