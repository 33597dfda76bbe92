use Rattle.http_wire.proofs.BodyLemmas.{unread_none}
use Rattle.http_wire.proofs.wire.WireIn.new.Goals as goal

pub returns-clause-told : goal.returns-clause-told
returns-clause-told c left = unread_none left
