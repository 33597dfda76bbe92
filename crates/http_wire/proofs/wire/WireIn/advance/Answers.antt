use Rattle.http_wire.proofs.BufferLemmas.{piece_on}
use Rattle.http_wire.proofs.wire.WireIn.advance.Goals as goal

pub returns : goal.returns
returns c = piece_on c.args.self.now.bytes.items c.args.self.now.start c.args.self.now.end c.args.n
