use Rattle.std.proofs.Common.{arith}
use Rattle.http_wire.proofs.BufferLemmas.{reads_at}
use Rattle.http_wire.proofs.wire_in.read_at.Goals as goal

pub returns-clause-reads : goal.returns-clause-reads
returns-clause-reads g c =
    reads_at c.args.at c.args.room.now c.split_at_mut-back.result.0.now c.read.new.buffer _ _ c.read.result c.split_at_mut-back.ensures.front (omega (arith, c.requires)) c.read.ensures.within c.read.ensures.reads
