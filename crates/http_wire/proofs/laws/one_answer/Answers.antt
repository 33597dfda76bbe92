use Rattle.http_wire.proofs.LawLemmas.{one_at}
use Rattle.http_wire.proofs.laws.one_answer.Goals as goal

pub returns : goal.returns
returns c bytes a b h k = one_at _ bytes a b h k
