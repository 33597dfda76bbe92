use Rattle.http_wire.proofs.TalkLemmas.{one_of}
use Rattle.http_wire.proofs.laws.one_talk.Goals as goal

pub returns : goal.returns
returns c input a b x y s t = one_of a b input x y s t
