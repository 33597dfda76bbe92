use Rattle.std.proofs.Common.{refl}
use Rattle.http_wire.proofs.LawLemmas.{refusal_stands, request_stands}
use Rattle.http_wire.proofs.laws.requests_stand.Goals as goal

pub returns-clause-request : goal.returns-clause-request
returns-clause-request c bytes more behind r h = request_stands bytes more behind r _ refl h

pub returns-clause-refusal : goal.returns-clause-refusal
returns-clause-refusal c bytes more status h = refusal_stands bytes more status _ refl h
