use Rattle.http_wire.proofs.StatusLemmas.{has_status}
use Rattle.http_wire.proofs.laws.refusals_have_statuses.Goals as goal

pub returns : goal.returns
returns c bytes status h = has_status bytes status h
