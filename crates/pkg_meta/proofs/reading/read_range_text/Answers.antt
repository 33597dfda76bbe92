use Rattle.std.proofs.lemmas.Result.{IfOk-weaker}
use Rattle.pkg_meta.proofs.Matches.{if_none}
use Rattle.pkg_meta.proofs.reading.read_range_text.Goals as goal

pub returns-in-Err-clause-none : goal.returns-in-Err-clause-none
returns-in-Err-clause-none c = IfOk-weaker c.no_range.result _ _ (λ o h. if_none o _ (λ r spelled. h.0 (c.in-Err.ensures.accepts r spelled))) c.no_range.ensures
