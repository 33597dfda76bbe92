use Rattle.std.proofs.Common.{refl, sym}
use Rattle.std.proofs.lemmas.Result.{err_from_is_err_and}
use Rattle.version_range.proofs.Refused.{bad_end_of}
use Rattle.version_range.proofs.reading.read_end.Goals as goal

pub returns-in_err-end-clause-refused : goal.returns-in_err-end-clause-refused
returns-in_err-end-clause-refused c =
    let p = err_from_is_err_and c.from_residual.result c.from_residual.ensures.1 in
    rw (p.1, p.2) (bad_end_of c.args.text.now c.trim-core.result.now c.args.at _ c.count_lead.result c.in_err-end.field-0.0
    c.trim-core.ensures.text c.count_lead.ensures.lead refl (sym c.if-is_empty.ensures) c.in_err-end.ensures.refused)
