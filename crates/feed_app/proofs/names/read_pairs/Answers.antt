use Rattle.std.proofs.lemmas.Result.{err_from_is_err_and}
use Rattle.feed_app.proofs.Naming.{first_pair, read_on, stops_at}
use Rattle.feed_app.proofs.names.read_pairs.Goals as goal

pub returns-in_err-change-clause-refused : goal.returns-in_err-change-clause-refused
returns-in_err-change-clause-refused c =
    let p = err_from_is_err_and c.from_residual.result c.from_residual.ensures.1 in
    let pair = first_pair c.loop-rest.rest.now c.id-item.result c.version-item.result _ _ c.as_str.result.now c.as_str-in-len2-up.result.now
    c.in-len2-up.len_at_least c.id-item.is c.version-item.is
    c.as_str.ensures.value c.as_str-in-len2-up.ensures.value in
    rw (p.1, p.2) (stops_at c.in_err-change.field-0.0 c.args.kind c.args.words.now c.loop-rest.rest.now _ _ c.loop-rest.changes c.len-place.result
    c.loop-rest.invariant pair c.len-place.ensures
    c.in_err-change.ensures.refused)

pub loop-rest-preserved : goal.loop-rest-preserved
loop-rest-preserved c =
    let pair = first_pair c.loop-rest.rest.now c.id-item.result c.version-item.result _ _ c.as_str.result.now c.as_str-in-len2-up.result.now
    c.in-len2-up.len_at_least c.id-item.is c.version-item.is
    c.as_str.ensures.value c.as_str-in-len2-up.ensures.value in
    rw c.in-Ok.ensures.ok (read_on c.args.kind c.args.words.now c.loop-rest.rest.now _ _ c.loop-rest.changes c.in_ok-change.change c.loop-rest.invariant pair
    c.in_ok-change.ensures.ok)
