use Rattle.std.proofs.Common.{List, ℕ, ap, ◌∙◌}
use Rattle.http_wire.specs.Response.{wire_bytes}
use Rattle.feed_host.proofs.ServingLemmas.{sent_part, sent_whole}
use Rattle.feed_host.proofs.sending.send.Goals as goal

pub returns-in-Ok-written-clause-out : goal.returns-in-Ok-written-clause-out
returns-in-Ok-written-clause-out g c =
    let r = c.args.reply.now in
    sent_whole c.as_slice.result.now (wire_bytes r.status r.kind r.allow c.args.last r.body) _ _
    (c.as_slice.ensures ∙ c.in-Ok.ensures ∙ ap (λ
    (b : List ℕ). wire_bytes r.status r.kind r.allow c.args.last b) c.as_slice-body.ensures) c.in-Ok-written.ensures.writes

pub returns-in-Err-clause-out : goal.returns-in-Err-clause-out
returns-in-Err-clause-out g c =
    let r = c.args.reply.now in
    sent_part c.as_slice.result.now (wire_bytes r.status r.kind r.allow c.args.last r.body) _ _
    (c.as_slice.ensures ∙ c.in-Ok.ensures ∙ ap (λ
    (b : List ℕ). wire_bytes r.status r.kind r.allow c.args.last b) c.as_slice-body.ensures) c.in-Err.ensures.writes
