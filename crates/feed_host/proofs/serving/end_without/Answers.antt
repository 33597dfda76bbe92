use Rattle.std.proofs.Common.{List, ℕ, true, Some, None, refl, sym, subst}
use Rattle.http_wire.specs.Response.{wire_bytes}
use Rattle.http_wire.specs.declared.request.WireErr.{WireErr}
use Rattle.feed_host.specs.Steps.{Closing, Sending}
use Rattle.feed_host.specs.declared.end.End.TheVariants.{AfterError}
use Rattle.feed_host.proofs.ServingLemmas.{closing_cut, refusal_is}
use Rattle.feed_host.proofs.StatusLemmas.{bad_status, sendable, sending_status}
use Rattle.feed_host.proofs.serving.end_without.Goals as goal

pub send-requires : goal.send-requires
send-requires g c = sendable c.args.why c.in-Bad.status c.bare.result c.requires c.in-Bad.is c.bare.ensures

pub returns-in-None-clause-closes : goal.returns-in-None-clause-closes
returns-in-None-clause-closes g c =
    let out = subst (λ (bytes : List ℕ). Sending bytes (g.L.Link.written c.args.link.now) None (g.L.Link.written c.send.new.link))
    (refusal_is c.bare.result c.in-Bad.status c.bare.ensures) c.in-None.ensures.out in
    subst (λ (e : WireErr). Closing e (g.L.Link.written c.args.link.now) (AfterError c.in-Bad.status)
    (g.L.Link.written c.send.new.link)) (sym c.in-Bad.is) (refl, out)

pub returns-clause-closes : goal.returns-clause-closes
returns-clause-closes g c =
    let out = subst (λ (bytes : List ℕ). Sending bytes (g.L.Link.written c.args.link.now) (Some c.in-Some.end) (g.L.Link.written c.send.new.link))
    (refusal_is c.bare.result c.in-Bad.status c.bare.ensures) c.in-Some.ensures.out in
    subst (λ (e : WireErr). Closing e (g.L.Link.written c.args.link.now) c.in-Some.end (g.L.Link.written c.send.new.link)) (sym c.in-Bad.is)
    (closing_cut c.in-Some.end c.in-Bad.status _ _ out)

pub returns-in-None-clause-status : goal.returns-in-None-clause-status
returns-in-None-clause-status g c = bad_status c.args.why c.in-Bad.status c.requires c.in-Bad.is

pub returns-clause-status : goal.returns-clause-status
returns-clause-status g c =
    let r = c.bare.result in
    sending_status (wire_bytes r.status r.kind r.allow true r.body) (g.L.Link.written c.args.link.now) (g.L.Link.written c.send.new.link)
    c.in-Some.end c.in-Some.ensures.out
